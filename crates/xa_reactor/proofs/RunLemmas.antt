-- A run: turn after turn.
use Rattle.std.proofs.Common.{◌≡◌, ◌≢◌, ◌⊎◌, inl, inr, true, List, [], ◌∷◌, ◌++◌, Bool, ℕ, zero, suc, length, replicate, Option, Some, None, arith, IsTrue, refl, sym, ap, subst, ◌∙◌}
use Rattle.std.proofs.lemmas.List.{append-nil, append_assoc}
use Rattle.std.proofs.lemmas.List.Elements.{Contains-append_left, Contains-append_right}
use Rattle.std.specs.declared.time.Duration.{Duration}
use Rattle.xa_records.specs.Keeper.{Custody}
use Rattle.xa_server.specs.declared.front.Front.{Front}
use Rattle.xa_reactor.specs.declared.board.Board.{Board}
use Rattle.xa_reactor.specs.declared.limits.Limits.{Limits}
use Rattle.xa_reactor.specs.Run.{AreToldToEnd, AreTurns, IsServedAtOnce, IsServedWhole, TurnsGoOn, deeds_of}
use Rattle.xa_reactor.specs.Step.{Works}
use Rattle.xa_reactor.specs.Traffic.{Traffic}
use Rattle.xa_reactor.specs.Turn.{AreFree, BreaksOff, Deed, FitAll, Lanes, TakesTurn, Turn, calls_of, deeds_in, no_lanes, traffic_of}
use Rattle.xa_server.specs.Front.{IsPlayed}
use Rattle.xa_reactor.proofs.AddressLemmas.{one_address}
use Rattle.xa_reactor.proofs.DeedLemmas.{deeds_work, done_on, fit_on}
use Rattle.xa_reactor.proofs.PartLemmas.{are_parts, turns_done}
use Rattle.xa_reactor.proofs.WorksLemmas.{works_more, works_none, works_then_same}

-- turns, and others after them
pub turns_on : (turns others : List Turn) (old mid new : Lanes) → AreTurns turns old mid → AreTurns others mid new → AreTurns (turns ++ others) old new
turns_on [] others old mid new same later = subst (λ (lanes : Lanes). AreTurns others lanes new) same later
turns_on (turn ∷ turns) others old mid new (first, is, rest) later = (first, is, turns_on turns others first mid new rest later)

-- the deeds of turns and of one more
deeds_more : (turns : List Turn) (turn : Turn) → deeds_of (turns ++ turn ∷ []) ≡ deeds_of turns ++ deeds_in turn
deeds_more [] turn = append-nil (deeds_in turn)
deeds_more (first ∷ turns) turn =
    ap (λ (ds : List Deed). deeds_in first ++ ds) (deeds_more turns turn) ∙ sym (append_assoc (deeds_in first) (deeds_of turns) (deeds_in turn))

-- if no place is taken, none is
none_there : (lanes : Lanes) (count : ℕ) → AreFree lanes → length lanes ≡ count → lanes ≡ replicate count None
none_there [] zero free long = refl
none_there [] (suc count) free long = absurd (omega (arith, long))
none_there (lane ∷ lanes) zero free long = absurd (omega (arith, long))
none_there (None ∷ lanes) (suc count) free long = ap (λ (ls : Lanes). None ∷ ls) (none_there lanes count free (omega (arith, long)))
none_there (Some lane ∷ lanes) (suc count) none long = absurd none

module _ {R N : Type 0} (custody : R → Custody) (done : N → Option (List Traffic)) where
  -- works of deeds that are others
  works_of_deeds : (deeds others : List Deed) (front_old front_new : Front R) (network_old network_new : N) → deeds ≡ others
      → Works custody done (calls_of deeds) (traffic_of deeds) front_old front_new network_old network_new
      → Works custody done (calls_of others) (traffic_of others) front_old front_new network_old network_new
  works_of_deeds deeds others front_old front_new network_old network_new same works =
      subst (λ (ds : List Deed). Works custody done (calls_of ds) (traffic_of ds) front_old front_new network_old network_new) same works

  -- turns were taken so far
  pub record RunsOn (split : Bool) (first leaving : Option Duration) (new : Lanes) (front_old front_new : Front R) (network_old network_new : N) : Type 0 where
    pub turns : List Turn
    pub are_turns : AreTurns turns no_lanes new
    pub told : leaving ≢ None → (first ≢ None) ⊎ AreToldToEnd turns
    pub fit : FitAll split (deeds_of turns)
    pub works : Works custody done (calls_of (deeds_of turns)) (traffic_of (deeds_of turns)) front_old front_new network_old network_new

module _ {R N : Type 0} (custody : R → Custody) (done : N → Option (List Traffic)) (is_open : (s : R) → (custody s).sound → IsTrue (custody s).is_open) where
  pub go_on : TurnsGoOn custody done
  go_on = record { turns = turns_on; deeds = turns_done; parts = are_parts; works = works_more custody is_open done }

  -- none yet
  pub runs_none : (split : Bool) (leaving : Option Duration) (lanes : Lanes) (front : Front R) (network : N) → lanes ≡ no_lanes → RunsOn custody done split leaving leaving lanes front front network network
  runs_none split leaving lanes front network none = record { turns = []; are_turns = none; told = λ leaves. inl leaves; fit = tt; works = works_none custody is_open done front network }

  module _ (split : Bool) (first : Option Duration) where
    -- it was waited
    pub runs_wait : (leaving : Option Duration) (lanes : Lanes) (front_old front_new : Front R) (network_old network_mid network_new : N) → RunsOn custody done split first leaving lanes front_old front_new network_old network_mid
        → done network_new ≡ done network_mid → RunsOn custody done split first leaving lanes front_old front_new network_old network_new
    runs_wait leaving lanes front_old front_new network_old network_mid network_new runs same = record {
      turns = runs.turns;
      are_turns = runs.are_turns;
      told = runs.told;
      fit = runs.fit;
      works =
          works_then_same custody is_open done (calls_of (deeds_of runs.turns)) (traffic_of (deeds_of runs.turns)) front_old front_new network_old network_mid network_new runs.works same;
    }

    -- the program was told to end before a turn, or when it began
    still_told : (turns : List Turn) (turn : Turn) (was : Option Duration) → (was ≢ None → (first ≢ None) ⊎ AreToldToEnd turns) → (was ≢ None) ⊎ (turn.board.end ≡ true)
        → (first ≢ None) ⊎ AreToldToEnd (turns ++ turn ∷ [])
    still_told turns turn was told (inr ended) = inr (turn, Contains-append_right turns (turn ∷ []) turn (0, omega arith, refl), ended)
    still_told turns turn was told (inl leaves) = before (told leaves) where
      before : (first ≢ None) ⊎ AreToldToEnd turns → (first ≢ None) ⊎ AreToldToEnd (turns ++ turn ∷ [])
      before (inl is) = inl is
      before (inr (one, there, ended)) = inr (one, Contains-append_left turns (turn ∷ []) one there, ended)

    -- one turn more
    pub runs_more : (board : Board) (now : Duration) (set : Limits) (was leaving : Option Duration) (mid new : Lanes) (front_old front_mid front_new : Front R) (network_old network_mid network_new : N)
        → RunsOn custody done split first was mid front_old front_mid network_old network_mid → TakesTurn custody done split board now set leaving mid new front_mid front_new network_mid network_new
        → (leaving ≢ None → (was ≢ None) ⊎ (board.end ≡ true)) → RunsOn custody done split first leaving new front_old front_new network_old network_new
    runs_more board now set was leaving mid new front_old front_mid front_new network_old network_mid network_new runs turned ends = record {
      turns = runs.turns ++ turned.turn ∷ [];
      are_turns = turns_on runs.turns (turned.turn ∷ []) no_lanes mid new runs.are_turns (new, turned.is_turn, refl);
      told = λ leaves. still_told runs.turns turned.turn was runs.told (subst (λ (b : Board). (was ≢ None) ⊎ (b.end ≡ true)) (sym turned.told) (ends leaves));
      fit =
          subst (λ (ds : List Deed). FitAll split ds) (sym (deeds_more runs.turns turned.turn)) (fit_on split (deeds_of runs.turns) (deeds_in turned.turn) runs.fit turned.fit);
      works =
          works_of_deeds custody done (deeds_of runs.turns ++ deeds_in turned.turn) (deeds_of (runs.turns ++ turned.turn ∷ [])) front_old front_new network_old network_new
          (sym (deeds_more runs.turns turned.turn))
          (deeds_work custody done is_open (deeds_of runs.turns) (deeds_in turned.turn) front_old front_mid front_new network_old network_mid network_new runs.works turned.works);
    }

    -- it halts between two turns
    pub served_whole : (leaving : Option Duration) (lanes : Lanes) (front_old front_new : Front R) (network_old network_new : N) → RunsOn custody done split first leaving lanes front_old front_new network_old network_new
        → IsServedAtOnce custody done split front_old front_new network_old network_new
    served_whole leaving lanes front_old front_new network_old network_new runs = record {
      turns = runs.turns;
      begun = [];
      mid = lanes;
      left = lanes;
      are_turns = runs.are_turns;
      are_done = refl;
      fit = subst (λ (ds : List Deed). FitAll split ds) (sym (append-nil (deeds_of runs.turns))) runs.fit;
      works =
          works_of_deeds custody done (deeds_of runs.turns) (deeds_of runs.turns ++ []) front_old front_new network_old network_new (sym (append-nil (deeds_of runs.turns))) runs.works;
      one = λ is.
          subst (λ (ds : List Deed). IsPlayed custody front_old front_new (calls_of ds).events (calls_of ds).outcomes) (sym (append-nil (deeds_of runs.turns)))
          (one_address custody split (deeds_of runs.turns) lanes front_old front_new (turns_done runs.turns no_lanes lanes runs.are_turns) runs.fit runs.works.played is);
    }

    -- and all connections have ended
    pub served_to_end : (leaving : Option Duration) (lanes : Lanes) (front_old front_new : Front R) (network_old network_new : N) → RunsOn custody done split first leaving lanes front_old front_new network_old network_new → AreFree lanes
        → length lanes ≡ 64 → leaving ≢ None → IsServedWhole custody done split first front_old front_new network_old network_new
    served_to_end leaving lanes front_old front_new network_old network_new runs free long leaves = record {
      turns = runs.turns;
      are_turns = subst (λ (ls : Lanes). AreTurns runs.turns no_lanes ls) (none_there lanes 64 free long) runs.are_turns;
      told = runs.told leaves;
      fit = runs.fit;
      works = runs.works;
      one = one_address custody split (deeds_of runs.turns) lanes front_old front_new (turns_done runs.turns no_lanes lanes runs.are_turns) runs.fit runs.works.played;
    }

    -- it halts in a turn
    pub served_broken : (leaving : Option Duration) (mid new : Lanes) (front_old front_mid front_new : Front R) (network_old network_mid network_new : N)
        → RunsOn custody done split first leaving mid front_old front_mid network_old network_mid → BreaksOff custody done split mid new front_mid front_new network_mid network_new
        → IsServedAtOnce custody done split front_old front_new network_old network_new
    served_broken leaving mid new front_old front_mid front_new network_old network_mid network_new runs broken = record {
      turns = runs.turns;
      begun = broken.deeds;
      mid = mid;
      left = new;
      are_turns = runs.are_turns;
      are_done = broken.are_done;
      fit = fit_on split (deeds_of runs.turns) broken.deeds runs.fit broken.fit;
      works =
          deeds_work custody done is_open (deeds_of runs.turns) broken.deeds front_old front_mid front_new network_old network_mid network_new runs.works broken.works;
      one =
          one_address custody split (deeds_of runs.turns ++ broken.deeds) new front_old front_new
          (done_on (deeds_of runs.turns) broken.deeds no_lanes mid new (turns_done runs.turns no_lanes mid runs.are_turns) broken.are_done)
          (fit_on split (deeds_of runs.turns) broken.deeds runs.fit broken.fit)
          (deeds_work custody done is_open (deeds_of runs.turns) broken.deeds front_old front_mid front_new network_old network_mid network_new runs.works broken.works).played;
    }
