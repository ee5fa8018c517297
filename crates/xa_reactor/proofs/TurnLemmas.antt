-- A turn: connections are taken, and then each place has its share.
use Rattle.std.proofs.Common.{◌≡◌, ℕ, ◌+◌, ◌%◌, List, [], ◌∷◌, ◌++◌, Bool, Option, Some, None, Result, Ok, Err, MatchResult, IsTrue, refl, sym, ap, subst, ◌∙◌, add-one}
use Rattle.std.proofs.lemmas.List.{append-nil, append_assoc}
use Rattle.std.specs.Duration.{as_nanos}
use Rattle.std.specs.declared.time.Duration.{Duration}
use Rattle.xa_records.specs.Keeper.{Custody}
use Rattle.xa_server.specs.declared.front.Front.{Front}
use Rattle.xa_reactor.specs.declared.board.Board.{Board}
use Rattle.xa_reactor.specs.declared.lane.Lane.{Lane}
use Rattle.xa_reactor.specs.declared.limits.Limits.{Limits}
use Rattle.xa_reactor.specs.declared.limits.Terms.{Terms}
use Rattle.xa_reactor.specs.Traffic.{Traffic}
use Rattle.xa_reactor.specs.Turn.{AreDone, AreShared, AreTerms, AreTaken, BreaksOff, Deed, IsShareOf, Lanes, TakesTurn, calls_of, closes, lane_at, rotated, steps, traffic_of}
use Rattle.xa_reactor.specs.handling.Turning.{Deals, Does, OpensNone, ShareEach, TakesSome, turn_of}
use Rattle.xa_reactor.proofs.DeedLemmas.{deeds_work, done_on, fit_on, none_fit, opens_none_on}
use Rattle.xa_reactor.proofs.WorksLemmas.{same_then_works, works_none}

-- these places had their shares, and then one more
shared_more : (terms : Terms) (place : ℕ) (places : List ℕ) (deeds more : List Deed) (old mid new : Lanes) → AreShared terms places deeds old mid
    → IsShareOf terms place (lane_at place mid) more (lane_at place new) → AreDone more mid new → AreShared terms (places ++ place ∷ []) (deeds ++ more) old new
shared_more terms place [] deeds more old mid new (none, same) share done =
    subst (λ (ds : List Deed). AreShared terms (place ∷ []) (ds ++ more) old new) (sym none)
    (subst (λ (ls : Lanes). AreShared terms (place ∷ []) more ls new) same (more, [], new, sym (append-nil more), share, done, (refl, refl)))
shared_more terms place (other ∷ places) deeds more old mid new (first, rest, after, are, its, done_first, shared) share done =
    (first, rest ++ more, after, ap (λ (ds : List Deed). ds ++ more) are ∙ append_assoc first rest more, its, done_first, shared_more terms place places rest more after mid new shared share done)

-- the places round, and one more
pub rotated_more : (first count place : ℕ) → place ≡ (first + count) % 64 → rotated first (count + 1) ≡ rotated first count ++ place ∷ []
unfolding rotated
rotated_more first count place is = rw add-one (ap (λ (p : ℕ). rotated first count ++ p ∷ []) (sym is))

pub rotated_none : (first : ℕ) → [] ≡ rotated first 0
unfolding rotated
rotated_none first = refl

-- nobody is opened in a share
pub share_opens_none : (terms : Terms) (place : ℕ) (was : Option Lane) (deeds : List Deed) (is : Option Lane) → IsShareOf terms place was deeds is → OpensNone deeds
share_opens_none terms place None [] None share = tt
share_opens_none terms place (Some was) (steps step ∷ []) (Some is) share = tt
share_opens_none terms place (Some was) (steps step ∷ closes conn reason ∷ []) None share = tt
share_opens_none terms place was deeds is absent = absurd absent

pub shares_open_none : (terms : Terms) (places : List ℕ) (deeds : List Deed) (old new : Lanes) → AreShared terms places deeds old new → OpensNone deeds
shares_open_none terms [] deeds old new (none, same) = subst (λ (ds : List Deed). OpensNone ds) (sym none) tt
shares_open_none terms (place ∷ places) deeds old new (first, rest, mid, are, share, done, shared) =
    subst (λ (ds : List Deed). OpensNone ds) (sym are)
    (opens_none_on first rest (share_opens_none terms place (lane_at place old) first (lane_at place mid) share) (shares_open_none terms places rest mid new shared))

module _ {R N : Type 0} (custody : R → Custody) (done : N → Option (List Traffic)) (is_open : (s : R) → (custody s).sound → IsTrue (custody s).is_open) where
  -- none has had its share yet
  pub each_none : (terms : Terms) (lanes : Lanes) (front : Front R) (network : N)
      → Does custody done (λ deeds. AreShared terms [] deeds lanes lanes) lanes lanes front front network network
  each_none terms lanes front network =
      record { deeds = []; are_so = (refl, refl); are_done = refl; works = works_none custody is_open done front network }

  -- one more has it
  pub each_more : (terms : Terms) (place : ℕ) (places : List ℕ) (old mid new : Lanes) (front_old front_mid front_new : Front R) (network_old network_mid network_new : N)
      → Does custody done (λ deeds. AreShared terms places deeds old mid) old mid front_old front_mid network_old network_mid
      → Does custody done (λ deeds. IsShareOf terms place (lane_at place mid) deeds (lane_at place new)) mid new front_mid front_new network_mid network_new
      → Does custody done (λ deeds. AreShared terms (places ++ place ∷ []) deeds old new) old new front_old front_new network_old network_new
  each_more terms place places old mid new front_old front_mid front_new network_old network_mid network_new first later = record {
    deeds = first.deeds ++ later.deeds;
    are_so = shared_more terms place places first.deeds later.deeds old mid new first.are_so later.are_so later.are_done;
    are_done = done_on first.deeds later.deeds old mid new first.are_done later.are_done;
    works =
        deeds_work custody done is_open first.deeds later.deeds front_old front_mid front_new network_old network_mid network_new first.works later.works;
  }

  -- deeds were done, and what came after them was broken off
  pub broken_after : (are : List Deed → Type 0) (old mid new : Lanes) (front_old front_mid front_new : Front R) (network_old network_mid network_new : N)
      → ((deeds : List Deed) → are deeds → OpensNone deeds)
      → Does custody done are old mid front_old front_mid network_old network_mid → Does custody done OpensNone mid new front_mid front_new network_mid network_new
      → Does custody done OpensNone old new front_old front_new network_old network_new
  broken_after are old mid new front_old front_mid front_new network_old network_mid network_new none first later = record {
    deeds = first.deeds ++ later.deeds;
    are_so = opens_none_on first.deeds later.deeds (none first.deeds first.are_so) later.are_so;
    are_done = done_on first.deeds later.deeds old mid new first.are_done later.are_done;
    works =
        deeds_work custody done is_open first.deeds later.deeds front_old front_mid front_new network_old network_mid network_new first.works later.works;
  }

  -- connections were taken, and that was broken off
  pub taken_broken : (split : Bool) (board : Board) (now : ℕ) (old new : Lanes) (front_old front_new : Front R) (network_old network_new : N)
      → TakesSome custody done split board now old new front_old front_new network_old network_new → BreaksOff custody done split old new front_old front_new network_old network_new
  taken_broken split board now old new front_old front_new network_old network_new taken =
      record { deeds = taken.deeds; are_done = taken.are_done; fit = taken.are_so.1; works = taken.works }

  -- connections were taken, and each place had its share
  pub dealt : (split : Bool) (terms : Terms) (board : Board) (first : ℕ) (old mid new : Lanes) (front_old front_mid front_new : Front R) (network_old network_mid network_new : N)
      → TakesSome custody done split board (as_nanos terms.began) old mid front_old front_mid network_old network_mid
      → Does custody done (λ deeds. AreShared terms (rotated first 64) deeds mid new) mid new front_mid front_new network_mid network_new
      → Deals custody done split terms board old new front_old front_new network_old network_new
  dealt split terms board first old mid new front_old front_mid front_new network_old network_mid network_new taken shared = record {
    first = first;
    taken = taken.deeds;
    shared = shared.deeds;
    is_turn = record { mid = mid; takes = taken.are_so.0; opened = taken.are_done; shares = shared.are_so };
    fit = fit_on split taken.deeds shared.deeds taken.are_so.1 (none_fit split shared.deeds (shares_open_none terms (rotated first 64) shared.deeds mid new shared.are_so));
    works =
        deeds_work custody done is_open taken.deeds shared.deeds front_old front_mid front_new network_old network_mid network_new taken.works shared.works;
  }

  pub deals_by : {X E : Type 0} (split : Bool) (result : Result X E) (terms : Terms) (board : Board) (first : ℕ) (old mid new : Lanes) (front_old front_mid front_new : Front R) (network_old network_mid network_new : N)
      → TakesSome custody done split board (as_nanos terms.began) old mid front_old front_mid network_old network_mid
      → ShareEach custody done result terms (rotated first 64) mid new front_mid front_new network_mid network_new
      → MatchResult result (λ _. Deals custody done split terms board old new front_old front_new network_old network_new)
      (λ _. BreaksOff custody done split old new front_old front_new network_old network_new)
  deals_by split (Ok goes) terms board first old mid new front_old front_mid front_new network_old network_mid network_new taken shared =
      dealt split terms board first old mid new front_old front_mid front_new network_old network_mid network_new taken shared
  deals_by split (Err error) terms board first old mid new front_old front_mid front_new network_old network_mid network_new taken broken = record {
    deeds = taken.deeds ++ broken.deeds;
    are_done = done_on taken.deeds broken.deeds old mid new taken.are_done broken.are_done;
    fit = fit_on split taken.deeds broken.deeds taken.are_so.1 (none_fit split broken.deeds broken.are_so);
    works = deeds_work custody done is_open taken.deeds broken.deeds front_old front_mid front_new network_old network_mid network_new taken.works broken.works;
  }

  -- nothing was done at the network before
  pub turned : (split : Bool) (terms : Terms) (now : Duration) (set : Limits) (leaving : Option Duration) (board : Board) (old new : Lanes) (front_old front_new : Front R) (network_old network_mid network_new : N) → AreTerms terms now set leaving
      → done network_mid ≡ done network_old → Deals custody done split terms board old new front_old front_new network_mid network_new
      → TakesTurn custody done split board now set leaving old new front_old front_new network_old network_new
  turned split terms now set leaving board old new front_old front_new network_old network_mid network_new are same deals = record {
    turn = turn_of terms board deals.first deals.taken deals.shared;
    told = refl;
    terms = are;
    is_turn = deals.is_turn;
    fit = deals.fit;
    works =
        same_then_works custody is_open done (calls_of (deals.taken ++ deals.shared)) (traffic_of (deals.taken ++ deals.shared)) front_old front_new network_old network_mid network_new same
        deals.works;
  }

  pub turn_broken : (split : Bool) (old new : Lanes) (front_old front_new : Front R) (network_old network_mid network_new : N) → done network_mid ≡ done network_old
      → BreaksOff custody done split old new front_old front_new network_mid network_new → BreaksOff custody done split old new front_old front_new network_old network_new
  turn_broken split old new front_old front_new network_old network_mid network_new same broken = record {
    deeds = broken.deeds;
    are_done = broken.are_done;
    fit = broken.fit;
    works =
        same_then_works custody is_open done (calls_of broken.deeds) (traffic_of broken.deeds) front_old front_new network_old network_mid network_new same broken.works;
  }
