-- If connections come at one address, no message is turned away.
use Rattle.std.proofs.Common.{◌≡◌, ◌⊎◌, inl, inr, ℕ, zero, suc, Bool, false, List, [], ◌∷◌, ◌++◌, Option, Some, None, set, refl, sym, ap, subst, ◌∙◌}
use Rattle.std.specs.Prelude.{slice_set}
use Rattle.xa_records.specs.Keeper.{Custody}
use Rattle.xa_server.specs.declared.front.Front.{Front}
use Rattle.xa_server.specs.Front.{IsPlayed}
use Rattle.xa_server.specs.TurningAway.{Handling, IsPlayedBeside, serves, serves_unchanging, turns_away}
use Rattle.xa_server.proofs.TurningAwayLemmas.{NoneAway, plays_all}
use Rattle.xa_reactor.specs.declared.access.Access.{Access}
use Rattle.xa_reactor.specs.declared.access.Access.TheVariants.{All}
use Rattle.xa_reactor.specs.declared.lane.Lane.{Lane}
use Rattle.xa_reactor.specs.Step.{AreHandledBy}
use Rattle.xa_reactor.specs.Turn.{AreDone, Deed, FitAll, Lanes, calls_of, closes, lane_at, no_lanes, opens, steps}

-- each connection that is open came at the only address
abbrev AreAll : Lanes → Type 0
AreAll [] = Unit {0}
AreAll (None ∷ lanes) = AreAll lanes
AreAll (Some lane ∷ lanes) = (lane.access ≡ All) × AreAll lanes

some_same : {X : Type 0} {x y : X} → Some x ≡ Some y → x ≡ y
some_same e = cc

one_of : (lanes : Lanes) (n : ℕ) (lane : Lane) → AreAll lanes → lane_at n lanes ≡ Some lane → lane.access ≡ All
one_of [] n lane all there = let e : None ≡ Some lane = there in absurd cc
one_of (None ∷ lanes) zero lane all there = let e : None ≡ Some lane = there in absurd cc
one_of (Some one ∷ lanes) zero lane (is, all) there = ap (λ (l : Lane). l.access) (sym (some_same there)) ∙ is
one_of (None ∷ lanes) (suc n) lane all there = one_of lanes n lane all there
one_of (Some one ∷ lanes) (suc n) lane (is, all) there = one_of lanes n lane all there

none_set : (lanes : Lanes) (n : ℕ) → AreAll lanes → AreAll (set lanes n None)
none_set [] n all = tt
none_set (None ∷ lanes) zero all = all
none_set (Some one ∷ lanes) zero (is, all) = all
none_set (None ∷ lanes) (suc n) all = none_set lanes n all
none_set (Some one ∷ lanes) (suc n) (is, all) = (is, none_set lanes n all)

some_set : (lanes : Lanes) (n : ℕ) (lane : Lane) → lane.access ≡ All → AreAll lanes → AreAll (set lanes n (Some lane))
some_set [] n lane its all = tt
some_set (None ∷ lanes) zero lane its all = (its, all)
some_set (Some one ∷ lanes) zero lane its (is, all) = (its, all)
some_set (None ∷ lanes) (suc n) lane its all = some_set lanes n lane its all
some_set (Some one ∷ lanes) (suc n) lane its (is, all) = (is, some_set lanes n lane its all)

-- what is served isn't turned away
none_away : (hows : List Handling) → AreHandledBy All hows → NoneAway hows
none_away [] by = tt
none_away (serves ∷ hows) (is, by) = none_away hows by
none_away (serves_unchanging ∷ hows) (none, by) = absurd none
none_away (turns_away ∷ hows) (none, by) = absurd none

away_on : (hows more : List Handling) → NoneAway hows → NoneAway more → NoneAway (hows ++ more)
away_on [] more none later = later
away_on (serves ∷ hows) more none later = away_on hows more none later
away_on (serves_unchanging ∷ hows) more none later = away_on hows more none later
away_on (turns_away ∷ hows) more absent later = absurd absent

-- deeds, one after another
deeds_away : (deeds : List Deed) (old new : Lanes) → AreAll old → FitAll false deeds → AreDone deeds old new → NoneAway (calls_of deeds).hows
deeds_away [] old new all fit done = tt
deeds_away (opens conn access ∷ deeds) old new all (fits, fit) (mid, (lane, free, at, put), done) =
    deeds_away deeds mid new (subst AreAll (sym put) (some_set old conn.number lane (at.came ∙ fits) all)) fit done
deeds_away (closes conn reason ∷ deeds) old new all fit (mid, (lane, had, put), done) =
    deeds_away deeds mid new (subst AreAll (sym put) (none_set old conn.number all)) fit done
deeds_away (steps step ∷ deeds) old new all fit (mid, (was, is, had, its, answers, put), done) =
    let access = one_of old step.conn.number was all had in
    away_on (step.fed.hows ++ step.asked.hows) (calls_of deeds).hows
    (away_on step.fed.hows step.asked.hows (none_away step.fed.hows answers.fed)
    (none_away step.asked.hows (subst (λ (a : Access). AreHandledBy a step.asked.hows) access answers.handled)))
    (deeds_away deeds mid new (subst AreAll (sym put) (some_set old step.conn.number is (answers.came ∙ access) all)) fit done)

-- so all that was done is what was played
pub one_address : {R : Type 0} (custody : R → Custody) (split : Bool) (deeds : List Deed) (new : Lanes) (front_old front_new : Front R) → AreDone deeds no_lanes new → FitAll split deeds
    → IsPlayedBeside custody front_old front_new (calls_of deeds).hows (calls_of deeds).events (calls_of deeds).outcomes → split ≡ false
    → IsPlayed custody front_old front_new (calls_of deeds).events (calls_of deeds).outcomes
one_address custody split deeds new front_old front_new done fit beside one =
    plays_all custody front_old front_new (calls_of deeds).hows (calls_of deeds).events (calls_of deeds).outcomes
    (deeds_away deeds no_lanes new tt (subst (λ (b : Bool). FitAll b deeds) one fit) done) beside
