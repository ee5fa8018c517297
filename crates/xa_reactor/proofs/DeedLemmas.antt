-- Deeds, and others after them.
use Rattle.std.proofs.Common.{◌≡◌, Bool, List, [], ◌∷◌, ◌++◌, Option, IsTrue, refl, sym, ap, subst, ◌∙◌}
use Rattle.std.proofs.lemmas.List.{append_assoc}
use Rattle.xa_records.specs.Keeper.{Custody}
use Rattle.xa_server.specs.declared.event.Event.{Event}
use Rattle.xa_server.specs.declared.event.Outcome.{Outcome}
use Rattle.xa_server.specs.declared.front.Front.{Front}
use Rattle.xa_server.specs.TurningAway.{Handling}
use Rattle.xa_reactor.specs.Step.{Calls, Works, joined}
use Rattle.xa_reactor.specs.Traffic.{Traffic}
use Rattle.xa_reactor.specs.Turn.{AreDone, Deed, FitAll, IsDone, Lanes, calls_in, calls_of, closes, opens, steps, traffic_in, traffic_of}
use Rattle.xa_reactor.specs.handling.Turning.{Does, OpensNone}
use Rattle.xa_reactor.proofs.WorksLemmas.{same_then_works, works_more, works_same}

-- ---- what deeds come to

-- calls, by which of them come first
pub joined_on : (a b c : Calls) → joined a (joined b c) ≡ joined (joined a b) c
joined_on a b c =
    ap (λ (hs : List Handling). record { hows = hs; events = a.events ++ (b.events ++ c.events); outcomes = a.outcomes ++ (b.outcomes ++ c.outcomes) })
    (sym (append_assoc a.hows b.hows c.hows))
    ∙ ap (λ (es : List Event). record { hows = (a.hows ++ b.hows) ++ c.hows; events = es; outcomes = a.outcomes ++ (b.outcomes ++ c.outcomes) })
    (sym (append_assoc a.events b.events c.events))
    ∙ ap (λ (os : List Outcome). record { hows = (a.hows ++ b.hows) ++ c.hows; events = (a.events ++ b.events) ++ c.events; outcomes = os })
    (sym (append_assoc a.outcomes b.outcomes c.outcomes))

-- their calls
pub calls_on : (deeds more : List Deed) → calls_of (deeds ++ more) ≡ joined (calls_of deeds) (calls_of more)
calls_on [] more = refl
calls_on (deed ∷ deeds) more = ap (λ (calls : Calls). joined (calls_in deed) calls) (calls_on deeds more) ∙ joined_on (calls_in deed) (calls_of deeds) (calls_of more)

-- what goes over the network by them
pub traffic_on : (deeds more : List Deed) → traffic_of (deeds ++ more) ≡ traffic_of deeds ++ traffic_of more
traffic_on [] more = refl
traffic_on (deed ∷ deeds) more =
    ap (λ (traffic : List Traffic). traffic_in deed ++ traffic) (traffic_on deeds more) ∙ sym (append_assoc (traffic_in deed) (traffic_of deeds) (traffic_of more))

-- what they do to the connections
pub done_on : (deeds more : List Deed) (old mid new : Lanes) → AreDone deeds old mid → AreDone more mid new → AreDone (deeds ++ more) old new
done_on [] more old mid new same later = subst (λ (lanes : Lanes). AreDone more lanes new) same later
done_on (deed ∷ deeds) more old mid new (first, is, rest) later = (first, is, done_on deeds more first mid new rest later)

-- who comes by them does at one address, or at two
pub fit_on : (split : Bool) (deeds more : List Deed) → FitAll split deeds → FitAll split more → FitAll split (deeds ++ more)
fit_on split [] more fit later = later
fit_on split (opens conn access ∷ deeds) more (fits, fit) later = (fits, fit_on split deeds more fit later)
fit_on split (steps step ∷ deeds) more fit later = fit_on split deeds more fit later
fit_on split (closes conn reason ∷ deeds) more fit later = fit_on split deeds more fit later

-- deeds that open nobody fit at one address and at two
pub none_fit : (split : Bool) (deeds : List Deed) → OpensNone deeds → FitAll split deeds
none_fit split [] none = tt
none_fit split (opens conn access ∷ deeds) absent = absurd absent
none_fit split (steps step ∷ deeds) none = none_fit split deeds none
none_fit split (closes conn reason ∷ deeds) none = none_fit split deeds none

pub opens_none_on : (deeds more : List Deed) → OpensNone deeds → OpensNone more → OpensNone (deeds ++ more)
opens_none_on [] more none later = later
opens_none_on (opens conn access ∷ deeds) more absent later = absurd absent
opens_none_on (steps step ∷ deeds) more none later = opens_none_on deeds more none later
opens_none_on (closes conn reason ∷ deeds) more none later = opens_none_on deeds more none later

-- one deed
pub done_one : (deed : Deed) (old new : Lanes) → IsDone deed old new → AreDone (deed ∷ []) old new
done_one deed old new is = (new, is, refl)

-- ---- what a front and a network did by them

module _ {R N : Type 0} (custody : R → Custody) (done : N → Option (List Traffic)) (is_open : (s : R) → (custody s).sound → IsTrue (custody s).is_open) where
  -- by deeds, and by others after them
  pub deeds_work : (deeds more : List Deed) (front_old front_mid front_new : Front R) (network_old network_mid network_new : N)
      → Works custody done (calls_of deeds) (traffic_of deeds) front_old front_mid network_old network_mid
      → Works custody done (calls_of more) (traffic_of more) front_mid front_new network_mid network_new
      → Works custody done (calls_of (deeds ++ more)) (traffic_of (deeds ++ more)) front_old front_new network_old network_new
  deeds_work deeds more front_old front_mid front_new network_old network_mid network_new first later =
      subst (λ (calls : Calls). Works custody done calls (traffic_of (deeds ++ more)) front_old front_new network_old network_new) (sym (calls_on deeds more))
      (subst (λ (traffic : List Traffic). Works custody done (joined (calls_of deeds) (calls_of more)) traffic front_old front_new network_old network_new) (sym (traffic_on deeds more))
      (works_more custody is_open done (calls_of deeds) (calls_of more) (traffic_of deeds) (traffic_of more) front_old front_mid front_new network_old network_mid network_new
      later.keeps.sound first later))

  -- nothing was done
  pub does_none : (are : List Deed → Type 0) (old new : Lanes) (front_old front_new : Front R) (network_old network_new : N) → are [] → new ≡ old → front_new ≡ front_old
      → done network_new ≡ done network_old → Does custody done are old new front_old front_new network_old network_new
  does_none are old new front_old front_new network_old network_new none lanes front network = record {
    deeds = [];
    are_so = none;
    are_done = lanes;
    works = works_same custody is_open done front_old front_new network_old network_new front network;
  }

  -- deeds were done, and others after them
  pub does_more : (are more both : List Deed → Type 0) (old mid new : Lanes) (front_old front_mid front_new : Front R) (network_old network_mid network_new : N)
      → ((deeds others : List Deed) → are deeds → more others → both (deeds ++ others))
      → Does custody done are old mid front_old front_mid network_old network_mid → Does custody done more mid new front_mid front_new network_mid network_new
      → Does custody done both old new front_old front_new network_old network_new
  does_more are more both old mid new front_old front_mid front_new network_old network_mid network_new join first later = record {
    deeds = first.deeds ++ later.deeds;
    are_so = join first.deeds later.deeds first.are_so later.are_so;
    are_done = done_on first.deeds later.deeds old mid new first.are_done later.are_done;
    works = deeds_work first.deeds later.deeds front_old front_mid front_new network_old network_mid network_new first.works later.works;
  }

  -- before them the network did nothing that is known of, or after them
  pub then_does : (are : List Deed → Type 0) (old new : Lanes) (front_old front_new : Front R) (network_old network_mid network_new : N) → done network_mid ≡ done network_old
      → Does custody done are old new front_old front_new network_mid network_new → Does custody done are old new front_old front_new network_old network_new
  then_does are old new front_old front_new network_old network_mid network_new same does = record {
    deeds = does.deeds;
    are_so = does.are_so;
    are_done = does.are_done;
    works = same_then_works custody is_open done (calls_of does.deeds) (traffic_of does.deeds) front_old front_new network_old network_mid network_new same does.works;
  }
