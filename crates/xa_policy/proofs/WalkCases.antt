-- What the children so far come to with those behind them, where none of those so far ends the evaluation: case by case.
use Rattle.std.proofs.Common.{◌≡◌, true, false, not, if◌then◌else◌, List, [], ◌∷◌, Option, Some, None, is_some, unwrap_or, refl, ap, sym, ◌∙◌}
use Rattle.std.specs.Option.{option_or}
use Rattle.xa_func.specs.declared.status.Status.{Status}
use Rattle.xa_func.specs.declared.status.Status.TheVariants.{Ok}
use Rattle.xa_policy.specs.declared.combining.Alg.{Alg}
use Rattle.xa_policy.specs.declared.combining.Alg.TheVariants.{DenyOverrides, PermitOverrides, OrderedDenyOverrides, OrderedPermitOverrides, DenyUnlessPermit, PermitUnlessDeny, FirstApplicable, OnlyOneApplicable}
use Rattle.xa_policy.specs.declared.decision.Decision.{Decision}
use Rattle.xa_policy.specs.declared.decision.Decision.TheVariants.{Permit, Deny, NotApplicable, IndeterminatePermit, IndeterminateDeny, IndeterminateDenyPermit}
use Rattle.xa_policy.specs.declared.decision.Effect.{Effect}
use Rattle.xa_policy.specs.declared.decision.Effect.TheVariants as effect
use Rattle.xa_policy.specs.Combining.{is, is_indeterminate, deny_overrides, permit_overrides, deny_unless_permit, permit_unless_deny, first_applicable}
use Rattle.xa_policy.specs.Duties.{effect_of}
use Rattle.xa_policy.specs.Evaluation.{ends}
use Rattle.xa_policy.specs.Effect.{decision_with}
use Rattle.xa_policy.specs.Overriding.{overrides}
use Rattle.xa_policy.specs.Status.{first_fault, status_of}
use Rattle.xa_policy.specs.walking.Walk.{IsByDecisions, decision_of_none, joined_decision, ending_decision}
use Rattle.xa_policy.proofs.FirstApplicableLemmas.{first_applicable_settled, first_applicable_passed, first_applicable_none}
use Rattle.xa_policy.proofs.OverridingLemmas.{otherwise, overrides_joined, overrides_single, otherwise_passed, otherwise_none}

-- the decision so far with those of the children behind
abbrev pub decision_with_more : Alg → Decision → List Decision → Decision
decision_with_more DenyOverrides so_far ds = deny_overrides (so_far ∷ ds)
decision_with_more PermitOverrides so_far ds = permit_overrides (so_far ∷ ds)
decision_with_more OrderedDenyOverrides so_far ds = deny_overrides (so_far ∷ ds)
decision_with_more OrderedPermitOverrides so_far ds = permit_overrides (so_far ∷ ds)
decision_with_more DenyUnlessPermit so_far ds = deny_unless_permit ds
decision_with_more PermitUnlessDeny so_far ds = permit_unless_deny ds
decision_with_more FirstApplicable so_far ds = first_applicable ds
decision_with_more OnlyOneApplicable so_far ds = so_far

-- a decision and a first fault of children none of which ends the evaluation
abbrev pub IsOpen : Alg → Decision → Option Status → Type 0
IsOpen DenyOverrides so_far fault = is Deny so_far ≡ false
IsOpen PermitOverrides so_far fault = is Permit so_far ≡ false
IsOpen OrderedDenyOverrides so_far fault = is Deny so_far ≡ false
IsOpen OrderedPermitOverrides so_far fault = is Permit so_far ≡ false
IsOpen DenyUnlessPermit so_far fault = so_far ≡ Deny
IsOpen PermitUnlessDeny so_far fault = so_far ≡ Permit
IsOpen FirstApplicable so_far fault = (so_far ≡ NotApplicable) × (fault ≡ None)
IsOpen OnlyOneApplicable so_far fault = ⊥

-- the status where the decision is Indeterminate
abbrev pub fault_with : Decision → Status → Option Status
fault_with d s = if is_indeterminate d then Some s else None

-- no children are open
pub none_open : (a : Alg) → IsByDecisions a → IsOpen a (decision_of_none a) None
none_open DenyOverrides by = refl
none_open PermitOverrides by = refl
none_open OrderedDenyOverrides by = refl
none_open OrderedPermitOverrides by = refl
none_open DenyUnlessPermit by = refl
none_open PermitUnlessDeny by = refl
none_open FirstApplicable by = (refl, refl)
none_open OnlyOneApplicable by = absurd by

-- what is open doesn't end
pub open_not_ended : (a : Alg) (so_far : Decision) (fault : Option Status) → IsOpen a so_far fault → ends a so_far ≡ false
open_not_ended DenyOverrides so_far fault so = so
open_not_ended PermitOverrides so_far fault so = so
open_not_ended OrderedDenyOverrides so_far fault so = so
open_not_ended OrderedPermitOverrides so_far fault so = so
open_not_ended DenyUnlessPermit so_far fault so = ap (is Permit) so
open_not_ended PermitUnlessDeny so_far fault so = ap (is Deny) so
open_not_ended FirstApplicable so_far fault so = ap (λ (d : Decision). not (is NotApplicable d)) so.0
open_not_ended OnlyOneApplicable so_far fault so = absurd so

-- the decision where there are no more children
pub decision_with_no_more : (a : Alg) (so_far : Decision) (fault : Option Status) → IsOpen a so_far fault → decision_with_more a so_far [] ≡ so_far
decision_with_no_more DenyOverrides so_far fault so = overrides_single effect.Deny so_far
decision_with_no_more PermitOverrides so_far fault so = overrides_single effect.Permit so_far
decision_with_no_more OrderedDenyOverrides so_far fault so = overrides_single effect.Deny so_far
decision_with_no_more OrderedPermitOverrides so_far fault so = overrides_single effect.Permit so_far
decision_with_no_more DenyUnlessPermit so_far fault so = otherwise_none effect.Permit ∙ sym so
decision_with_no_more PermitUnlessDeny so_far fault so = otherwise_none effect.Deny ∙ sym so
decision_with_no_more FirstApplicable so_far fault so = first_applicable_none ∙ sym so.0
decision_with_no_more OnlyOneApplicable so_far fault so = absurd so

-- and where there is one that doesn't end it
pub decision_with_next : (a : Alg) (so_far : Decision) (d : Decision) (ds : List Decision) → ends a d ≡ false →
    decision_with_more a so_far (d ∷ ds) ≡ decision_with_more a (joined_decision a so_far d) ds
decision_with_next DenyOverrides so_far d ds h = overrides_joined effect.Deny so_far d ds
decision_with_next PermitOverrides so_far d ds h = overrides_joined effect.Permit so_far d ds
decision_with_next OrderedDenyOverrides so_far d ds h = overrides_joined effect.Deny so_far d ds
decision_with_next OrderedPermitOverrides so_far d ds h = overrides_joined effect.Permit so_far d ds
decision_with_next DenyUnlessPermit so_far d ds h = otherwise_passed effect.Permit d ds h
decision_with_next PermitUnlessDeny so_far d ds h = otherwise_passed effect.Deny d ds h
decision_with_next FirstApplicable so_far d ds h = first_applicable_passed d ds h
decision_with_next OnlyOneApplicable so_far d ds h = refl

-- a decision with the effect settles it behind another, too
overrides_ended : (e : Effect) (so_far d : Decision) (ds : List Decision) → is (decision_with e) d ≡ true → overrides e (so_far ∷ d ∷ ds) ≡ d
unfolding deny_overrides permit_overrides
overrides_ended effect.Permit Permit Permit ds h = refl
overrides_ended effect.Permit Deny Permit ds h = refl
overrides_ended effect.Permit NotApplicable Permit ds h = refl
overrides_ended effect.Permit IndeterminatePermit Permit ds h = refl
overrides_ended effect.Permit IndeterminateDeny Permit ds h = refl
overrides_ended effect.Permit IndeterminateDenyPermit Permit ds h = refl
overrides_ended effect.Permit so_far Deny ds h = cc
overrides_ended effect.Permit so_far NotApplicable ds h = cc
overrides_ended effect.Permit so_far IndeterminatePermit ds h = cc
overrides_ended effect.Permit so_far IndeterminateDeny ds h = cc
overrides_ended effect.Permit so_far IndeterminateDenyPermit ds h = cc
overrides_ended effect.Deny so_far Permit ds h = cc
overrides_ended effect.Deny Permit Deny ds h = refl
overrides_ended effect.Deny Deny Deny ds h = refl
overrides_ended effect.Deny NotApplicable Deny ds h = refl
overrides_ended effect.Deny IndeterminatePermit Deny ds h = refl
overrides_ended effect.Deny IndeterminateDeny Deny ds h = refl
overrides_ended effect.Deny IndeterminateDenyPermit Deny ds h = refl
overrides_ended effect.Deny so_far NotApplicable ds h = cc
overrides_ended effect.Deny so_far IndeterminatePermit ds h = cc
overrides_ended effect.Deny so_far IndeterminateDeny ds h = cc
overrides_ended effect.Deny so_far IndeterminateDenyPermit ds h = cc

otherwise_ended : (e : Effect) (d : Decision) (ds : List Decision) → is (decision_with e) d ≡ true → otherwise e (d ∷ ds) ≡ d
unfolding deny_unless_permit permit_unless_deny
otherwise_ended effect.Permit Permit ds h = refl
otherwise_ended effect.Permit Deny ds h = cc
otherwise_ended effect.Permit NotApplicable ds h = cc
otherwise_ended effect.Permit IndeterminatePermit ds h = cc
otherwise_ended effect.Permit IndeterminateDeny ds h = cc
otherwise_ended effect.Permit IndeterminateDenyPermit ds h = cc
otherwise_ended effect.Deny Permit ds h = cc
otherwise_ended effect.Deny Deny ds h = refl
otherwise_ended effect.Deny NotApplicable ds h = cc
otherwise_ended effect.Deny IndeterminatePermit ds h = cc
otherwise_ended effect.Deny IndeterminateDeny ds h = cc
otherwise_ended effect.Deny IndeterminateDenyPermit ds h = cc

-- the decision where the next child ends it
pub decision_with_ending : (a : Alg) (so_far : Decision) (fault : Option Status) (d : Decision) (ds : List Decision) → IsOpen a so_far fault → ends a d ≡ true →
    decision_with_more a so_far (d ∷ ds) ≡ ending_decision a d
decision_with_ending DenyOverrides so_far fault d ds so h = overrides_ended effect.Deny so_far d ds h
decision_with_ending PermitOverrides so_far fault d ds so h = overrides_ended effect.Permit so_far d ds h
decision_with_ending OrderedDenyOverrides so_far fault d ds so h = overrides_ended effect.Deny so_far d ds h
decision_with_ending OrderedPermitOverrides so_far fault d ds so h = overrides_ended effect.Permit so_far d ds h
decision_with_ending DenyUnlessPermit so_far fault d ds so h = otherwise_ended effect.Permit d ds h
decision_with_ending PermitUnlessDeny so_far fault d ds so h = otherwise_ended effect.Deny d ds h
decision_with_ending FirstApplicable so_far fault d ds so h = first_applicable_settled d ds h
decision_with_ending OnlyOneApplicable so_far fault d ds so h = absurd so

-- two decisions without the effect don't come to it
overrides_open : (e : Effect) (so_far d : Decision) → is (decision_with e) so_far ≡ false → is (decision_with e) d ≡ false → is (decision_with e) (overrides e (so_far ∷ d ∷ [])) ≡ false
unfolding deny_overrides permit_overrides
overrides_open effect.Permit Permit d g h = cc
overrides_open effect.Permit Deny Permit g h = cc
overrides_open effect.Permit Deny Deny g h = refl
overrides_open effect.Permit Deny NotApplicable g h = refl
overrides_open effect.Permit Deny IndeterminatePermit g h = refl
overrides_open effect.Permit Deny IndeterminateDeny g h = refl
overrides_open effect.Permit Deny IndeterminateDenyPermit g h = refl
overrides_open effect.Permit NotApplicable Permit g h = cc
overrides_open effect.Permit NotApplicable Deny g h = refl
overrides_open effect.Permit NotApplicable NotApplicable g h = refl
overrides_open effect.Permit NotApplicable IndeterminatePermit g h = refl
overrides_open effect.Permit NotApplicable IndeterminateDeny g h = refl
overrides_open effect.Permit NotApplicable IndeterminateDenyPermit g h = refl
overrides_open effect.Permit IndeterminatePermit Permit g h = cc
overrides_open effect.Permit IndeterminatePermit Deny g h = refl
overrides_open effect.Permit IndeterminatePermit NotApplicable g h = refl
overrides_open effect.Permit IndeterminatePermit IndeterminatePermit g h = refl
overrides_open effect.Permit IndeterminatePermit IndeterminateDeny g h = refl
overrides_open effect.Permit IndeterminatePermit IndeterminateDenyPermit g h = refl
overrides_open effect.Permit IndeterminateDeny Permit g h = cc
overrides_open effect.Permit IndeterminateDeny Deny g h = refl
overrides_open effect.Permit IndeterminateDeny NotApplicable g h = refl
overrides_open effect.Permit IndeterminateDeny IndeterminatePermit g h = refl
overrides_open effect.Permit IndeterminateDeny IndeterminateDeny g h = refl
overrides_open effect.Permit IndeterminateDeny IndeterminateDenyPermit g h = refl
overrides_open effect.Permit IndeterminateDenyPermit Permit g h = cc
overrides_open effect.Permit IndeterminateDenyPermit Deny g h = refl
overrides_open effect.Permit IndeterminateDenyPermit NotApplicable g h = refl
overrides_open effect.Permit IndeterminateDenyPermit IndeterminatePermit g h = refl
overrides_open effect.Permit IndeterminateDenyPermit IndeterminateDeny g h = refl
overrides_open effect.Permit IndeterminateDenyPermit IndeterminateDenyPermit g h = refl
overrides_open effect.Deny Permit Permit g h = refl
overrides_open effect.Deny Permit Deny g h = cc
overrides_open effect.Deny Permit NotApplicable g h = refl
overrides_open effect.Deny Permit IndeterminatePermit g h = refl
overrides_open effect.Deny Permit IndeterminateDeny g h = refl
overrides_open effect.Deny Permit IndeterminateDenyPermit g h = refl
overrides_open effect.Deny Deny d g h = cc
overrides_open effect.Deny NotApplicable Permit g h = refl
overrides_open effect.Deny NotApplicable Deny g h = cc
overrides_open effect.Deny NotApplicable NotApplicable g h = refl
overrides_open effect.Deny NotApplicable IndeterminatePermit g h = refl
overrides_open effect.Deny NotApplicable IndeterminateDeny g h = refl
overrides_open effect.Deny NotApplicable IndeterminateDenyPermit g h = refl
overrides_open effect.Deny IndeterminatePermit Permit g h = refl
overrides_open effect.Deny IndeterminatePermit Deny g h = cc
overrides_open effect.Deny IndeterminatePermit NotApplicable g h = refl
overrides_open effect.Deny IndeterminatePermit IndeterminatePermit g h = refl
overrides_open effect.Deny IndeterminatePermit IndeterminateDeny g h = refl
overrides_open effect.Deny IndeterminatePermit IndeterminateDenyPermit g h = refl
overrides_open effect.Deny IndeterminateDeny Permit g h = refl
overrides_open effect.Deny IndeterminateDeny Deny g h = cc
overrides_open effect.Deny IndeterminateDeny NotApplicable g h = refl
overrides_open effect.Deny IndeterminateDeny IndeterminatePermit g h = refl
overrides_open effect.Deny IndeterminateDeny IndeterminateDeny g h = refl
overrides_open effect.Deny IndeterminateDeny IndeterminateDenyPermit g h = refl
overrides_open effect.Deny IndeterminateDenyPermit Permit g h = refl
overrides_open effect.Deny IndeterminateDenyPermit Deny g h = cc
overrides_open effect.Deny IndeterminateDenyPermit NotApplicable g h = refl
overrides_open effect.Deny IndeterminateDenyPermit IndeterminatePermit g h = refl
overrides_open effect.Deny IndeterminateDenyPermit IndeterminateDeny g h = refl
overrides_open effect.Deny IndeterminateDenyPermit IndeterminateDenyPermit g h = refl

passed_open : (d : Decision) (s : Status) → not (is NotApplicable d) ≡ false → fault_with d s ≡ None
passed_open Permit s h = cc
passed_open Deny s h = cc
passed_open NotApplicable s h = refl
passed_open IndeterminatePermit s h = cc
passed_open IndeterminateDeny s h = cc
passed_open IndeterminateDenyPermit s h = cc

-- a child that doesn't end it leaves it open
pub next_open : (a : Alg) (so_far : Decision) (fault : Option Status) (d : Decision) (s : Status) → IsOpen a so_far fault → ends a d ≡ false →
    IsOpen a (joined_decision a so_far d) (option_or fault (fault_with d s))
next_open DenyOverrides so_far fault d s so h = overrides_open effect.Deny so_far d so h
next_open PermitOverrides so_far fault d s so h = overrides_open effect.Permit so_far d so h
next_open OrderedDenyOverrides so_far fault d s so h = overrides_open effect.Deny so_far d so h
next_open OrderedPermitOverrides so_far fault d s so h = overrides_open effect.Permit so_far d so h
next_open DenyUnlessPermit so_far fault d s so h = so
next_open PermitUnlessDeny so_far fault d s so h = so
next_open FirstApplicable so_far fault d s so h = (so.0, ap (λ f. option_or f (fault_with d s)) so.1 ∙ passed_open d s h)
next_open OnlyOneApplicable so_far fault d s so h = absurd so

-- the first fault of the children so far stands for them in front of the rest
pub first_fault_joined : (a b : Option Status) (faults : List (Option Status)) → first_fault (option_or a b ∷ faults) ≡ first_fault (a ∷ b ∷ faults)
first_fault_joined None b faults = refl
first_fault_joined (Some fault) b faults = refl

-- the status of a decision and a fault alone
abbrev pub status_with : Decision → Option Status → Status
status_with d fault = if is_indeterminate d then unwrap_or fault Ok else Ok

settled_status : (e : Effect) (fault : Option Status) (d : Decision) (s : Status) (faults : List (Option Status)) → is (decision_with e) d ≡ true →
    status_of d (fault ∷ fault_with d s ∷ faults) ≡ status_with d (fault_with d s)
settled_status effect.Permit fault Permit s faults h = refl
settled_status effect.Permit fault Deny s faults h = cc
settled_status effect.Permit fault NotApplicable s faults h = cc
settled_status effect.Permit fault IndeterminatePermit s faults h = cc
settled_status effect.Permit fault IndeterminateDeny s faults h = cc
settled_status effect.Permit fault IndeterminateDenyPermit s faults h = cc
settled_status effect.Deny fault Permit s faults h = cc
settled_status effect.Deny fault Deny s faults h = refl
settled_status effect.Deny fault NotApplicable s faults h = cc
settled_status effect.Deny fault IndeterminatePermit s faults h = cc
settled_status effect.Deny fault IndeterminateDeny s faults h = cc
settled_status effect.Deny fault IndeterminateDenyPermit s faults h = cc

first_status : (d : Decision) (s : Status) (faults : List (Option Status)) → not (is NotApplicable d) ≡ true →
    status_of (first_applicable (d ∷ [])) (None ∷ fault_with d s ∷ faults) ≡ status_with (first_applicable (d ∷ [])) (fault_with d s)
unfolding first_applicable
first_status Permit s faults h = refl
first_status Deny s faults h = refl
first_status NotApplicable s faults h = cc
first_status IndeterminatePermit s faults h = refl
first_status IndeterminateDeny s faults h = refl
first_status IndeterminateDenyPermit s faults h = refl

-- the status where the next child ends it
pub ending_status : (a : Alg) (so_far : Decision) (fault : Option Status) (d : Decision) (s : Status) (faults : List (Option Status)) → IsOpen a so_far fault → ends a d ≡ true →
    status_of (ending_decision a d) (fault ∷ fault_with d s ∷ faults) ≡ status_with (ending_decision a d) (fault_with d s)
ending_status DenyOverrides so_far fault d s faults so h = settled_status effect.Deny fault d s faults h
ending_status PermitOverrides so_far fault d s faults so h = settled_status effect.Permit fault d s faults h
ending_status OrderedDenyOverrides so_far fault d s faults so h = settled_status effect.Deny fault d s faults h
ending_status OrderedPermitOverrides so_far fault d s faults so h = settled_status effect.Permit fault d s faults h
ending_status DenyUnlessPermit so_far fault d s faults so h = settled_status effect.Permit fault d s faults h
ending_status PermitUnlessDeny so_far fault d s faults so h = settled_status effect.Deny fault d s faults h
ending_status FirstApplicable so_far fault d s faults so h =
    ap (λ f. status_of (first_applicable (d ∷ [])) (f ∷ fault_with d s ∷ faults)) so.1 ∙ first_status d s faults h
ending_status OnlyOneApplicable so_far fault d s faults so h = absurd so

first_same : (d : Decision) → is_some (effect_of (first_applicable (d ∷ []))) ≡ true → first_applicable (d ∷ []) ≡ d
unfolding first_applicable
first_same Permit h = refl
first_same Deny h = refl
first_same NotApplicable h = cc
first_same IndeterminatePermit h = cc
first_same IndeterminateDeny h = cc
first_same IndeterminateDenyPermit h = cc

-- a Permit or a Deny at the end is the decision of the child that ends it
pub ending_same : (a : Alg) (d : Decision) → is_some (effect_of (ending_decision a d)) ≡ true → ending_decision a d ≡ d
ending_same DenyOverrides d h = refl
ending_same PermitOverrides d h = refl
ending_same OrderedDenyOverrides d h = refl
ending_same OrderedPermitOverrides d h = refl
ending_same DenyUnlessPermit d h = refl
ending_same PermitUnlessDeny d h = refl
ending_same FirstApplicable d h = first_same d h
ending_same OnlyOneApplicable d h = refl

-- a decision is itself
pub is_itself : (d : Decision) → is d d ≡ true
is_itself Permit = refl
is_itself Deny = refl
is_itself NotApplicable = refl
is_itself IndeterminatePermit = refl
is_itself IndeterminateDeny = refl
is_itself IndeterminateDenyPermit = refl

-- and no other: one that ends isn't one that doesn't
pub is_not_other : (a : Alg) (d e : Decision) → ends a d ≡ true → ends a e ≡ false → is d e ≡ false
is_not_other a Permit Permit g h = cc
is_not_other a Permit Deny g h = refl
is_not_other a Permit NotApplicable g h = refl
is_not_other a Permit IndeterminatePermit g h = refl
is_not_other a Permit IndeterminateDeny g h = refl
is_not_other a Permit IndeterminateDenyPermit g h = refl
is_not_other a Deny Permit g h = refl
is_not_other a Deny Deny g h = cc
is_not_other a Deny NotApplicable g h = refl
is_not_other a Deny IndeterminatePermit g h = refl
is_not_other a Deny IndeterminateDeny g h = refl
is_not_other a Deny IndeterminateDenyPermit g h = refl
is_not_other a NotApplicable Permit g h = refl
is_not_other a NotApplicable Deny g h = refl
is_not_other a NotApplicable NotApplicable g h = cc
is_not_other a NotApplicable IndeterminatePermit g h = refl
is_not_other a NotApplicable IndeterminateDeny g h = refl
is_not_other a NotApplicable IndeterminateDenyPermit g h = refl
is_not_other a IndeterminatePermit Permit g h = refl
is_not_other a IndeterminatePermit Deny g h = refl
is_not_other a IndeterminatePermit NotApplicable g h = refl
is_not_other a IndeterminatePermit IndeterminatePermit g h = cc
is_not_other a IndeterminatePermit IndeterminateDeny g h = refl
is_not_other a IndeterminatePermit IndeterminateDenyPermit g h = refl
is_not_other a IndeterminateDeny Permit g h = refl
is_not_other a IndeterminateDeny Deny g h = refl
is_not_other a IndeterminateDeny NotApplicable g h = refl
is_not_other a IndeterminateDeny IndeterminatePermit g h = refl
is_not_other a IndeterminateDeny IndeterminateDeny g h = cc
is_not_other a IndeterminateDeny IndeterminateDenyPermit g h = refl
is_not_other a IndeterminateDenyPermit Permit g h = refl
is_not_other a IndeterminateDenyPermit Deny g h = refl
is_not_other a IndeterminateDenyPermit NotApplicable g h = refl
is_not_other a IndeterminateDenyPermit IndeterminatePermit g h = refl
is_not_other a IndeterminateDenyPermit IndeterminateDeny g h = refl
is_not_other a IndeterminateDenyPermit IndeterminateDenyPermit g h = cc

-- the one effect that the children can come to where none has the other
only_effect : (e : Effect) (d f : Decision) → is (decision_with e) d ≡ false → is (decision_with e) f ≡ false → is_some (effect_of d) ≡ true → is d f ≡ is_some (effect_of f)
only_effect effect.Permit Permit f g h i = cc
only_effect effect.Permit Deny Permit g h i = cc
only_effect effect.Permit Deny Deny g h i = refl
only_effect effect.Permit Deny NotApplicable g h i = refl
only_effect effect.Permit Deny IndeterminatePermit g h i = refl
only_effect effect.Permit Deny IndeterminateDeny g h i = refl
only_effect effect.Permit Deny IndeterminateDenyPermit g h i = refl
only_effect effect.Permit NotApplicable f g h i = cc
only_effect effect.Permit IndeterminatePermit f g h i = cc
only_effect effect.Permit IndeterminateDeny f g h i = cc
only_effect effect.Permit IndeterminateDenyPermit f g h i = cc
only_effect effect.Deny Permit Permit g h i = refl
only_effect effect.Deny Permit Deny g h i = cc
only_effect effect.Deny Permit NotApplicable g h i = refl
only_effect effect.Deny Permit IndeterminatePermit g h i = refl
only_effect effect.Deny Permit IndeterminateDeny g h i = refl
only_effect effect.Deny Permit IndeterminateDenyPermit g h i = refl
only_effect effect.Deny Deny f g h i = cc
only_effect effect.Deny NotApplicable f g h i = cc
only_effect effect.Deny IndeterminatePermit f g h i = cc
only_effect effect.Deny IndeterminateDeny f g h i = cc
only_effect effect.Deny IndeterminateDenyPermit f g h i = cc

no_effect : (d f : Decision) → not (is NotApplicable d) ≡ false → is_some (effect_of d) ≡ true → is d f ≡ is_some (effect_of f)
no_effect Permit f g i = cc
no_effect Deny f g i = cc
no_effect NotApplicable f g i = cc
no_effect IndeterminatePermit f g i = cc
no_effect IndeterminateDeny f g i = cc
no_effect IndeterminateDenyPermit f g i = cc

-- of children that don't end it, those that decide the same are those with an effect
pub is_the_effect : (a : Alg) (d f : Decision) → IsByDecisions a → ends a d ≡ false → ends a f ≡ false → is_some (effect_of d) ≡ true → is d f ≡ is_some (effect_of f)
is_the_effect DenyOverrides d f by g h i = only_effect effect.Deny d f g h i
is_the_effect PermitOverrides d f by g h i = only_effect effect.Permit d f g h i
is_the_effect OrderedDenyOverrides d f by g h i = only_effect effect.Deny d f g h i
is_the_effect OrderedPermitOverrides d f by g h i = only_effect effect.Permit d f g h i
is_the_effect DenyUnlessPermit d f by g h i = only_effect effect.Permit d f g h i
is_the_effect PermitUnlessDeny d f by g h i = only_effect effect.Deny d f g h i
is_the_effect FirstApplicable d f by g h i = no_effect d f g i
is_the_effect OnlyOneApplicable d f by g h i = absurd by
