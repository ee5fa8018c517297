-- The children taken one after another come to what the algorithm makes of them all.
use Rattle.std.proofs.Common.{◌≡◌, Bool, true, false, if◌then◌else◌, List, [], ◌∷◌, map, filter, Option, is_some, refl, ap, sym, ◌∙◌}
use Rattle.std.specs.Option.{option_or}
use Rattle.xa_func.specs.declared.status.Status.{Status}
use Rattle.xa_func.specs.declared.status.Status.TheVariants.{Ok}
use Rattle.xa_policy.specs.declared.combination.Combination.{Combination}
use Rattle.xa_policy.specs.declared.combining.Alg.{Alg}
use Rattle.xa_policy.specs.declared.combining.Alg.TheVariants.{DenyOverrides, PermitOverrides, OrderedDenyOverrides, OrderedPermitOverrides, DenyUnlessPermit, PermitUnlessDeny, FirstApplicable, OnlyOneApplicable}
use Rattle.xa_policy.specs.declared.combining.Child.{Child}
use Rattle.xa_policy.specs.declared.decision.Decision.{Decision}
use Rattle.xa_policy.specs.declared.verdict.Verdict.{Verdict}
use Rattle.xa_policy.specs.Combining.{combined_decision, decision_of, deny_overrides, permit_overrides, is, is_indeterminate}
use Rattle.xa_policy.specs.Duties.{DutyLists, and_then, effect_of, no_duties}
use Rattle.xa_policy.specs.Evaluation.{child_of, combination, duties_of_all, ends, up_to}
use Rattle.xa_policy.specs.Status.{EvaluatedChild, fault_of, status_of}
use Rattle.xa_policy.specs.walking.Walk.{IsByDecisions, decided, decision_of_none, ended, ending_decision, fault_in, joined, joined_decision, of_none, walked, walked_decision, with_next}
use Rattle.xa_policy.proofs.DutyLemmas.{and_then_none, and_then_assoc}
use Rattle.xa_policy.proofs.WalkCases.{IsOpen, decision_with_ending, decision_with_more, decision_with_next, decision_with_no_more, ending_same, ending_status, first_fault_joined, is_itself, is_not_other, is_the_effect, next_open, none_open, open_not_ended}

-- a decision with its status and its duties
abbrev made : Decision → Status → DutyLists → Verdict
made d s found = record { decision = d; status = s; duties = found }

same_made : (d e : Decision) (s t : Status) (f g : DutyLists) → d ≡ e → s ≡ t → f ≡ g → made d s f ≡ made e t g
same_made d e s t f g = λ i j k. cc

-- the decisions of the children
abbrev decisions : List EvaluatedChild → List Decision
decisions children = map decision_of (map child_of children)

-- the duties so far, and those of the children behind that are evaluated and decide the same
abbrev taken : Alg → Decision → List EvaluatedChild → DutyLists
taken a d children = duties_of_all (filter (λ c. is d c.value.decision) (up_to (λ c. ends a c.value.decision) children))

abbrev duties_with_more : Alg → DutyLists → Decision → List EvaluatedChild → DutyLists
duties_with_more a so_far d children =
    if is_some (effect_of d) then and_then (if ends a d then no_duties else so_far) (taken a d children) else no_duties

-- what the children so far decide with those behind, by their decision
abbrev by_decision : Combination → List EvaluatedChild → Decision → Verdict
by_decision so_far children d = made d (status_of d (so_far.fault ∷ map fault_of children)) (duties_with_more so_far.algorithm so_far.duties d children)

abbrev with_more : Combination → List EvaluatedChild → Verdict
with_more so_far children = by_decision so_far children (decision_with_more so_far.algorithm so_far.decision (decisions children))

-- no more: the duties are those so far
no_more_duties : (a : Alg) (d : Decision) (so_far : DutyLists) → ends a d ≡ false →
    (if is_some (effect_of d) then so_far else no_duties) ≡ duties_with_more a so_far d []
no_more_duties a d so_far h = rw h (ap (λ (found : DutyLists). if is_some (effect_of d) then found else no_duties) (sym (and_then_none so_far)))

no_more : (so_far : Combination) → IsOpen so_far.algorithm so_far.decision so_far.fault → decided so_far ≡ with_more so_far []
no_more so_far so =
    ap (λ (found : DutyLists). made so_far.decision (status_of so_far.decision (so_far.fault ∷ [])) found)
    (no_more_duties so_far.algorithm so_far.decision so_far.duties (open_not_ended so_far.algorithm so_far.decision so_far.fault so))
    ∙ ap (by_decision so_far []) (sym (decision_with_no_more so_far.algorithm so_far.decision so_far.fault so))

-- the next ends it: the duties are its own
ending_duties : (a : Alg) (d : Decision) (so_far : DutyLists) (c : EvaluatedChild) (children : List EvaluatedChild) → ends a c.value.decision ≡ true →
    (is_some (effect_of d) ≡ true → d ≡ c.value.decision) → (b : Bool) → is_some (effect_of d) ≡ b →
    (if is_some (effect_of d) then c.value.duties else no_duties) ≡ duties_with_more a so_far d (c ∷ children)
ending_duties a d so_far c children h same false i = rw i refl
ending_duties a d so_far c children h same true i =
    let there : ends a d ≡ true = ap (ends a) (same i) ∙ h in
    let its : is d c.value.decision ≡ true = ap (is d) (sym (same i)) ∙ is_itself d in
    rw (i, there, h, its) (sym (and_then_none c.value.duties))

ending : (so_far : Combination) (c : EvaluatedChild) (children : List EvaluatedChild) → IsOpen so_far.algorithm so_far.decision so_far.fault →
    ends so_far.algorithm c.value.decision ≡ true → decided (ended so_far c.value) ≡ with_more so_far (c ∷ children)
ending so_far c children so h =
    let d = ending_decision so_far.algorithm c.value.decision in
    same_made d d _ _ _ _ refl
    (sym (ending_status so_far.algorithm so_far.decision so_far.fault c.value.decision c.value.status (map fault_of children) so h))
    (ending_duties so_far.algorithm d so_far.duties c children h (ending_same so_far.algorithm c.value.decision) (is_some (effect_of d)) refl)
    ∙ ap (by_decision so_far (c ∷ children))
    (sym (decision_with_ending so_far.algorithm so_far.decision so_far.fault c.value.decision (decisions children) so h))

-- the next doesn't end it: its duties, where it has an effect, are behind those so far
next_duties : (a : Alg) (d : Decision) (so_far : DutyLists) (c : EvaluatedChild) (children : List EvaluatedChild) → IsByDecisions a → ends a c.value.decision ≡ false →
    (b : Bool) → is_some (effect_of d) ≡ b → (there : Bool) → ends a d ≡ there → (its : Bool) → is_some (effect_of c.value.decision) ≡ its →
    duties_with_more a (if is_some (effect_of c.value.decision) then and_then so_far c.value.duties else so_far) d children ≡ duties_with_more a so_far d (c ∷ children)
next_duties a d so_far c children by h false i there j its k = rw i refl
next_duties a d so_far c children by h true i true j its k =
    let other : is d c.value.decision ≡ false = is_not_other a d c.value.decision j h in
    rw (i, j, h, other) refl
next_duties a d so_far c children by h true i false j true k =
    let same : is d c.value.decision ≡ true = is_the_effect a d c.value.decision by j h i ∙ k in
    rw (i, j, h, k, same) (and_then_assoc so_far c.value.duties (taken a d children))
next_duties a d so_far c children by h true i false j false k =
    let other : is d c.value.decision ≡ false = is_the_effect a d c.value.decision by j h i ∙ k in
    rw (i, j, h, k, other) refl

next_status : (d : Decision) (a b : Option Status) (faults : List (Option Status)) → status_of d (option_or a b ∷ faults) ≡ status_of d (a ∷ b ∷ faults)
next_status d a b faults = ap (λ (s : Status). if is_indeterminate d then s else Ok) (first_fault_joined a b faults)

next : (so_far : Combination) (c : EvaluatedChild) (children : List EvaluatedChild) → IsByDecisions so_far.algorithm →
    ends so_far.algorithm c.value.decision ≡ false → with_more (joined so_far c.value) children ≡ with_more so_far (c ∷ children)
next so_far c children by h =
    let d = decision_with_more so_far.algorithm (joined_decision so_far.algorithm so_far.decision c.value.decision) (decisions children) in
    same_made d d _ _ _ _ refl
    (next_status d so_far.fault (fault_in c.value) (map fault_of children))
    (next_duties so_far.algorithm d so_far.duties c children by h (is_some (effect_of d)) refl (ends so_far.algorithm d) refl (is_some (effect_of c.value.decision)) refl)
    ∙ ap (by_decision so_far (c ∷ children))
    (sym (decision_with_next so_far.algorithm so_far.decision c.value.decision (decisions children) h))

-- the children so far with those behind, one after another
either : (so_far : Combination) (c : EvaluatedChild) (children : List EvaluatedChild) → IsByDecisions so_far.algorithm → IsOpen so_far.algorithm so_far.decision so_far.fault →
    (IsOpen so_far.algorithm (joined so_far c.value).decision (joined so_far c.value).fault → walked (joined so_far c.value) children ≡ with_more (joined so_far c.value) children) →
    (b : Bool) → ends so_far.algorithm c.value.decision ≡ b →
    (if b then decided (ended so_far c.value) else walked (joined so_far c.value) children) ≡ with_more so_far (c ∷ children)
either so_far c children by so behind true h = ending so_far c children so h
either so_far c children by so behind false h =
    behind (next_open so_far.algorithm so_far.decision so_far.fault c.value.decision c.value.status so h) ∙ next so_far c children by h

walked_with_more : (so_far : Combination) (children : List EvaluatedChild) → IsByDecisions so_far.algorithm → IsOpen so_far.algorithm so_far.decision so_far.fault →
    walked so_far children ≡ with_more so_far children
walked_with_more so_far [] by so = no_more so_far so
walked_with_more so_far (c ∷ children) by so =
    either so_far c children by so (walked_with_more (joined so_far c.value) children by) (ends so_far.algorithm c.value.decision) refl

-- none so far
all_duties : (a : Alg) (d : Decision) (children : List EvaluatedChild) (b : Bool) → ends a d ≡ b →
    duties_with_more a no_duties d children ≡ (if is_some (effect_of d) then taken a d children else no_duties)
all_duties a d children true h = rw h refl
all_duties a d children false h = rw h refl

all : (a : Alg) (d : Decision) (children : List EvaluatedChild) →
    by_decision (of_none a) children d ≡ made d (status_of d (map fault_of children)) (if is_some (effect_of d) then taken a d children else no_duties)
all a d children = ap (λ (found : DutyLists). made d (status_of d (map fault_of children)) found) (all_duties a d children (ends a d) refl)

with_all : (a : Alg) (children : List EvaluatedChild) → IsByDecisions a → with_more (of_none a) children ≡ combination a children
unfolding combination deny_overrides permit_overrides
with_all DenyOverrides children by = all DenyOverrides (deny_overrides (decisions children)) children
with_all PermitOverrides children by = all PermitOverrides (permit_overrides (decisions children)) children
with_all OrderedDenyOverrides children by = all OrderedDenyOverrides (deny_overrides (decisions children)) children
with_all OrderedPermitOverrides children by = all OrderedPermitOverrides (permit_overrides (decisions children)) children
with_all DenyUnlessPermit children by = all DenyUnlessPermit _ children
with_all PermitUnlessDeny children by = all PermitUnlessDeny _ children
with_all FirstApplicable children by = all FirstApplicable _ children
with_all OnlyOneApplicable children by = absurd by

-- one after another they come to what the algorithm makes of them all
pub walk_is_combination : (a : Alg) (children : List EvaluatedChild) → IsByDecisions a → walked (of_none a) children ≡ combination a children
walk_is_combination a children by = walked_with_more (of_none a) children by (none_open a by) ∙ with_all a children by

-- children alone come to the same decision as with a status and duties
abbrev plain : Child → EvaluatedChild
plain child = record { value = made child.decision Ok no_duties; target = child.target }

as_children : (children : List Child) → map child_of (map plain children) ≡ children
as_children [] = refl
as_children (c ∷ children) = ap (λ cs. c ∷ cs) (as_children children)

decision_step : (b : Bool) (v w : Verdict) (d e : Decision) → v.decision ≡ d → w.decision ≡ e → (if b then v else w).decision ≡ (if b then d else e)
decision_step true v w d e same behind = same
decision_step false v w d e same behind = behind

decision_walked : (so_far : Combination) (children : List Child) →
    (walked so_far (map plain children)).decision ≡ walked_decision so_far.algorithm so_far.decision (map decision_of children)
decision_walked so_far [] = refl
decision_walked so_far (c ∷ children) =
    decision_step (ends so_far.algorithm c.decision) _ _ _ _ refl (decision_walked (joined so_far (plain c).value) children)

-- their decisions one after another come to what the algorithm makes of them all
pub walked_decisions : (a : Alg) (children : List Child) → IsByDecisions a →
    walked_decision a (decision_of_none a) (map decision_of children) ≡ combined_decision a children
unfolding combination
walked_decisions a children by =
    sym (decision_walked (of_none a) children)
    ∙ ap (λ v. v.decision) (walk_is_combination a (map plain children) by)
    ∙ ap (combined_decision a) (as_children children)

-- each step of the way
pub walked_ended : (so_far : Combination) (c : EvaluatedChild) (children : List EvaluatedChild) → ends so_far.algorithm c.value.decision ≡ true →
    walked so_far (c ∷ children) ≡ decided (with_next so_far c.value)
walked_ended so_far c children h = rw h refl

pub walked_next : (so_far : Combination) (c : EvaluatedChild) (children : List EvaluatedChild) → ends so_far.algorithm c.value.decision ≡ false →
    walked so_far (c ∷ children) ≡ walked (with_next so_far c.value) children
walked_next so_far c children h = rw h refl
