-- What the loops of only-one-applicable go by.
use Rattle.std.proofs.Common.{◌≡◌, Bool, true, false, List, [], ◌∷◌, map, Option, Some, None, refl, ap, ap₂, ◌∙◌}
use Rattle.std.specs.Prelude.{if◌then◌else◌, filter}
use Rattle.std.specs.List.{list_any}
use Rattle.std.proofs.lemmas.Grind.{common_steps}
use Rattle.xa_expr.specs.declared.fault.Fault.{Fault}
use Rattle.xa_expr.specs.declared.fault.Fault.TheVariants.{ProcessingError}
use Rattle.xa_expr.specs.declared.matching.Matching.{Matching}
use Rattle.xa_expr.specs.declared.matching.Matching.TheVariants.{Match, NoMatch, Indeterminate}
use Rattle.xa_policy.specs.declared.combining.Alg.TheVariants.{OnlyOneApplicable}
use Rattle.xa_policy.specs.declared.combining.Child.{Child}
use Rattle.xa_policy.specs.declared.decision.Decision.{Decision}
use Rattle.xa_policy.specs.declared.decision.Decision.TheVariants.{NotApplicable, IndeterminateDenyPermit}
use Rattle.xa_policy.specs.declared.decision.Effect.{Effect}
use Rattle.xa_policy.specs.declared.verdict.Verdict.{Verdict}
use Rattle.xa_policy.specs.Combining.{decision_of, applies, may_apply, the_only_one, only_one_applicable}
use Rattle.xa_policy.specs.Duties.{effect_of, no_duties}
use Rattle.xa_policy.specs.Evaluation.{child_of, combination, with_decision}
use Rattle.xa_policy.specs.Rule.{not_applicable, undecided}
use Rattle.xa_policy.specs.Status.{EvaluatedChild, only_one_status}
use Rattle.xa_policy.proofs.DutyLemmas.{and_then_none}
use Rattle.xa_policy.proofs.WalkCases.{is_itself}

-- the child of this decision and this target
abbrev child : Decision → Matching → Child
child decision target = record { decision = decision; target = target }

pub only_one_none : only_one_applicable [] ≡ NotApplicable
unfolding only_one_applicable
only_one_none = refl

passed : (d : Decision) (t : Matching) (cs : List Child) → applies (child d t) ≡ false → may_apply (child d t) ≡ false →
    only_one_applicable (child d t ∷ cs) ≡ only_one_applicable cs
unfolding only_one_applicable
passed d Match cs g h = cc
passed d NoMatch cs g h = refl
passed d (Indeterminate fault) cs g h = cc

pub only_one_passed : (c : Child) (cs : List Child) → applies c ≡ false → may_apply c ≡ false → only_one_applicable (c ∷ cs) ≡ only_one_applicable cs
only_one_passed c cs g h = passed c.decision c.target cs g h

pub only_one_open : (c : Child) (cs : List Child) → may_apply c ≡ true → only_one_applicable (c ∷ cs) ≡ IndeterminateDenyPermit
unfolding only_one_applicable
only_one_open c cs h = rw h refl

taken : (d : Decision) (t : Matching) (cs : List Child) → applies (child d t) ≡ true → only_one_applicable (child d t ∷ cs) ≡ only_one_applicable (child d Match ∷ cs)
taken d Match cs h = refl
taken d NoMatch cs h = cc
taken d (Indeterminate fault) cs h = cc

pub only_one_taken : (c : Child) (cs : List Child) → applies c ≡ true → only_one_applicable (c ∷ cs) ≡ only_one_applicable (child c.decision Match ∷ cs)
only_one_taken c cs h = taken c.decision c.target cs h

pub only_one_alone : (d : Decision) → only_one_applicable (child d Match ∷ []) ≡ d
unfolding only_one_applicable
only_one_alone d = refl

behind : (d : Decision) (e : Decision) (t : Matching) (cs : List Child) → applies (child e t) ≡ false → may_apply (child e t) ≡ false →
    only_one_applicable (child d Match ∷ child e t ∷ cs) ≡ only_one_applicable (child d Match ∷ cs)
unfolding only_one_applicable
behind d e Match cs g h = cc
behind d e NoMatch cs g h = refl
behind d e (Indeterminate fault) cs g h = cc

pub only_one_behind : (d : Decision) (c : Child) (cs : List Child) → applies c ≡ false → may_apply c ≡ false →
    only_one_applicable (child d Match ∷ c ∷ cs) ≡ only_one_applicable (child d Match ∷ cs)
only_one_behind d c cs g h = behind d c.decision c.target cs g h

pub only_one_open_behind : (d : Decision) (c : Child) (cs : List Child) → may_apply c ≡ true → only_one_applicable (child d Match ∷ c ∷ cs) ≡ IndeterminateDenyPermit
unfolding only_one_applicable
only_one_open_behind d c cs h = rw h refl

either_way : (b : Bool) (d e : Decision) (ds : List Decision) → (if b then IndeterminateDenyPermit else the_only_one (d ∷ e ∷ ds)) ≡ IndeterminateDenyPermit
either_way true d e ds = refl
either_way false d e ds = refl

second : (d e : Decision) (t : Matching) (cs : List Child) → applies (child e t) ≡ true → only_one_applicable (child d Match ∷ child e t ∷ cs) ≡ IndeterminateDenyPermit
unfolding only_one_applicable
second d e Match cs h = either_way (list_any may_apply cs) d e (map decision_of (filter applies cs))
second d e NoMatch cs h = cc
second d e (Indeterminate fault) cs h = cc

pub only_one_second : (d : Decision) (c : Child) (cs : List Child) → applies c ≡ true → only_one_applicable (child d Match ∷ c ∷ cs) ≡ IndeterminateDenyPermit
only_one_second d c cs h = second d c.decision c.target cs h

-- what the loops go by
pub ruleset only_one_steps = (common_steps, only_one_none, only_one_passed, only_one_open, only_one_taken, only_one_alone, only_one_behind, only_one_second, only_one_open_behind)

-- only-one-applicable of evaluated children, with its status, obligations and advice
abbrev pub evaluated : List EvaluatedChild → Verdict
evaluated children = combination OnlyOneApplicable children

abbrev of : Verdict → Matching → EvaluatedChild
of value target = record { value = value; target = target }

-- obligations and advice come with a Permit or a Deny alone
abbrev pub IsTidy : Verdict → Type 0
IsTidy e = effect_of e.decision ≡ None → e.duties ≡ no_duties

pub evaluated_none : evaluated [] ≡ not_applicable
unfolding combination only_one_applicable only_one_status
evaluated_none = refl

without : (v : Verdict) (t : Matching) (cs : List EvaluatedChild) → t ≡ NoMatch → evaluated (of v t ∷ cs) ≡ evaluated cs
unfolding combination only_one_applicable only_one_status
without v Match cs h = cc
without v NoMatch cs h = refl
without v (Indeterminate fault) cs h = cc

pub evaluated_passed : (c : EvaluatedChild) (cs : List EvaluatedChild) → c.target ≡ NoMatch → evaluated (c ∷ cs) ≡ evaluated cs
evaluated_passed c cs h = without c.value c.target cs h

pub evaluated_open : (c : EvaluatedChild) (cs : List EvaluatedChild) (fault : Fault) → c.target ≡ Indeterminate fault → evaluated (c ∷ cs) ≡ undecided fault
unfolding combination only_one_applicable only_one_status
evaluated_open c cs fault h = rw h refl

alone : (v : Verdict) → IsTidy v → (o : Option Effect) → effect_of v.decision ≡ o → evaluated (of v Match ∷ []) ≡ v
unfolding combination only_one_applicable only_one_status
alone v tidy None h = rw (h, ← tidy h) refl
alone v tidy (Some e) h = rw (h, is_itself v.decision, and_then_none v.duties) refl

pub evaluated_alone : (c : EvaluatedChild) → IsTidy c.value → c.target ≡ Match → evaluated (c ∷ []) ≡ c.value
evaluated_alone c tidy h = ap (λ t. evaluated (of c.value t ∷ [])) h ∙ alone c.value tidy (effect_of c.value.decision) refl

beside : (v w : Verdict) (s t : Matching) (cs : List EvaluatedChild) → s ≡ Match → t ≡ NoMatch → evaluated (of v s ∷ of w t ∷ cs) ≡ evaluated (of v s ∷ cs)
unfolding combination only_one_applicable only_one_status
beside v w Match NoMatch cs g h = refl
beside v w Match Match cs g h = cc
beside v w Match (Indeterminate fault) cs g h = cc
beside v w NoMatch t cs g h = cc
beside v w (Indeterminate fault) t cs g h = cc

pub evaluated_behind : (c d : EvaluatedChild) (cs : List EvaluatedChild) → c.target ≡ Match → d.target ≡ NoMatch → evaluated (c ∷ d ∷ cs) ≡ evaluated (c ∷ cs)
evaluated_behind c d cs g h = beside c.value d.value c.target d.target cs g h

both : (v w : Verdict) (cs : List EvaluatedChild) → evaluated (of v Match ∷ of w Match ∷ cs) ≡ undecided ProcessingError
unfolding combination only_one_applicable only_one_status
both v w cs =
    ap (with_decision OnlyOneApplicable (of v Match ∷ of w Match ∷ cs))
    (either_way (list_any may_apply (map child_of cs)) v.decision w.decision (map decision_of (filter applies (map child_of cs))))

pub evaluated_second : (c d : EvaluatedChild) (cs : List EvaluatedChild) → c.target ≡ Match → d.target ≡ Match → evaluated (c ∷ d ∷ cs) ≡ undecided ProcessingError
evaluated_second c d cs g h = ap₂ (λ s t. evaluated (of c.value s ∷ of d.value t ∷ cs)) g h ∙ both c.value d.value cs

pub evaluated_open_behind : (c d : EvaluatedChild) (cs : List EvaluatedChild) (fault : Fault) → c.target ≡ Match → d.target ≡ Indeterminate fault →
    evaluated (c ∷ d ∷ cs) ≡ undecided fault
unfolding combination only_one_applicable only_one_status
evaluated_open_behind c d cs fault g h = rw (g, h) refl

-- what the loops over the rules and over the children go by
pub ruleset evaluated_steps = (common_steps, evaluated_none, evaluated_passed, evaluated_open, evaluated_alone, evaluated_behind, evaluated_second, evaluated_open_behind)
