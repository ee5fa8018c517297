-- What obligations and advice come to, one after another.
use Rattle.std.proofs.Common.{◌≡◌, Bool, true, cond, List, [], ◌∷◌, ◌++◌, map, refl, sym, ap, ◌∙◌, append_assoc}
use Rattle.std.specs.Prelude.{filter, flat_map, Result, Ok, Err, IsErrAnd}
use Rattle.std.specs.Result.{result_map_both}
use Rattle.xa_value.specs.declared.or_memory.OrMemory.{OrMemory}
use Rattle.xa_value.specs.Gives.{Gives, ◌>>=◌}
use Rattle.xa_bag.specs.declared.value_or_bag.ValueOrBag.{ValueOrBag}
use Rattle.xa_bag.specs.HigherOrder.{collected, with_first}
use Rattle.xa_bag.specs.ValueOrBag.{values_of}
use Rattle.xa_func.specs.declared.signature.Kind.{Kind}
use Rattle.xa_expr.specs.declared.fault.Fault.{Fault}
use Rattle.xa_expr.specs.declared.typed.Typed.{Typed}
use Rattle.xa_expr.specs.Evaluation.{Outcome}
use Rattle.xa_expr.specs.Typed.{IsTyped}
use Rattle.xa_expr.proofs.ArgumentLemmas.{next_fault, no_more}
use Rattle.xa_bag.proofs.JoiningLemmas.{fault_first, passed_on}
use Rattle.xa_policy.specs.declared.decision.Effect.{Effect}
use Rattle.xa_policy.specs.declared.duty.AttributeAssignment.{AttributeAssignment}
use Rattle.xa_policy.specs.declared.duty.AttributeAssignmentExpression.{AttributeAssignmentExpression}
use Rattle.xa_policy.specs.declared.duty.Duty.{Duty}
use Rattle.xa_policy.specs.declared.duty.DutyExpression.{DutyExpression}
use Rattle.xa_policy.specs.Duties.{assigned, duty, same_effect, with_value}
use Rattle.xa_policy.specs.Policy.{AreAssignments}

-- assignments, and behind them those of the expressions
abbrev pub then_all : List AttributeAssignment → List (List AttributeAssignment) → Result (List AttributeAssignment) Fault
then_all done found = Ok (done ++ flat_map (λ each. each) found)

abbrev pub assigned_behind : List AttributeAssignment → (Typed → Outcome) → List (AttributeAssignmentExpression Typed) → Result (List AttributeAssignment) Fault
assigned_behind done value_of expressions = collected (map (assigned value_of) expressions) >>= then_all done

-- an expression's assignments stand behind those so far
behind_next : (done more : List AttributeAssignment) (rest : Result (List (List AttributeAssignment)) Fault)
    → (rest >>= then_all (done ++ more)) ≡ (with_first more rest >>= then_all done)
behind_next done more (Ok found) = ap (λ all. Ok all) (append_assoc done more (flat_map (λ each. each) found))
behind_next done more (Err f) = refl

next_value : (done : List AttributeAssignment) (o : Outcome) (x : AttributeAssignmentExpression Typed) (given : ValueOrBag) (rs : List (Result (List AttributeAssignment) Fault))
    → o ≡ Ok given → (collected ((o >>= (λ v. Ok (map (with_value x) (values_of v)))) ∷ rs) >>= then_all done) ≡ (with_first (map (with_value x) (values_of given)) (collected rs) >>= then_all done)
next_value done o x given rs here = rw here refl

pub expression_assigned : (done : List AttributeAssignment) (v : Typed → Outcome) (ts us : List (AttributeAssignmentExpression Typed))
    (x : AttributeAssignmentExpression Typed) (given : ValueOrBag) (whole : Result (List AttributeAssignment) Fault)
    → v x.expression ≡ Ok given → ts ≡ x ∷ us → assigned_behind done v ts ≡ whole
    → assigned_behind (done ++ map (with_value x) (values_of given)) v us ≡ whole
expression_assigned done v ts us x given whole here walked so_far =
    behind_next done (map (with_value x) (values_of given)) (collected (map (assigned v) us))
    ∙ sym (next_value done (v x.expression) x given (map (assigned v) us) here) ∙ ap (assigned_behind done v) (sym walked) ∙ so_far

-- the fault of an expression is that of all
next_wrong : (done : List AttributeAssignment) (o : Outcome) (x : AttributeAssignmentExpression Typed) (f : Fault) (rs : List (Result (List AttributeAssignment) Fault))
    → o ≡ Err f → (collected ((o >>= (λ v. Ok (map (with_value x) (values_of v)))) ∷ rs) >>= then_all done) ≡ Err f
next_wrong done o x f rs here = rw here refl

pub expression_fault : (done : List AttributeAssignment) (v : Typed → Outcome) (ts us : List (AttributeAssignmentExpression Typed))
    (x : AttributeAssignmentExpression Typed) (e : OrMemory Fault) (answer : Result (List AttributeAssignment) (OrMemory Fault)) (whole : Result (List AttributeAssignment) Fault)
    → IsErrAnd answer (λ d. d ≡ e) → Gives {X = ValueOrBag} (Err e) (v x.expression) → ts ≡ x ∷ us → assigned_behind done v ts ≡ whole → Gives answer whole
expression_fault done v ts us x e answer whole same gives walked so_far =
    passed_on e answer whole same (fault_first {X = ValueOrBag} {Y = List AttributeAssignment} e (v x.expression) whole
    (λ f here. sym so_far ∙ ap (assigned_behind done v) walked ∙ next_wrong done (v x.expression) x f (map (assigned v) us) here) gives)

-- of typed expressions the first is typed, and so are the rest
pub first_typed : (vs : List Kind) (ts us : List (AttributeAssignmentExpression Typed)) (x : AttributeAssignmentExpression Typed)
    → ts ≡ x ∷ us → AreAssignments vs ts → IsTyped vs x.expression × AreAssignments vs us
first_typed vs ts us x walked typed = rw walked at typed

-- duties, and behind them those of the expressions that belong to the effect
abbrev pub duties_behind : List Duty → (Typed → Outcome) → Effect → List (DutyExpression Typed) → Result (List Duty) Fault
duties_behind done value_of effect ds = collected (map Ok done ++ map (duty value_of) (filter (λ d. same_effect effect d.effect) ds))

-- one that belongs to the effect is the first of those that do
first_kept : {A : Type 0} (p : A → Bool) (ts us : List A) (x : A) → ts ≡ x ∷ us → p x ≡ true → filter p ts ≡ x ∷ filter p us
first_kept p ts us x walked here = ap (filter p) walked ∙ ap (λ b. cond b (x ∷ filter p us) (filter p us)) here

-- its fault is that of all
passed_on_in : {X Y E : Type 0} (get : Y → X) (e : OrMemory E) (answer : Result Y (OrMemory E)) (whole : Result X E)
    → IsErrAnd answer (λ d. d ≡ e) → Gives {X = X} (Err e) whole → Gives (result_map_both get (λ d. d) answer) whole
passed_on_in get e (Err d) whole same gives = passed_on e (Err d) whole same gives
passed_on_in get e (Ok y) whole same gives = absurd same

pub duty_fault : {Y : Type 0} (get : Y → List Duty) (done : List Duty) (v : Typed → Outcome) (effect : Effect) (ts us : List (DutyExpression Typed))
    (x : DutyExpression Typed) (e : OrMemory Fault) (answer : Result Y (OrMemory Fault)) (whole : Result (List Duty) Fault)
    → IsErrAnd answer (λ d. d ≡ e) → Gives {X = Duty} (Err e) (duty v x) → same_effect effect x.effect ≡ true → ts ≡ x ∷ us → duties_behind done v effect ts ≡ whole
    → Gives (result_map_both get (λ d. d) answer) whole
duty_fault get done v effect ts us x e answer whole same gives here walked so_far =
    let of_effect : DutyExpression Typed → Bool = λ d. same_effect effect d.effect in
    passed_on_in get e answer whole same (fault_first {X = Duty} {Y = List Duty} e (duty v x) whole
    (next_fault (duty v) done (filter of_effect ts) (filter of_effect us) x whole (first_kept of_effect ts us x walked here) so_far) gives)

-- where no expression is left, those so far are all
pub duties_done : (done : List Duty) (v : Typed → Outcome) (effect : Effect) (ts : List (DutyExpression Typed)) (whole : Result (List Duty) Fault)
    → ts ≡ [] → duties_behind done v effect ts ≡ whole → whole ≡ Ok done
duties_done done v effect ts whole none so_far =
    let of_effect : DutyExpression Typed → Bool = λ d. same_effect effect d.effect in
    no_more (duty v) done (filter of_effect ts) whole (ap (filter of_effect) none) so_far
