use Rattle.std.proofs.Common.{◌≡◌, ap, sym, subst, ◌∙◌, List, map}
use Rattle.std.specs.Prelude.{Result, Ok, Err, IfOk}
use Rattle.xa_value.specs.declared.data_type.DataType.{DataType}
use Rattle.xa_value.specs.declared.or_memory.OrMemory.{OrMemory}
use Rattle.xa_value.specs.declared.value.Value.{Value}
use Rattle.xa_value.specs.Gives.{answered}
use Rattle.xa_value.proofs.GivesLemmas.{told_apart}
use Rattle.xa_func.specs.declared.signature.Kind.{Kind}
use Rattle.xa_func.specs.declared.signature.Kind.TheVariants as kind
use Rattle.xa_func.specs.Signature.{type_of_kind}
use Rattle.xa_bag.specs.declared.value_or_bag.ValueOrBag.{ValueOrBag}
use Rattle.xa_bag.specs.Bag.{OfType}
use Rattle.xa_bag.specs.ValueOrBag.{kind_of_argument, type_of_each, values_of}
use Rattle.xa_expr.specs.declared.fault.Fault.{Fault}
use Rattle.xa_expr.specs.declared.match_.Match.{Match}
use Rattle.xa_expr.specs.declared.matching.Matching.{Matching}
use Rattle.xa_expr.specs.Evaluation.{Attributes, Outcome, attribute}
use Rattle.xa_expr.specs.Target.{answer, match_on, match_value, some_match}
use Rattle.xa_expr.proofs.match_.Match.matching_by_calls.Goals as goal

-- the values of a bag that was told apart from want of memory are of its type
of_its_type : (t : DataType) (given : Result ValueOrBag (OrMemory Fault)) (told : Outcome) (bag : ValueOrBag) (vs : List Value)
    → given ≡ answered told → told ≡ Ok bag → IfOk given (λ g. kind_of_argument g ≡ kind.Bag t) → OfType (type_of_each bag) vs → OfType t vs
of_its_type t given told bag vs same is typed of_type =
    let P : Result ValueOrBag (OrMemory Fault) → Type 0 = λ r. IfOk r (λ g. kind_of_argument g ≡ kind.Bag t) in
    let of_kind : kind_of_argument bag ≡ kind.Bag t = subst P (same ∙ ap (λ r. answered r) is) typed in
    let Q : Kind → Type 0 = λ k. OfType (type_of_kind k) vs in subst Q of_kind of_type

-- what the function says of them is the value of the match
by_its_values : {E : Type 0} (attributes : Attributes) (q : Match) (bag : ValueOrBag) (vs : List Value) (found : Result Matching E)
    → attribute attributes q.designator ≡ Ok bag → vs ≡ values_of bag → IfOk found (λ m. m ≡ some_match (map (answer q) vs))
    → IfOk found (λ m. m ≡ match_value attributes q)
by_its_values attributes q bag vs (Ok m) at are is = is ∙ ap (λ us. some_match (map (answer q) us)) are ∙ sym (ap (match_on q) at)
by_its_values attributes q bag vs (Err e) at are is = tt

pub some_match_counted-requires : goal.some_match_counted-requires
some_match_counted-requires g c =
    of_its_type c.args.self.now.designator.data_type c.attribute.result _ _ c.values.result.now
    c.in_ok-bag.ensures.answer c.in-Ok.is c.attribute.ensures.typed c.values.ensures.of_type

pub returns-in-Ok : goal.returns-in-Ok
returns-in-Ok g c =
    let at = told_apart _ _ _ c.in_ok-bag.ensures.answer c.attribute.ensures.value ∙ c.in-Ok.is in
    by_its_values (g.C.Context.values_of c.args.context.now) c.args.self.now _ _ c.some_match_counted.result at c.values.ensures.values c.some_match_counted.ensures

pub returns-in-Err : goal.returns-in-Err
returns-in-Err g c =
    let at = told_apart _ _ _ c.in_ok-bag.ensures.answer c.attribute.ensures.value ∙ c.in-Err.is in
    sym (ap (match_on c.args.self.now) at)
