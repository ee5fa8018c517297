use Rattle.std.proofs.Common.{◌≡◌, ◌+◌, ◌*◌, ◌≤◌, ◌++◌, length, drop, map}
use Rattle.std.specs.Prelude.{Ok}
use Rattle.xa_func.specs.Signature.{kind_of}
use Rattle.xa_bag.proofs.JoiningLemmas.{verdict}
use Rattle.xa_bag.specs.HigherOrder.{collected}
use Rattle.xa_bag.specs.Quantifier.{settling}
use Rattle.xa_bag.specs.ValueOrBag.{kind_of_argument}
use Rattle.xa_expr.specs.Arguments.{value_result}
use Rattle.xa_expr.specs.Evaluation.{outcome, place}
use Rattle.xa_expr.specs.Typed.{kind_of_typed}
use Rattle.xa_expr.proofs.PlaceLemmas.{n_of_these}
use denote.Param.Weighed.{most}
use Rattle.xa_expr.proofs.typed.Typed.TheLaws.{the_size}
use Rattle.xa_expr.proofs.evaluation.+evaluation.Given as goal

-- each call is of a smaller expression, or of the same arguments further in
abbrev pub decreases-evaluate : goal.decreases-evaluate
decreases-evaluate g l = 8 * the_size l.expression.now

abbrev pub decreases-are_true : goal.decreases-are_true
decreases-are_true g l = 8 * most the_size l.arguments.now + 1

abbrev pub decreases-all_values : goal.decreases-all_values
decreases-all_values g l = 8 * most the_size l.arguments.now + 1

abbrev pub decreases-all_given : goal.decreases-all_given
decreases-all_given g l = 8 * most the_size l.arguments.now + 1

abbrev pub decreases-n_among : goal.decreases-n_among
decreases-n_among g l = 8 * most the_size l.booleans.now + 1

abbrev pub decreases-n_of : goal.decreases-n_of
decreases-n_of g l = 8 * most the_size l.arguments.now + 2

abbrev pub decreases-apply_to_values : goal.decreases-apply_to_values
decreases-apply_to_values g l = 8 * most the_size l.arguments.now + 2

abbrev pub decreases-apply_to_bags : goal.decreases-apply_to_bags
decreases-apply_to_bags g l = 8 * most the_size l.arguments.now + 2

abbrev pub decreases-apply_higher_order : goal.decreases-apply_higher_order
decreases-apply_higher_order g l = 8 * most the_size l.arguments.now + 2

abbrev pub decreases-apply_logic : goal.decreases-apply_logic
decreases-apply_logic g l = 8 * most the_size l.arguments.now + 3

abbrev pub decreases-apply : goal.decreases-apply
decreases-apply g l = 8 * most the_size l.arguments.now + 4

-- the rest of the places decide for all
abbrev pub invariant-are_true-loop-argument : goal.invariant-are_true-loop-argument
invariant-are_true-loop-argument g l =
    let v = outcome (g.C.Context.values_of l.scope.context.now) l.scope.results.now in
    verdict (settling l.fn.quantifier) (map place (map v (drop l.argument-index l.arguments))) ≡ verdict (settling l.fn.quantifier) (map place (map v l.arguments))

-- those that are missing, of the rest, are those that are wanted, of all
abbrev pub invariant-n_among-loop-boolean : goal.invariant-n_among-loop-boolean
invariant-n_among-loop-boolean g l =
    let v = outcome (g.C.Context.values_of l.scope.context.now) l.scope.results.now in
    (n_of_these v l.missing (drop l.boolean-index l.booleans) ≡ n_of_these v l.wanted l.booleans)
    × (1 ≤ l.missing) × (l.left + l.boolean-index ≡ length l.booleans) × (l.missing ≤ l.left)
    × (l.wanted ≤ length l.booleans)

-- those that are there, and the rest, are all
abbrev pub invariant-all_values-loop-argument : goal.invariant-all_values-loop-argument
invariant-all_values-loop-argument g l =
    let v = outcome (g.C.Context.values_of l.scope.context.now) l.scope.results.now in
    (collected (map Ok l.values ++ map value_result (map v (drop l.argument-index l.arguments))) ≡ collected (map value_result (map v l.arguments)))
    × (map kind_of l.values ++ map kind_of_typed (drop l.argument-index l.arguments) ≡ map kind_of_typed l.arguments)

abbrev pub invariant-all_given-loop-argument : goal.invariant-all_given-loop-argument
invariant-all_given-loop-argument g l =
    let v = outcome (g.C.Context.values_of l.scope.context.now) l.scope.results.now in
    (collected (map Ok l.all ++ map v (drop l.argument-index l.arguments)) ≡ collected (map v l.arguments))
    × (map kind_of_argument l.all ++ map kind_of_typed (drop l.argument-index l.arguments) ≡ map kind_of_typed l.arguments)
