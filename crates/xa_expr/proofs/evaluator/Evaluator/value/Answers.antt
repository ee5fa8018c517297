use Rattle.std.proofs.Common.{subst}
use Rattle.xa_expr.specs.Typed.{kind_of_typed}
use Rattle.xa_expr.specs.Variables.{AreTyped}
use Rattle.xa_expr.proofs.MisfitLemmas.{meets_no_misfit}
use Rattle.xa_expr.proofs.evaluator.Evaluator.value.Goals as goal

pub value_with-requires-clause-right : goal.value_with-requires-clause-right
value_with-requires-clause-right g c = rw c.definitions-definitions.ensures.value c.self.invariant

pub value_with-requires-clause-typed : goal.value_with-requires-clause-typed
value_with-requires-clause-typed g c = rw c.definitions-definitions.ensures.value (rw (← c.self.view_is) at c.requires)

pub returns-clause-fits : goal.returns-clause-fits
returns-clause-fits g c =
    let typed = subst AreTyped c.definitions-definitions.ensures.value c.definitions-definitions.ensures.typed in
    let requires = rw (← c.self.view_is) at c.requires in
    rw (← c.self.view_is) (meets_no_misfit (g.C.Context.values_of c.self.inside.context.now) c.self.inside.variables.now c.args.expression.now (kind_of_typed c.args.expression.now) typed requires c.keeps_types.ensures)

pub invariant_of-self : goal.invariant_of-self
invariant_of-self g c = rw c.definitions-definitions.ensures.value at c.value_with.ensures.right
