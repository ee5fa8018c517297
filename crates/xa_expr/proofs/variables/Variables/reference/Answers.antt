use Rattle.std.proofs.Common.{sym, ap, ◌∙◌}
use Rattle.std.specs.Option.{option_copied}
use Rattle.xa_expr.proofs.VariableLemmas.{variable_there, variable_unknown, variable_typed, place_within}
use Rattle.xa_expr.proofs.variables.Variables.reference.Goals as goal

pub returns-in_default-clause-value : goal.returns-in_default-clause-value
returns-in_default-clause-value c =
    let none = sym (c.self.invariant.1 c.args.name.now) ∙ sym c.get.ensures.value ∙ ap option_copied c.in_default.is in
    rw (← c.self.view_is) (sym (variable_unknown c.self.inside.definitions.items c.args.name.now none))

pub returns-clause-value : goal.returns-clause-value
returns-clause-value c =
    let there = sym (c.self.invariant.1 c.args.name.now) ∙ sym c.get.ensures.value ∙ ap option_copied c.in-Some.is in
    let found = variable_there c.self.inside.definitions.items c.args.name.now c.in-Some.place.now c.index.result.now there c.index.ensures in
    rw (c.kind-kind.ensures, ← c.self.view_is) (sym found)

pub returns-clause-typed : goal.returns-clause-typed
returns-clause-typed c =
    let there = sym (c.self.invariant.1 c.args.name.now) ∙ sym c.get.ensures.value ∙ ap option_copied c.in-Some.is in
    let within = place_within c.self.inside.definitions.items c.args.name.now c.in-Some.place.now c.index.result.now there in
    let whole = variable_typed c.self.inside.definitions.items c.in-Some.place.now c.index.result.now within c.index.ensures in
    rw (c.kind-kind.ensures, ← c.self.view_is) whole
