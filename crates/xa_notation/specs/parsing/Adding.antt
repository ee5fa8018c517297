-- A policy to which typed rules are added.
use Rattle.std.specs.Prelude.{List, [], ◌∷◌, map, Result, Ok}
use Rattle.xa_value.specs.Gives.{◌>>=◌}
use Rattle.xa_bag.specs.HigherOrder.{collected}
use Rattle.xa_expr.specs.declared.check_error.CheckError.{CheckError}
use Rattle.xa_policy.specs.Adding.{with_rules}
use Rattle.xa_policy.specs.Policy.{PolicyParts}
use Rattle.xa_notation.specs.declared.written.WrittenRule.{WrittenRule}
use Rattle.xa_notation.specs.Typing.{typed_rule}

-- the policy with a typed rule after those that it has
abbrev pub with_typed_rule : PolicyParts → WrittenRule → Result PolicyParts CheckError
with_typed_rule p r = typed_rule p.variables r >>= (λ t. Ok (with_rules p (t ∷ [])))

-- the policy with typed rules after those that it has
abbrev pub with_typed_rules : PolicyParts → List WrittenRule → Result PolicyParts CheckError
with_typed_rules p rs = collected (map (typed_rule p.variables) rs) >>= (λ ts. Ok (with_rules p ts))
