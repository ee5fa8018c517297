use Rattle.std.proofs.Common.{◌≡◌, drop}
use Rattle.std.specs.Prelude.{filter}
use Rattle.std.specs.List.{flat_map}
use Rattle.xa_expr.specs.Looked.{joined, looked}
use Rattle.xa_decide.specs.Context.{is_named_by}
use Rattle.xa_decide.proofs.look.Look.at_each_attribute.Given as goal

-- the look so far, and one at the values of the attributes that are left
abbrev pub invariant-loop-attribute : goal.invariant-loop-attribute
invariant-loop-attribute l =
    joined l.so_far (looked l.self.sought.now (flat_map (λ a. a.values.values) (filter (is_named_by l.self.designator.now) (drop l.attribute-index l.attributes))))
    ≡ looked l.self.sought.now (flat_map (λ a. a.values.values) (filter (is_named_by l.self.designator.now) l.attributes))
