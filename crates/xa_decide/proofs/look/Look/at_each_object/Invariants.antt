use Rattle.std.proofs.Common.{◌≡◌, map, drop}
use Rattle.std.specs.Prelude.{bytes_eq, filter}
use Rattle.std.specs.List.{flat_map}
use Rattle.xa_expr.specs.Looked.{joined, looked}
use Rattle.xa_decide.specs.Context.{object_values}
use Rattle.xa_decide.proofs.look.Look.at_each_object.Given as goal

-- the look so far, and one at the values of the objects that are left
abbrev pub invariant-loop-object : goal.invariant-loop-object
invariant-loop-object l =
    joined l.so_far (looked l.self.sought.now (flat_map (object_values l.self.designator.now) (filter (λ o. bytes_eq o.category l.self.designator.now.category) (map (λ o. o.now) (drop l.object-index l.objects)))))
    ≡ looked l.self.sought.now (flat_map (object_values l.self.designator.now) (filter (λ o. bytes_eq o.category l.self.designator.now.category) (map (λ o. o.now) l.objects)))
