use Rattle.std.proofs.Common.{List, map}
use Rattle.std.specs.Prelude.{if◌then◌else◌, [], bytes_eq, filter}
use Rattle.std.specs.List.{flat_map}
use denote.Ref.{Bor}
use Rattle.xa_profile.specs.declared.category_object.CategoryObject.{CategoryObject}
use Rattle.xa_decide.specs.Context.{object_values}
use Rattle.xa_decide.proofs.LookLemmas.{next_looked_at, passed}
use Rattle.xa_decide.proofs.look.Look.at_each_object.Goals as goal

pub loop-object-preserved : goal.loop-object-preserved
loop-object-preserved c =
    let d = c.args.self.now.designator.now in
    let values = object_values d in
    next_looked_at (λ (o : Bor CategoryObject). if bytes_eq o.now.category d.category then values o.now else [])
    (λ (xs : List (Bor CategoryObject)). flat_map values (filter (λ o. bytes_eq o.category d.category) (map (λ o. o.now) xs)))
    (λ o xs. passed (λ o. bytes_eq o.category d.category) values o.now (map (λ o. o.now) xs)) c.args.self.now.sought.now c.args.objects.now
    c.loop-object.so_far _ _ c.loop-object.object-index c.object-item.result _ c.loop-object-test.true c.object-item.is
    c.in_ok-found.ensures c.and-so_far.ensures c.loop-object.invariant
