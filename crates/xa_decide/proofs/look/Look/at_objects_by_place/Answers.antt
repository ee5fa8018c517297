use Rattle.std.proofs.Common.{◌∙◌}
use Rattle.std.specs.Prelude.{if◌then◌else◌, [], bytes_eq, filter}
use Rattle.std.specs.List.{flat_map}
use Rattle.xa_decide.specs.Context.{object_values}
use Rattle.xa_decide.proofs.LookLemmas.{item_looked_at, nothing_looked_at, passed}
use Rattle.xa_decide.proofs.look.Look.at_objects_by_place.Goals.{in-Some+in_ok-at_object_of_category, in_default}
use Rattle.xa_decide.proofs.look.Look.at_objects_by_place.Goals as goal

pub loop-place-preserved : goal.loop-place-preserved
loop-place-preserved c =
    let d = c.args.self.now.designator.now in
    let values = object_values d in
    let each = passed (λ o. bytes_eq o.category d.category) values in elim c.match-object.branch [
      | in-Some+in_ok-at_object_of_category w ↦
          item_looked_at (λ o. if bytes_eq o.category d.category then values o else []) (λ xs. flat_map values (filter (λ o. bytes_eq o.category d.category) xs)) each c.args.self.now.sought.now c.args.objects.now
          c.loop-place.so_far _ _ c.places-places.result.now c.loop-place.place-index _ _ c.loop-place-test.true
          w.in-Some.ensures w.in_ok-at_object_of_category.ensures (w.so_far-is ∙ w.and-so_far.ensures) c.loop-place.invariant
      | in_default w ↦
          nothing_looked_at (λ o. if bytes_eq o.category d.category then values o else []) (λ xs. flat_map values (filter (λ o. bytes_eq o.category d.category) xs)) each c.args.self.now.sought.now c.args.objects.now
          c.loop-place.so_far _ c.places-places.result.now c.loop-place.place-index _ c.loop-place-test.true
          w.in_default.ensures w.so_far-is c.loop-place.invariant
    ]
