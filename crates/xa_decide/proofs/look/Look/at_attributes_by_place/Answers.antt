use Rattle.xa_decide.specs.Context.{is_named_by}
use Rattle.xa_decide.proofs.LookLemmas.{item_looked_at, nothing_looked_at, passed}
use Rattle.std.proofs.Common.{◌∙◌}
use Rattle.std.specs.Prelude.{if◌then◌else◌, [], filter}
use Rattle.std.specs.List.{flat_map}
use Rattle.xa_decide.proofs.look.Look.at_attributes_by_place.Goals.{in-Some+in_ok-at_attribute, in_default}
use Rattle.xa_decide.proofs.look.Look.at_attributes_by_place.Goals as goal

pub loop-place-preserved : goal.loop-place-preserved
loop-place-preserved c =
    let d = c.args.self.now.designator.now in
    let named = is_named_by d in
    let each = passed named (λ a. a.values.values) in elim c.match-attribute_at.branch [
      | in-Some+in_ok-at_attribute w ↦
          item_looked_at (λ a. if named a then a.values.values else []) (λ xs. flat_map (λ a. a.values.values) (filter named xs)) each c.args.self.now.sought.now c.args.object.now.attributes
          c.loop-place.so_far _ _ c.places-places.result.now c.loop-place.place-index _ _ c.loop-place-test.true
          w.in-Some.ensures.found w.in_ok-at_attribute.ensures (w.so_far-is ∙ w.and-so_far.ensures) c.loop-place.invariant
      | in_default w ↦
          nothing_looked_at (λ a. if named a then a.values.values else []) (λ xs. flat_map (λ a. a.values.values) (filter named xs)) each c.args.self.now.sought.now c.args.object.now.attributes
          c.loop-place.so_far _ c.places-places.result.now c.loop-place.place-index _ c.loop-place-test.true
          w.in_default.ensures.found w.so_far-is c.loop-place.invariant
    ]
