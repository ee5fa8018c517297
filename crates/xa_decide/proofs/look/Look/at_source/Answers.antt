use Rattle.std.proofs.Common.{◌∙◌, ◌∷◌, map}
use Rattle.std.specs.Prelude.{if◌then◌else◌, [], filter}
use Rattle.xa_decide.specs.Context.{is_row}
use Rattle.xa_decide.proofs.LookLemmas.{item_looked_at, nothing_looked_at, passed_one}
use Rattle.xa_decide.proofs.look.Look.at_source.Goals.{in-Some+in_ok-at_row, in_default}
use Rattle.xa_decide.proofs.look.Look.at_source.Goals as goal

pub loop-place-preserved : goal.loop-place-preserved
loop-place-preserved c =
    let d = c.args.self.now.designator.now in
    let found = is_row c.args.entity.now d in
    let each = passed_one found (λ r. r.value) in elim c.match-item_at.branch [
      | in-Some+in_ok-at_row w ↦
          item_looked_at (λ r. if found r then r.value ∷ [] else []) (λ xs. map (λ r. r.value) (filter found xs)) each c.args.self.now.sought.now c.rows-rows.result.now
          c.loop-place.so_far _ _ c.places-places.result.now c.loop-place.place-index _ _ c.loop-place-test.true
          w.in-Some.ensures w.in_ok-at_row.ensures (w.so_far-is ∙ w.and-so_far.ensures) c.loop-place.invariant
      | in_default w ↦
          nothing_looked_at (λ r. if found r then r.value ∷ [] else []) (λ xs. map (λ r. r.value) (filter found xs)) each c.args.self.now.sought.now c.rows-rows.result.now
          c.loop-place.so_far _ c.places-places.result.now c.loop-place.place-index _ c.loop-place-test.true
          w.in_default.ensures w.so_far-is c.loop-place.invariant
    ]
