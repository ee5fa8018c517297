use Rattle.std.proofs.Common.{◌≡◌, length, sym, ◌∙◌, arith}
use Rattle.xa_link.proofs.ResolutionLemmas.{turn_taken, turn_no_later, turn_unfit, resolved}
use Rattle.xa_link.proofs.resolution.resolve.Goals.{then-fits+then-is_later, else-fits, else-fits-via-then-fits+else-is_later, else-fits-via-else-fits}
use Rattle.xa_link.proofs.resolution.resolve.Goals as goal

pub loop-place-preserved : goal.loop-place-preserved
loop-place-preserved c = elim c.if-fits.branch [
  | then-fits+then-is_later w ↦ rw w.found-is (turn_taken c.args.reference.now c.args.active.now c.loop-place.place c.index-active-place.result c.loop-place-test.true c.index-active-place.is
      c.loop-place.found w.is_later.result c.loop-place.invariant (sym c.fits.ensures ∙ w.if-fits.true) w.is_later.ensures w.if-is_later.true)
  | else-fits w ↦ elim w.else-fits.branch [
    | else-fits-via-then-fits+else-is_later w' ↦ rw w.found-is (turn_no_later c.args.reference.now c.args.active.now c.loop-place.place c.index-active-place.result c.loop-place-test.true c.index-active-place.is
        c.loop-place.found w'.is_later.result c.loop-place.invariant w'.is_later.ensures w'.if-is_later.false)
    | else-fits-via-else-fits w' ↦ rw w.found-is (turn_unfit c.args.reference.now c.args.active.now c.loop-place.place c.index-active-place.result c.loop-place-test.true c.index-active-place.is
        c.loop-place.found c.loop-place.invariant (sym c.fits.ensures ∙ w'.if-fits.false))
  ]
]

pub returns : goal.returns
returns c =
    let all : c.loop-place.place ≡ length c.args.active.now = omega (arith, c.loop-place-test.false, c.loop-place.auto.place-end) in
    resolved c.args.reference.now c.args.active.now c.loop-place.found (rw all at c.loop-place.invariant)
