use Rattle.xa_link.proofs.ResolutionLemmas.{IsResolved}
use Rattle.xa_link.proofs.resolution.resolve.Given as goal

abbrev pub invariant-loop-place : goal.invariant-loop-place
invariant-loop-place l = IsResolved l.reference l.active l.place l.found
