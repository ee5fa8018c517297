use Rattle.std.proofs.Common.{◌≡◌, drop}
use Rattle.xa_policy.specs.Combining.{only_one_applicable}
use Rattle.xa_policy.proofs.combining.only_one_applicable.Given as goal

-- the children that were seen change nothing
abbrev pub invariant-loop-place : goal.invariant-loop-place
invariant-loop-place l = only_one_applicable (drop l.place l.children) ≡ only_one_applicable l.children
