use Rattle.std.proofs.Common.{◌≡◌, take}
use Rattle.xa_records.proofs.sameness.are_same_parts.Given as goal

-- the parts so far are the same
abbrev pub invariant-loop-place : goal.invariant-loop-place
invariant-loop-place l = take l.place l.one ≡ take l.place l.other
