use Rattle.std.proofs.Common.{◌+◌, ◌≤◌, drop, length}
use Rattle.xa_profile.specs.writing.Lengths.{bytes_of_text}
use Rattle.xa_decide.proofs.writing_cost.escapes_in.Given as goal

-- what was added so far, and what escapes add to the rest
abbrev pub invariant-loop-byte : goal.invariant-loop-byte
invariant-loop-byte l = length l.text + l.escapes + bytes_of_text (drop l.byte-index l.text) ≤ bytes_of_text l.text + length (drop l.byte-index l.text)
