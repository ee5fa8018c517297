use Rattle.std.proofs.Common.{◌+◌, ◌≤◌, drop}
use Rattle.xa_profile.specs.writing.Lengths.{bytes_of_all, bytes_of_key}
use Rattle.xa_decide.proofs.response_work.cost_of_keys.Given as goal

-- what is counted so far, and what those take that are left
abbrev pub invariant-loop-key : goal.invariant-loop-key
invariant-loop-key l = l.cost.bytes + bytes_of_all bytes_of_key (drop l.key-index l.keys) ≤ bytes_of_all bytes_of_key l.keys
