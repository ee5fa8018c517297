use Rattle.std.proofs.Common.{◌+◌, ◌≤◌, drop}
use Rattle.xa_profile.specs.writing.Lengths.{bytes_of_all, bytes_of_duty}
use Rattle.xa_decide.proofs.response_work.cost_of_duties.Given as goal

-- what is counted so far, and what those take that are left
abbrev pub invariant-loop-duty : goal.invariant-loop-duty
invariant-loop-duty l = l.cost.bytes + bytes_of_all bytes_of_duty (drop l.duty-index l.duties) ≤ bytes_of_all bytes_of_duty l.duties
