use Rattle.std.proofs.Common.{◌+◌, ◌≤◌, drop}
use Rattle.xa_profile.specs.writing.Lengths.{bytes_of_all, bytes_of_assignment}
use Rattle.xa_decide.proofs.response_work.cost_of_assignments.Given as goal

-- what is counted so far, and what those take that are left
abbrev pub invariant-loop-assignment : goal.invariant-loop-assignment
invariant-loop-assignment l = l.cost.bytes + bytes_of_all bytes_of_assignment (drop l.assignment-index l.assignments) ≤ bytes_of_all bytes_of_assignment l.assignments
