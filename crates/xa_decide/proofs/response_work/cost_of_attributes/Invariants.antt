use Rattle.std.proofs.Common.{◌+◌, ◌≤◌, drop}
use Rattle.xa_profile.specs.writing.Lengths.{bytes_of_all, bytes_of_attribute}
use Rattle.xa_decide.proofs.response_work.cost_of_attributes.Given as goal

-- what is counted so far, and what those take that are left
abbrev pub invariant-loop-attribute : goal.invariant-loop-attribute
invariant-loop-attribute l = l.cost.bytes + bytes_of_all bytes_of_attribute (drop l.attribute-index l.attributes) ≤ bytes_of_all bytes_of_attribute l.attributes
