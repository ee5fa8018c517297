use Rattle.std.proofs.Common.{◌≡◌}
use Rattle.serde_json.specs.View.{members_view}
use Rattle.xa_notation.specs.Json.{has_only}
use Rattle.xa_notation.proofs.json.has_only.Given as goal

-- the members so far are in the table
abbrev pub invariant-loop-name : goal.invariant-loop-name
invariant-loop-name l = has_only l.entries (members_view l.fn.members.entries) ≡ has_only l.entries (members_view l.name-iterator)
