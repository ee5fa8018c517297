use Rattle.std.proofs.Common.{◌≡◌, drop}
use Rattle.serde_json.specs.View.{view}
use Rattle.xa_notation.specs.Json.{has_needed}
use Rattle.xa_notation.proofs.json.check_needed.Given as goal

-- what was needed so far is there
abbrev pub invariant-loop-entry : goal.invariant-loop-entry
invariant-loop-entry l = has_needed (drop l.entry-index l.entries) (view l.value) ≡ has_needed l.entries (view l.value)
