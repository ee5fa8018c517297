use Rattle.std.proofs.Common.{◌≡◌, drop}
use Rattle.xa_profile.specs.parsing.Tree.{items_view}
use Rattle.xa_profile.specs.Json.{each}
use Rattle.xa_profile.specs.parsing.Json.{behind}
use Rattle.xa_profile.proofs.reading.each_behind.Given as goal

-- what was read, and then what is left to read
abbrev pub invariant-loop-value : goal.invariant-loop-value
invariant-loop-value g l =
    let reads = g.R.Reader.reads l.reader in
    behind l.items (each reads (items_view (drop l.value-index l.values))) ≡ behind l.fn.items (each reads (items_view l.values))
