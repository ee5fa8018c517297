use Rattle.std.proofs.Common.{◌≡◌, ℕ, suc, ◌-◌, ◌≤◌}
use Rattle.std.specs.Prelude.{◌||◌}
use Rattle.xa_link.specs.placing.Progress.{Reads, is_read}
use Rattle.xa_link.specs.placing.Reach.{some_named_by}
use Rattle.xa_link.proofs.ReachLemmas.{led}
use Rattle.xa_link.proofs.reach.read_from.Given as goal

-- what is led to by so many documents was read, and with what the last of them name it is what one more leads to
abbrev pub invariant-loop-depth : goal.invariant-loop-depth
invariant-loop-depth l =
    (l.resolved.active ≡ l.fn.resolved.active)
    × (l.depth ≤ 17)
    × Reads (led l.fn.resolved.active l.place l.depth) l.fn.resolved l.resolved l.fn.reader l.reader
    × ((place : ℕ) → (is_read l.resolved.read place || some_named_by l.last.items place) ≡ led l.fn.resolved.active l.place (suc l.depth) place)

abbrev pub decreases-loop-depth : goal.decreases-loop-depth
decreases-loop-depth l = 17 - l.depth
