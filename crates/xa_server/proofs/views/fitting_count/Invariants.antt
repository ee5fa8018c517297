use Rattle.std.proofs.Common.{◌≡◌, ◌≤◌, ◌-◌, ◌+◌}
use Rattle.xa_server.specs.handling.Views.{fitting_count}
use Rattle.xa_server.proofs.views.fitting_count.Given as goal

-- those so far, and then those of the rest that find room
abbrev pub invariant-loop-ready : goal.invariant-loop-ready
invariant-loop-ready l =
    (goal.iterator-loop-ready).can_next l.ready-iterator ×
    (goal.iterator-loop-ready).is_finite l.ready-iterator ×
    (l.count ≤ l.most) ×
    (l.count + fitting_count (l.most - l.count) l.left l.ready-iterator ≡ fitting_count l.most l.bytes l.views.entries)
