use Rattle.std.proofs.Common.{◌-◌, length}
use Rattle.xa_http.specs.parsing.OpenHead.{IsOpenHead}
use Rattle.xa_http.proofs.open_head.OpenHead.follow.Given as goal

abbrev pub invariant-loop-next : goal.invariant-loop-next
invariant-loop-next l = IsOpenHead l.held l.head

abbrev pub decreases-loop-next : goal.decreases-loop-next
decreases-loop-next l = length l.held - l.head.len
