use Rattle.std.proofs.Common.{◌≡◌, Some, replicate}
use Rattle.xa_server.specs.Connection.{empty_stream}
use Rattle.xa_server.proofs.lines.Lines.all_open.Given as goal

abbrev pub invariant-loop : goal.invariant-loop
invariant-loop l = l.connections.items ≡ replicate l.counter (Some empty_stream)
