use Rattle.std.proofs.Common.{length}
use Rattle.xa_server.proofs.lines.+first_free.Given as goal

abbrev pub decreases-first_free : goal.decreases-first_free
decreases-first_free l = length l.connections.now
