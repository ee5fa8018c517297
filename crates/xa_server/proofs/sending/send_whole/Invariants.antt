use Rattle.xa_server.specs.handling.Sending.{SendsPart}
use Rattle.xa_server.proofs.sending.send_whole.Given as goal

-- the bytes before those that are left are sent
abbrev pub invariant-loop-tried : goal.invariant-loop-tried
invariant-loop-tried g l =
    SendsPart l.bytes l.left l._tried (g.W.Writer.contents l.fn.writer) (g.W.Writer.contents l.writer)
    (g.W.Writer.writes l.fn.writer) (g.W.Writer.writes l.writer)
