use Rattle.std.proofs.Common.{◌+◌, ◌-◌, ◌*◌, ◌≤◌, length}
use Rattle.xa_server.specs.Driven.{HasAnswered, situation}
use Rattle.xa_server.proofs.driving.drive_open.Given as goal

-- some of what was held and read so far was answered
abbrev pub invariant-loop-end : goal.invariant-loop-end
invariant-loop-end g l = record {
  answered : HasAnswered g.R.Records.custody l.reads
      (situation g.W.Writer g.C.Clock (g.I.Reader.remaining l.fn.reader) (g.I.Reader.reads l.fn.reader) l.fn.server
      l.fn.connection l.fn.writer l.fn.clock)
      (situation g.W.Writer g.C.Clock (g.I.Reader.remaining l.reader) (g.I.Reader.reads l.reader) l.server l.connection
      l.writer l.clock);
  few : l.reads ≤ 1_000_000;
}

-- a message makes what is held less; a read adds at most 65,536 bytes to it
abbrev pub decreases-loop-end : goal.decreases-loop-end
decreases-loop-end g l = (1_000_000 - l.reads) * 65_537 + length l.connection.held
