use Rattle.std.proofs.Common.{◌≡◌, false, length}
use Rattle.pdpd.specs.Replay.{IsSomeRun}
use Rattle.pdpd.specs.running.Telling.{HasRoom}
use Rattle.pdpd.proofs.PieceLemmas.{TakenTo}
use Rattle.pdpd.proofs.replay.telling.take.Given as goal

-- the bytes before the rest are handed over, and the session goes on
abbrev pub invariant-loop-rest : goal.invariant-loop-rest
invariant-loop-rest g l = record {
  served : IsSomeRun g.R.Records.custody l.fn.server l.server;
  goes_on : l.connection.ended ≡ false;
  room : HasRoom l.connection;
  taken : TakenTo g.R.Records.custody l.heading l.bytes l.rest l.fn.server l.server l.fn.connection l.connection (g.W.Write.contents l.fn.writer) (g.W.Write.contents l.writer);
}

abbrev pub decreases-loop-rest : goal.decreases-loop-rest
decreases-loop-rest g l = length l.rest
