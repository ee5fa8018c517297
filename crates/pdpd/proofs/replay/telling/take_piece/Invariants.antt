use Rattle.std.proofs.Common.{◌≡◌, false, length}
use Rattle.xa_http.specs.Stream.{fed}
use Rattle.pdpd.specs.Replay.{IsSomeRun}
use Rattle.pdpd.specs.running.Telling.{IsToldAndWritten}
use Rattle.pdpd.proofs.replay.telling.take_piece.Given as goal

-- some messages are answered
abbrev pub invariant-loop : goal.invariant-loop
invariant-loop g l = record {
  served : IsSomeRun g.R.Records.custody l.fn.server l.server;
  goes_on : l.connection.ended ≡ false;
  told : IsToldAndWritten g.R.Records.custody l.heading l.fn.server l.server (fed l.fn.connection l.piece) l.connection (g.W.Write.contents l.fn.writer) (g.W.Write.contents l.writer);
}

abbrev pub decreases-loop : goal.decreases-loop
decreases-loop g l = length l.connection.held
