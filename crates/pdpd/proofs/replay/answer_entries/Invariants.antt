use Rattle.std.specs.Io.Buffered.{writer_contents}
use Rattle.pdpd.specs.Replay.{IsSomeRun}
use Rattle.pdpd.specs.running.Reading.{remaining_of}
use Rattle.pdpd.specs.running.Replaying.{AreReady}
use Rattle.pdpd.proofs.ReplayLemmas.{AnsweredTo, ReadTo}
use Rattle.pdpd.proofs.replay.answer_entries.Given as goal

-- the entries before the one of that number are answered
abbrev pub invariant-loop-number : goal.invariant-loop-number
invariant-loop-number g l = record {
  served : IsSomeRun g.R.Records.custody l.fn.replayer.front.server l.replayer.front.server;
  ready : AreReady l.replayer.front.lines;
  read : ReadTo (remaining_of g.I.Read.remaining l.fn.transcript) (remaining_of g.I.Read.remaining l.transcript) l.number;
  answered : AnsweredTo g.R.Records.custody l.fn.replayer.front l.replayer.front
      (remaining_of g.I.Read.remaining l.fn.transcript) (remaining_of g.I.Read.remaining l.transcript)
      (writer_contents g.W.Write.contents l.fn.replayer.writer) (writer_contents g.W.Write.contents l.replayer.writer) l.number;
}
