use Rattle.std.proofs.Common.{◌≡◌, ◌≤◌, []}
use Rattle.std.specs.Io.KnownBytes.{Keeps}
use Rattle.pdpd.specs.running.Reading.{remaining_of}
use Rattle.pdpd.proofs.replay.transcript.Transcript.read_on.Given as goal

-- nothing is read yet
abbrev pub invariant-loop-self : goal.invariant-loop-self
invariant-loop-self g l = record {
  none : l.self.buffer ≡ [];
  keeps : Keeps (remaining_of g.R.Read.remaining l.fn.self) (remaining_of g.R.Read.remaining l.self);
  fewer : l.self.reads_left ≤ l.fn.self.reads_left;
}

abbrev pub decreases-loop-self : goal.decreases-loop-self
decreases-loop-self g l = l.self.reads_left
