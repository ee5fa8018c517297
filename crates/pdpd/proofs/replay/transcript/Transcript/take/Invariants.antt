use Rattle.std.proofs.Common.{◌≤◌, ◌-◌, length}
use Rattle.std.specs.Io.KnownBytes.{Consumes}
use Rattle.pdpd.specs.running.Reading.{remaining_of}
use Rattle.pdpd.proofs.replay.transcript.Transcript.take.Given as goal

-- so many bytes are taken
abbrev pub invariant-loop-self : goal.invariant-loop-self
invariant-loop-self g l = record {
  taken : Consumes (remaining_of g.R.Read.remaining l.fn.self) (remaining_of g.R.Read.remaining l.self) l.bytes.items;
  within : length l.bytes.items ≤ l.count;
}

abbrev pub decreases-loop-self : goal.decreases-loop-self
decreases-loop-self g l = l.count - length l.bytes.items
