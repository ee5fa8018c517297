use Rattle.std.proofs.Common.{◌≡◌, length}
use Rattle.std.specs.Io.KnownBytes.{Consumes}
use Rattle.pdpd.specs.running.Reading.{remaining_of}
use Rattle.pdpd.specs.Transcript.{HasNoFeed}
use Rattle.pdpd.proofs.replay.transcript.Transcript.next_line.Given as goal

-- so many bytes of the line are taken
abbrev pub invariant-loop : goal.invariant-loop
invariant-loop g l = record {
  taken : Consumes (remaining_of g.R.Read.remaining l.fn.self) (remaining_of g.R.Read.remaining l.self) l.line.items;
  no_feed : HasNoFeed l.line.items;
  count : length l.line.items ≡ l.counter;
}
