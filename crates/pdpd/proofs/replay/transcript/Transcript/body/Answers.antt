use Rattle.std.proofs.Common.{◌≢◌, Some, rules}
use Rattle.pdpd.specs.running.Reading.{TakesByte, remaining_of}
use Rattle.pdpd.proofs.ReadingLemmas.{body_wrong}
use Rattle.pdpd.proofs.replay.transcript.Transcript.body.Goals as goal

pub returns-in-Some : goal.returns-in-Some
returns-in-Some g c =
    let left = remaining_of g.R.Read.remaining c.args.self.now in
    let mid = remaining_of g.R.Read.remaining c.take.new.self in
    let rest = remaining_of g.R.Read.remaining c.next_byte.new.self in
    let here : TakesByte mid rest (Some c.in-Some.field-0) = rw c.in-Some.is at c.in_ok-next_byte.ensures.byte in
    let other : c.in-Some.field-0 ≢ 10 = search rules in
    body_wrong left mid rest c.args.count c.in-Some.field-0 c.take.new.bytes.items c.in_ok-take.ensures here other
