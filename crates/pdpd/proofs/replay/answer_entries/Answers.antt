use Rattle.std.proofs.Common.{None, Some, List, Option, ℕ, subst, sym}
use Rattle.std.specs.Prelude.{⊤}
use Rattle.std.specs.Io.Buffered.{writer_contents}
use Rattle.pdpd.specs.declared.exit.Exit.{Exit}
use Rattle.pdpd.specs.running.Reading.{remaining_of}
use Rattle.pdpd.specs.Replay.{IsEntryReplied, IsTranscriptRead, Replays}
use Rattle.pdpd.specs.running.Replaying.{Writes}
use Rattle.pdpd.specs.Transcript.{TakesEntry}
use Rattle.pdpd.proofs.HeadingLemmas.{entry_within}
use Rattle.pdpd.proofs.RunLemmas.{some_on}
use Rattle.pdpd.proofs.ReplayLemmas.{answered_all, answered_badly, answered_more, given_all, given_badly, given_more}
use Rattle.pdpd.proofs.replay.answer_entries.Goals as goal

pub returns-in-Err-clause-replayed : goal.returns-in-Err-clause-replayed
returns-in-Err-clause-replayed g c =
    let old = c.args.replayer.now.front in
    let new = c.loop-number.replayer.front in
    let left = remaining_of g.I.Read.remaining c.args.transcript.now in
    let mid = remaining_of g.I.Read.remaining c.loop-number.transcript in
    let rest = remaining_of g.I.Read.remaining c.next_entry.new.self in
    let before = writer_contents g.W.Write.contents c.args.replayer.now.writer in
    let now = writer_contents g.W.Write.contents c.loop-number.replayer.writer in
    subst (λ (e : Exit). IsTranscriptRead (Replays g.R.Records.custody old new before now) left rest e) (sym c.exit.ensures.exit)
    (answered_badly g.R.Records.custody old new left mid rest before now c.loop-number.number
    (TakesEntry mid rest c.next_entry.new.bytes.items) c.in-Err.fault c.loop-number.invariant.answered c.in-Err.ensures)

pub returns-in-Err-clause-read : goal.returns-in-Err-clause-read
returns-in-Err-clause-read g c =
    let left = remaining_of g.I.Read.remaining c.args.transcript.now in
    let mid = remaining_of g.I.Read.remaining c.loop-number.transcript in
    let rest = remaining_of g.I.Read.remaining c.next_entry.new.self in
    subst (λ (e : Exit). IsTranscriptRead (λ _. ⊤) left rest e) (sym c.exit.ensures.exit)
    (given_badly left mid rest c.loop-number.number (TakesEntry mid rest c.next_entry.new.bytes.items) c.in-Err.fault c.loop-number.invariant.read c.in-Err.ensures)

pub returns-in_default-clause-replayed : goal.returns-in_default-clause-replayed
returns-in_default-clause-replayed g c =
    let old = c.args.replayer.now.front in
    let new = c.loop-number.replayer.front in
    let left = remaining_of g.I.Read.remaining c.args.transcript.now in
    let mid = remaining_of g.I.Read.remaining c.loop-number.transcript in
    let rest = remaining_of g.I.Read.remaining c.next_entry.new.self in
    let before = writer_contents g.W.Write.contents c.args.replayer.now.writer in
    let now = writer_contents g.W.Write.contents c.loop-number.replayer.writer in
    let none : TakesEntry mid rest c.next_entry.new.bytes.items None = rw c.in_default.is at c.in-Ok.ensures in
    answered_all g.R.Records.custody old new left mid rest before now c.loop-number.number
    c.next_entry.new.bytes.items c.loop-number.invariant.answered none

pub returns-in_default-clause-read : goal.returns-in_default-clause-read
returns-in_default-clause-read g c =
    let left = remaining_of g.I.Read.remaining c.args.transcript.now in
    let mid = remaining_of g.I.Read.remaining c.loop-number.transcript in
    let rest = remaining_of g.I.Read.remaining c.next_entry.new.self in
    let none : TakesEntry mid rest c.next_entry.new.bytes.items None = rw c.in_default.is at c.in-Ok.ensures in
    given_all left mid rest c.loop-number.number c.next_entry.new.bytes.items c.loop-number.invariant.read none

pub loop-number-preserved : goal.loop-number-preserved
loop-number-preserved g c =
    let old = c.args.replayer.now.front in
    let mid = c.loop-number.replayer.front in
    let new = c.answer_entry.new.self.front in
    let left = remaining_of g.I.Read.remaining c.args.transcript.now in
    let between = remaining_of g.I.Read.remaining c.loop-number.transcript in
    let rest = remaining_of g.I.Read.remaining c.next_entry.new.self in
    let before = writer_contents g.W.Write.contents c.args.replayer.now.writer in
    let written = writer_contents g.W.Write.contents c.loop-number.replayer.writer in
    let now = writer_contents g.W.Write.contents c.answer_entry.new.self.writer in
    let bytes = c.next_entry.new.bytes.items in
    let takes : TakesEntry between rest bytes (Some c.in-Some.heading) = rw c.in-Some.is at c.in-Ok.ensures in
    record {
      served =
          some_on g.R.Records.custody g.met.R.Records.open_if_sound old.server mid.server new.server c.loop-number.invariant.served c.answer_entry.ensures.served;
      ready = c.in_ok-answer_entry.ensures.ready;
      read = given_more left between rest c.loop-number.number c.in-Some.heading bytes c.loop-number.invariant.read takes;
      answered =
          answered_more g.R.Records.custody g.met.R.Records.open_if_sound old mid new left between rest before written now c.loop-number.number c.in-Some.heading bytes
          c.loop-number.invariant.answered takes
          (subst (λ (bs : List ℕ). Writes written now (IsEntryReplied g.R.Records.custody c.in-Some.heading bs mid new)) c.deref.ensures.value c.in_ok-answer_entry.ensures.replied);
    }

pub answer_entry-requires-clause-within : goal.answer_entry-requires-clause-within
answer_entry-requires-clause-within g c =
    let between = remaining_of g.I.Read.remaining c.loop-number.transcript in
    let rest = remaining_of g.I.Read.remaining c.next_entry.new.self in
    let takes : TakesEntry between rest c.next_entry.new.bytes.items (Some c.in-Some.heading) = rw c.in-Some.is at c.in-Ok.ensures in
    entry_within between rest c.next_entry.new.bytes.items c.in-Some.heading takes

pub returns-in_err-answer_entry-clause-served : goal.returns-in_err-answer_entry-clause-served
returns-in_err-answer_entry-clause-served g c =
    some_on g.R.Records.custody g.met.R.Records.open_if_sound c.args.replayer.now.front.server c.loop-number.replayer.front.server c.answer_entry.new.self.front.server
    c.loop-number.invariant.served c.answer_entry.ensures.served
