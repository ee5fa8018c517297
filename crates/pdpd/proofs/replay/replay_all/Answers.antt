use Rattle.std.proofs.Common.{◌≡◌, ◌∙◌, List, ℕ, ap, subst, sym}
use Rattle.std.specs.Io.Buffered.{writer_contents, writer_inner}
use Rattle.std.specs.Io.KnownBytes.{Keeps, append_known}
use Rattle.pdpd.specs.declared.exit.Exit.{Exit}
use Rattle.pdpd.specs.running.Reading.{remaining_of}
use Rattle.pdpd.specs.Replay.{IsTranscriptRead, Replays}
use Rattle.pdpd.specs.running.Replaying.{end_of}
use Rattle.pdpd.proofs.ReplayLemmas.{replayed_all}
use Rattle.pdpd.proofs.replay.replay_all.Goals.{in-Ok, in-Err}
use Rattle.pdpd.proofs.replay.replay_all.Goals as goal

pub returns-in-Ok-flush-clause-replayed : goal.returns-in-Ok-flush-clause-replayed
returns-in-Ok-flush-clause-replayed g c =
    let old = c.args.replayer.now.front in
    let new = c.answer_entries.new.replayer.front in
    let left = remaining_of g.I.Read.remaining c.args.transcript.now in
    let rest = remaining_of g.I.Read.remaining c.answer_entries.new.transcript in
    let before = writer_contents g.W.Write.contents c.args.replayer.now.writer in
    let written = writer_contents g.W.Write.contents c.answer_entries.new.replayer.writer in
    let now = g.W.Write.contents (writer_inner c.flush.new.self) in
    let exit = c.match-answer_entries.exit in
    let same : end_of c.answer_entries.result ≡ exit
    = elim c.match-answer_entries.branch [
      | in-Ok w ↦ ap end_of w.in-Ok.is ∙ sym w.exit-is
      | in-Err w ↦ ap end_of w.in-Err.is ∙ sym w.exit-is
    ] in
    replayed_all g.R.Records.custody old new left rest before written now exit
    (subst (λ (e : Exit). IsTranscriptRead (Replays g.R.Records.custody old new before written) left rest e) same c.answer_entries.ensures.replayed)
    (subst (λ (bytes : List ℕ). Keeps written (append_known now bytes)) c.in-Ok-flush.ensures.ok c.in-Ok-flush.ensures.bytes)
