use Rattle.std.proofs.Common.{List, Option, ℕ, ap, subst}
use Rattle.std.specs.Prelude.{⊤}
use Rattle.std.specs.Io.Buffered.{writer_buffer, writer_inner}
use Rattle.sha2.specs.Sha256.{sha256}
use Rattle.pdpd.specs.running.Reading.{remaining_of}
use Rattle.pdpd.specs.Replay.{IsTranscriptRead}
use Rattle.pdpd.proofs.ReplayLemmas.{replayed_from}
use Rattle.pdpd.proofs.replay.replay_over.Goals as goal

pub returns-in-Ok-new-clause-read : goal.returns-in-Ok-new-clause-read
returns-in-Ok-new-clause-read g c =
    let rest = remaining_of g.I.Read.remaining c.replay_all-exit.new.transcript in
    (rest, subst (λ (left : Option (List ℕ)). IsTranscriptRead (λ _. ⊤) left rest c.replay_all-exit.result) c.in-Ok-new.ensures.remaining c.replay_all-exit.ensures.read)

pub returns-in-Ok-new-clause-replayed : goal.returns-in-Ok-new-clause-replayed
returns-in-Ok-new-clause-replayed g c =
    replayed_from g.R.Records.custody c.in-Ok.replayer.front c.replay_all-exit.new.replayer.front c.args.records (sha256 c.args.token.now)
    (g.I.Read.remaining c.args.reader) (remaining_of g.I.Read.remaining c.in-Ok-new.transcript) (remaining_of g.I.Read.remaining c.replay_all-exit.new.transcript)
    (g.W.Write.contents c.args.writer) (g.W.Write.contents (writer_inner c.in-Ok.replayer.writer))
    (g.W.Write.contents (writer_inner c.replay_all-exit.new.replayer.writer)) (writer_buffer c.in-Ok.replayer.writer) c.replay_all-exit.result
    c.in-Ok.ensures.operator c.in-Ok.ensures.records c.in-Ok.ensures.decisions c.in-Ok.ensures.opened c.in-Ok-new.ensures.remaining
    (ap g.W.Write.contents c.in-Ok.ensures.writer) c.in-Ok.ensures.unwritten c.replay_all-exit.ensures.served c.replay_all-exit.ensures.replayed
