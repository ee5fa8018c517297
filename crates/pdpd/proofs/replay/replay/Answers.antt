use Rattle.std.proofs.Common.{◌≡◌, ◌⊎◌, subst, sym}
use Rattle.std.specs.Prelude.{⊤}
use Rattle.std.specs.Io.Buffered.{writer_inner}
use Rattle.sha2.specs.Sha256.{sha256}
use Rattle.sqlite.proofs.Callers.{memory_is_clean}
use Rattle.sqlite.specs.Steps.{over_memory}
use Rattle.pdpd.specs.declared.exit.Exit.{Exit}
use Rattle.pdpd.specs.declared.exit.Exit.TheVariants.{Memory, Store}
use Rattle.pdpd.proofs.ReplayLemmas.{replayed_from_nothing, unopened, untold}
use Rattle.pdpd.proofs.replay.replay.Goals as goal

pub returns-in-Ok-clause-replayed : goal.returns-in-Ok-clause-replayed
returns-in-Ok-clause-replayed g c =
    replayed_from_nothing over_memory memory_is_clean c.in-Ok.records (sha256 c.args.token.now) (g.I.Read.remaining c.args.reader) (g.W.Write.contents c.args.writer)
    c.replay_over.result.exit c.replay_over.result.replayer (λ r. r.front) (λ r. g.W.Write.contents (writer_inner r.writer)) c.in-Ok.ensures.nothing c.in-Ok.ensures.sound
    c.replay_over.ensures.replayed

pub returns-in-Err-clause-read : goal.returns-in-Err-clause-read
returns-in-Err-clause-read g c =
    unopened (λ _. ⊤) (g.I.Read.remaining c.args.reader) c.without_entries-in-Err.result.exit
    (subst (λ (end : Exit). (end ≡ Memory) ⊎ (end ≡ Store)) (sym c.without_entries-in-Err.ensures.exit) c.in-Err.ensures.end)
