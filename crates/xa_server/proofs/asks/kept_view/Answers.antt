-- The texts are documents of their keys, since what is kept is.
use Rattle.std.proofs.Common.{rules, ◌≡◌, Some, subst, ◌∙◌}
use Rattle.xa_records.specs.Keyed.{KeepsDocuments}
use Rattle.xa_server.proofs.KeyedLemmas.{keyed_view}
use Rattle.xa_server.proofs.asks.kept_view.Goals as goal

pub returns-clause-keyed : goal.returns-clause-keyed
returns-clause-keyed g c = λ sound.
    let read = c.in_ok-view.ensures.reads sound in
    let there : Some c.in_ok-kept.kept ≡ c.in_ok-view.field-0 = search rules in
    keyed_view (g.R.Records.custody c.args.records.now).kept c.args.name.now c.in_ok-kept.kept (subst KeepsDocuments read.1 (c.keeps_documents.ensures sound)) (there ∙ read.0)
