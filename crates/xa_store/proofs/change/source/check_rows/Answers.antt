use Rattle.std.proofs.Common.{sym, subst}
use Rattle.std.proofs.lemmas.List.{drop_all}
use Rattle.xa_store.specs.keeping.Plan.{HaveTexts, RowsRead}
use Rattle.xa_store.proofs.CountLemmas.{rest_from}
use Rattle.xa_store.proofs.change.source.check_rows.Goals as goal

pub loop-row-init : goal.loop-row-init
loop-row-init c = ((λ reads. reads), (λ texts. texts))

pub loop-row-preserved : goal.loop-row-preserved
loop-row-preserved c =
    let first = rest_from c.args.rows.now c.loop-row.row-index c.row-item.result c.row-item.is c.loop-row-test.true in (
      (λ reads. c.loop-row.invariant.0 (subst RowsRead (sym first) (c.in_ok-check_row.ensures.reads, reads))),
      (λ texts. c.loop-row.invariant.1 (subst HaveTexts (sym first) (c.in_ok-check_row.ensures.texts, texts))),
    )

pub returns : goal.returns
returns c =
    let none = drop_all _ c.args.rows.now c.loop-row-test.false in
    record {
      reads = c.loop-row.invariant.0 (subst RowsRead (sym none) tt);
      texts = c.loop-row.invariant.1 (subst HaveTexts (sym none) tt);
    }
