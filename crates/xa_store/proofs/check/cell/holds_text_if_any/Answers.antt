use Rattle.std.proofs.Common.{rules}
use Rattle.sqlite.specs.Order.{column}
use Rattle.xa_store.proofs.Common.{is_utf8}
use Rattle.xa_store.proofs.OpenedLemmas.{if_any_told}
use Rattle.xa_store.proofs.check.cell.holds_text_if_any.Goals as goal

pub returns : goal.returns
returns c =
    let told = c.holds_such_text_if_any.ensures in
    if_any_told is_utf8 (column c.args.row.now c.args.at) c.holds_such_text_if_any.result told.nothing (λ bytes is. let called = told.text bytes is in search rules) told.other
