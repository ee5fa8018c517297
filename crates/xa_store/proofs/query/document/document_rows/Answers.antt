use Rattle.std.proofs.Common.{w64}
use Rattle.xa_store.proofs.Common.{to_z-of_z}
use Rattle.xa_store.proofs.ColumnNumbers.{of_kind}
use Rattle.xa_store.proofs.query.document.document_rows.Goals as goal

pub returns-clause-shows : goal.returns-clause-shows
returns-clause-shows g c clean =
    let n = to_z-of_z w64 c.args.number c.ranges.number in
    rw c.requires.version at (rw (n, (of_kind c.args.key.now.kind).held) at (rw (c.kind_number.ensures, c.as_bytes.ensures, c.as_bytes-2.ensures) at (c.query_rows.ensures.shows clean)))
