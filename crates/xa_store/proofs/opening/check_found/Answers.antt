use Rattle.std.proofs.Common.{sym, subst}
use Rattle.xa_store.proofs.Common.{state}
use Rattle.xa_store.specs.keeping.Check.{Tested, found_as}
use Rattle.xa_store.proofs.OpenLemmas.{ours_told}
use Rattle.xa_store.proofs.opening.check_found.Goals as goal

pub returns-in-OnlyOurs : goal.returns-in-OnlyOurs
returns-in-OnlyOurs g c =
    subst (λ tables. Tested c.args.version (state g.S.Store c.args.conn.now) (state g.S.Store c.check.new.conn) (found_as tables c.check.result)) (sym c.in-OnlyOurs.is)
    (ours_told c.args.version (state g.S.Store c.args.conn.now) (state g.S.Store c.check.new.conn) c.requires.quiet (c.requires.ours c.in-OnlyOurs.is) c.check.result c.check.ensures)

pub check_in_undone_transaction-requires-clause-quiet : goal.check_in_undone_transaction-requires-clause-quiet
check_in_undone_transaction-requires-clause-quiet g c = c.requires.quiet

pub check_in_undone_transaction-requires-clause-other : goal.check_in_undone_transaction-requires-clause-other
check_in_undone_transaction-requires-clause-other g c = c.requires.others c.in-WithOthers.is

pub returns-in-WithOthers : goal.returns-in-WithOthers
returns-in-WithOthers g c =
    subst (λ tables. Tested c.args.version (state g.S.Store c.args.conn.now) (state g.S.Store c.check_in_undone_transaction.new.conn) (found_as tables c.check_in_undone_transaction.result)) (sym c.in-WithOthers.is)
    c.check_in_undone_transaction.ensures
