use Rattle.std.proofs.Common.{inl, [], w64}
use Rattle.xa_store.proofs.Common.{to_z-of_z}
use Rattle.xa_store.proofs.StreamLemmas.{moved_ok, moved_err, same_weaker, kept_failed}
use Rattle.xa_store.proofs.check.cursor.rowid_of_next.Goals as goal

pub returns-in-Ok-clause-same : goal.returns-in-Ok-clause-same
returns-in-Ok-clause-same g c clean = same_weaker c.rowid_here.result (c.in-Ok.ensures.same clean)

pub returns-in-Ok-clause-kept : goal.returns-in-Ok-clause-kept
returns-in-Ok-clause-kept g c clean = inl (c.in-Ok.ensures.same clean)

pub returns-in-Ok-clause-moves : goal.returns-in-Ok-clause-moves
returns-in-Ok-clause-moves g c clean sql given has =
    moved_ok g.S.Store c.args.table c.args.next_domain c.args.last c.args.rows.now.conn.now c.advance.new.self.conn.now sql given _ c.rowid_here.result (rw (to_z-of_z w64 c.args.next_domain c.ranges.next_domain) at c.rowid_here.ensures) (c.in-Ok.ensures.ok clean sql [] given has)

pub returns-in-Err-clause-kept : goal.returns-in-Err-clause-kept
returns-in-Err-clause-kept g c clean = kept_failed _ _ c.in-Err.error (c.in-Err.ensures.kept clean)

pub returns-in-Err-clause-moves : goal.returns-in-Err-clause-moves
returns-in-Err-clause-moves g c clean sql given has =
    moved_err g.S.Store c.args.table c.args.next_domain c.args.last c.args.rows.now.conn.now c.advance.new.self.conn.now sql given c.in-Err.error c.error_of_check.result c.error_of_check.ensures (c.in-Err.ensures.err clean sql [] given has)
