use Rattle.std.proofs.Common.{sym, ap, ◌∙◌}
use Rattle.xa_store.proofs.Common.{state}
use Rattle.xa_store.specs.Opening.{has_room}
use Rattle.xa_store.proofs.OpenLemmas.{busy_loads}
use Rattle.xa_store.proofs.opening.make_or_check.Goals as goal

pub returns-then-not-is_autocommit-clause-loads : goal.returns-then-not-is_autocommit-clause-loads
returns-then-not-is_autocommit-clause-loads g c = busy_loads (state g.S.Store c.args.conn.now)

pub make_and_check-requires : goal.make_and_check-requires
make_and_check-requires g c = ap has_room (sym c.schema.ensures.value) ∙ sym c.has_room.ensures ∙ c.if-has_room.true

pub check_existing-requires : goal.check_existing-requires
check_existing-requires g c = ap has_room (sym c.schema.ensures.value) ∙ sym c.has_room.ensures ∙ c.if-has_room.false
