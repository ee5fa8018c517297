use Rattle.xa_store.proofs.Common.{state, is_sound_table}
use Rattle.xa_store.proofs.LoadLemmas.{checked_then}
use Rattle.xa_store.proofs.check.tables.check_both.Goals as goal

pub returns : goal.returns
returns g c =
    let next = c.args.checking.next_domain in
    checked_then (λ db. is_sound_table db next c.args.first) (λ db. is_sound_table db next c.args.second) (state g.S.Store c.args.conn.now) (state g.S.Store c.check_table.new.conn) (state g.S.Store c.check_table-2.new.conn)
    c.in_ok-check_table.field-0 c.check_table-2.result c.in_ok-check_table.ensures c.check_table-2.ensures
