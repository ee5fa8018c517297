use Rattle.std.proofs.Common.{◌&&◌}
use Rattle.xa_store.proofs.Common.{state, is_sound_table, Domains, Tokens, Documents, Roots}
use Rattle.xa_store.proofs.LoadLemmas.{checked_then}
use Rattle.xa_store.proofs.check.tables.check_common.Goals as goal

pub returns : goal.returns
returns g c =
    let next = c.args.checking.next_domain in
    checked_then (λ db. is_sound_table db next Domains && is_sound_table db next Tokens) (λ db. is_sound_table db next Documents && is_sound_table db next Roots) (state g.S.Store c.args.conn.now)
    (state g.S.Store c.check_both.new.conn) (state g.S.Store c.check_both-2.new.conn) c.in_ok-check_both.field-0 c.check_both-2.result c.in_ok-check_both.ensures c.check_both-2.ensures
