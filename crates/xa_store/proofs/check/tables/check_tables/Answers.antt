use Rattle.std.proofs.Common.{◌≡◌, ◌&&◌, true, sym, subst}
use Rattle.xa_store.proofs.Common.{state, is_sound_table, sources_in, Domains, Tokens, Documents, Roots}
use Rattle.xa_store.specs.keeping.Check.{has_table, CheckedBy}
use Rattle.xa_store.proofs.LoadLemmas.{all_tables, has_sources, checked_then}
use Rattle.xa_store.proofs.check.tables.check_tables.Goals as goal

pub check_table-requires : goal.check_table-requires
check_table-requires g c = subst (λ kind. has_table kind c.args.checking.version ≡ true) (sym c.sources.ensures) (has_sources c.args.checking.version)

pub returns : goal.returns
returns g c =
    let next = c.args.checking.next_domain in
    all_tables next (state g.S.Store c.args.conn.now) (state g.S.Store c.check_table.new.conn) c.check_table.result
    (checked_then (λ db. (is_sound_table db next Domains && is_sound_table db next Tokens) && (is_sound_table db next Documents && is_sound_table db next Roots)) (λ db. is_sound_table db next (sources_in c.args.checking.version))
    (state g.S.Store c.args.conn.now) (state g.S.Store c.check_common.new.conn) (state g.S.Store c.check_table.new.conn) c.in_ok-check_common.field-0 c.check_table.result c.in_ok-check_common.ensures
    (subst (λ kind. CheckedBy c.args.checking.version (λ db. is_sound_table db next kind) (state g.S.Store c.check_common.new.conn) (state g.S.Store c.check_table.new.conn) c.check_table.result) c.sources.ensures c.check_table.ensures))
