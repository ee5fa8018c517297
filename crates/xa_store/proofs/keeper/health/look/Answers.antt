use Rattle.xa_store.proofs.Common.{state, clean_if_open}
use Rattle.xa_store.proofs.StandingLemmas.{prepared_looks, prepared_sees}
use Rattle.xa_store.proofs.keeper.health.look.Goals as goal

pub returns-clause-looks : goal.returns-clause-looks
returns-clause-looks g c =
    let new = c.prepare-prepared.new.self in
    prepared_looks _ (state g.S.Store c.args.conn.now) (state g.S.Store new) _ (clean_if_open (g.S.Store.view new.store) (g.met.S.Store.shut_if_dirty new.store)) c.prepare-prepared.result
    c.prepare-prepared.ensures.ok c.prepare-prepared.ensures.err c.prepare-prepared.ensures.survives

pub returns-clause-sees : goal.returns-clause-sees
returns-clause-sees g c =
    let new = c.prepare-prepared.new.self in
    prepared_sees _ (state g.S.Store c.args.conn.now) (state g.S.Store new) c.prepare-prepared.result
    c.prepare-prepared.ensures.ok c.prepare-prepared.ensures.err c.is_open_by.result c.is_open_by.ensures.opened c.is_open_by.ensures.failed
