use Rattle.xa_store.proofs.Common.{token_put, within}
use Rattle.xa_store.specs.Keeper.{are_only_ours}
use Rattle.xa_store.proofs.KeeperLemmas.{is_changing_of, keeper_after}
use Rattle.xa_store.proofs.keeper.records.SqlRecordsRecords.put_token.Goals as goal

pub invariant_of-self : goal.invariant_of-self
invariant_of-self g c =
    keeper_after g.S.Store g.met.S.Store.shut_if_dirty g.met.S.Store.settled c.self.inside.conn c.put_token-done.new.conn c.after_change.new.conn (are_only_ours c.self.inside.tables) c.self.inside.health.is_open c.after_change.new.self.is_open c.self.inside.health.faults c.after_change.new.self.faults
    c.self.invariant (within (token_put c.args.digest c.args.role)) c.args.name.now c.put_token-done.result c.after_change.result c.put_token-done.ensures.turns c.after_change.ensures

pub returns : goal.returns
returns g c =
    is_changing_of g.S.Store g.met.S.Store.shut_if_dirty g.met.S.Store.settled c.self.inside.conn c.put_token-done.new.conn c.after_change.new.conn (are_only_ours c.self.inside.tables) c.self.inside.health.is_open c.after_change.new.self.is_open c.self.inside.health.faults c.after_change.new.self.faults
    c.self.invariant (within (token_put c.args.digest c.args.role)) c.args.name.now c.put_token-done.result c.after_change.result c.put_token-done.ensures.turns c.after_change.ensures c.args.self.now c.self.view_is
