use Rattle.std.proofs.Common.{◌≡◌}
use Rattle.xa_store.proofs.Common.{upload_of, uploaded, within, state_of}
use Rattle.xa_store.specs.Keeper.{are_only_ours}
use Rattle.xa_store.proofs.KeeperLemmas.{is_changing_of, keeper_after, said_of}
use Rattle.xa_store.proofs.keeper.records.SqlRecordsRecords.upload.Goals as goal

pub invariant_of-self : goal.invariant_of-self
invariant_of-self g c =
    keeper_after g.S.Store g.met.S.Store.shut_if_dirty g.met.S.Store.settled c.self.inside.conn c.upload-done.new.conn c.after_change.new.conn (are_only_ours c.self.inside.tables) c.self.inside.health.is_open c.after_change.new.self.is_open c.self.inside.health.faults c.after_change.new.self.faults
    c.self.invariant (within (uploaded c.args.key c.args.text.now)) c.args.name.now c.upload-done.result c.after_change.result c.upload-done.ensures.turns c.after_change.ensures

pub returns : goal.returns
returns g c = record {
  does =
      is_changing_of g.S.Store g.met.S.Store.shut_if_dirty g.met.S.Store.settled c.self.inside.conn c.upload-done.new.conn c.after_change.new.conn (are_only_ours c.self.inside.tables) c.self.inside.health.is_open c.after_change.new.self.is_open c.self.inside.health.faults c.after_change.new.self.faults
      c.self.invariant (within (uploaded c.args.key c.args.text.now)) c.args.name.now c.upload-done.result c.after_change.result c.upload-done.ensures.turns c.after_change.ensures c.args.self.now c.self.view_is;
  which =
      said_of g.S.Store g.met.S.Store.shut_if_dirty g.met.S.Store.settled c.self.inside.conn c.upload-done.new.conn c.after_change.new.conn (are_only_ours c.self.inside.tables) c.self.inside.health.is_open c.after_change.new.self.is_open c.self.inside.health.faults c.after_change.new.self.faults
      c.self.invariant (within (uploaded c.args.key c.args.text.now)) c.args.name.now c.upload-done.result c.after_change.result c.upload-done.ensures.turns c.after_change.ensures c.args.self.now c.self.view_is (λ kept u. u ≡ upload_of c.args.key (state_of c.args.name.now kept)) c.upload-done.ensures.which;
}
