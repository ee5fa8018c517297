use Rattle.xa_store.proofs.Common.{gate_of}
use Rattle.xa_store.specs.Keeper.{are_only_ours}
use Rattle.xa_store.proofs.KeeperReadingLemmas.{is_reading_of, keeper_after}
use Rattle.xa_store.proofs.keeper.records.SqlRecordsRecords.gate.Goals as goal

pub invariant_of-self : goal.invariant_of-self
invariant_of-self g c =
    keeper_after g.S.Store g.met.S.Store.shut_if_dirty g.met.S.Store.settled c.self.inside.conn c.gate_by_name-read.new.conn c.after_reading.new.conn (are_only_ours c.self.inside.tables) c.self.inside.health.is_open c.after_reading.new.self.is_open c.self.inside.health.faults c.after_reading.new.self.faults
    c.self.invariant c.gate_by_name-read.ensures.only_reads.quiet c.gate_by_name-read.result c.after_reading.result c.after_reading.ensures

pub returns : goal.returns
returns g c =
    is_reading_of g.S.Store g.met.S.Store.shut_if_dirty g.met.S.Store.settled c.self.inside.conn c.gate_by_name-read.new.conn c.after_reading.new.conn (are_only_ours c.self.inside.tables) c.self.inside.health.is_open c.after_reading.new.self.is_open c.self.inside.health.faults c.after_reading.new.self.faults
    c.self.invariant c.gate_by_name-read.ensures.only_reads.quiet c.gate_by_name-read.result c.after_reading.result c.after_reading.ensures c.args.self.now c.self.view_is (gate_of c.args.name.now) c.gate_by_name-read.ensures.only_reads.opens c.gate_by_name-read.ensures.reads
