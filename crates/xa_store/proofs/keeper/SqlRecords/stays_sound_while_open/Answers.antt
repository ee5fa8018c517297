use Rattle.std.proofs.Common.{IsTrue, subst}
use Rattle.xa_store.proofs.Common.{state, IsSoundStore}
use Rattle.xa_store.specs.Keeper.{IsSound, are_only_ours}
use Rattle.xa_store.proofs.ReopeningLemmas.{store_while_open}
use Rattle.xa_store.proofs.keeper.SqlRecords.stays_sound_while_open.Goals as goal

pub returns-clause-store : goal.returns-clause-store
returns-clause-store g c =
    subst (λ k. IsTrue k.had_only_our_tables → IsTrue (state g.S.Store k.conn).is_open → IsSoundStore (state g.S.Store k.conn)) c.self.view_is
    (store_while_open g.S.Store g.met.S.Store.settled (record { conn = c.self.inside.conn; had_only_our_tables = are_only_ours c.self.inside.tables; is_open = c.self.inside.health.is_open; faults = c.self.inside.health.faults }) c.self.invariant)

pub returns-clause-keeper : goal.returns-clause-keeper
returns-clause-keeper g c =
    subst (λ k. IsTrue k.had_only_our_tables → IsTrue (state g.S.Store k.conn).is_open → IsTrue k.is_open → IsSound g.S.Store k) c.self.view_is
    (λ own up on. (own, store_while_open g.S.Store g.met.S.Store.settled (record { conn = c.self.inside.conn; had_only_our_tables = are_only_ours c.self.inside.tables; is_open = c.self.inside.health.is_open; faults = c.self.inside.health.faults }) c.self.invariant own up, on))
