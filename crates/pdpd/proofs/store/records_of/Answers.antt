use Rattle.std.proofs.Common.{IsTrue, arith}
use Rattle.sqlite.specs.Held.{state}
use Rattle.sqlite.specs.State.{HasCleanDisk}
use Rattle.xa_store.specs.Keeper.{IsSound}
use Rattle.pdpd.specs.running.Opening.{IsKeeperOver}
use Rattle.pdpd.proofs.BeginningLemmas.{only_ours}
use Rattle.pdpd.proofs.store.records_of.Goals as goal

pub returns-in-Ok-clause-keeper : goal.returns-in-Ok-clause-keeper
returns-in-Ok-clause-keeper g c =
    only_ours (IsKeeperOver g.T.Store (state g.T.Store c.args.conn)) c.with_only_our_tables.result c.in-Ok.records c.with_only_our_tables.ensures
    (λ own. record {
      opens = c.in-Ok.ensures.opens;
      migrates = c.in-Ok.ensures.migrates;
      makes = c.in-Ok.ensures.makes;
      stays = c.in-Ok.ensures.stays;
      sound = c.in-Ok.ensures.sound own;
      known = c.in-Ok.ensures.known own;
    })

pub returns-in-Ok-clause-sound : goal.returns-in-Ok-clause-sound
returns-in-Ok-clause-sound g c =
    only_ours (λ k. IsTrue (state g.T.Store k.conn).is_open → IsSound g.T.Store k) c.with_only_our_tables.result c.in-Ok.records c.with_only_our_tables.ensures
    (λ own. c.in-Ok.ensures.sound own)

pub returns-in-Ok-clause-clean : goal.returns-in-Ok-clause-clean
returns-in-Ok-clause-clean g c =
    only_ours (λ k. HasCleanDisk (state g.T.Store k.conn) → HasCleanDisk (state g.T.Store c.args.conn)) c.with_only_our_tables.result c.in-Ok.records c.with_only_our_tables.ensures
    (λ own clean. omega (arith, c.in-Ok.ensures.leaves.clean, clean))
