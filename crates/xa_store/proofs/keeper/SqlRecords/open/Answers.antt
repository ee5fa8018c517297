use Rattle.std.proofs.Common.{IsTrue, Ok, sym, subst}
use Rattle.xa_store.proofs.Common.{state}
use Rattle.xa_store.specs.Keeper.{IsSound}
use Rattle.xa_store.specs.Opening.{IsKnownSchema, Makes, Migrates, Opens, Settles}
use Rattle.xa_store.proofs.OpenLemmas.{is_keeper, leaves_alone, makes_keeper, makes_refused, migrates_keeper, migrates_refused, opens_keeper, opens_refused, settles_keeper, sound_keeper}
use Rattle.xa_store.proofs.keeper.SqlRecords.open.Goals as goal

pub over-requires : goal.over-requires
over-requires g c = is_keeper g.S.Store g.met.S.Store.shut_if_dirty g.met.S.Store.settled (state g.S.Store c.args.conn) c.make_or_check.new.conn c.in-Ok.tables c.in-Ok.ensures.loads

pub returns-in-Ok-clause-opens : goal.returns-in-Ok-clause-opens
returns-in-Ok-clause-opens g c rests =
    subst (λ k. Opens g.S.Store (state g.S.Store c.args.conn) (Ok k)) (sym c.over.ensures)
    (opens_keeper g.S.Store g.met.S.Store.shut_if_dirty g.met.S.Store.settled (state g.S.Store c.args.conn) c.make_or_check.new.conn c.in-Ok.tables c.in-Ok.ensures.loads rests)

pub returns-in-Ok-clause-migrates : goal.returns-in-Ok-clause-migrates
returns-in-Ok-clause-migrates g c rests =
    subst (λ k. Migrates g.S.Store (state g.S.Store c.args.conn) (Ok k)) (sym c.over.ensures)
    (migrates_keeper g.S.Store g.met.S.Store.shut_if_dirty g.met.S.Store.settled (state g.S.Store c.args.conn) c.make_or_check.new.conn c.in-Ok.tables c.in-Ok.ensures.loads rests)

pub returns-in-Ok-clause-makes : goal.returns-in-Ok-clause-makes
returns-in-Ok-clause-makes g c blank =
    subst (λ k. Makes g.S.Store (state g.S.Store c.args.conn) (Ok k)) (sym c.over.ensures)
    (makes_keeper g.S.Store g.met.S.Store.shut_if_dirty g.met.S.Store.settled (state g.S.Store c.args.conn) c.make_or_check.new.conn c.in-Ok.tables c.in-Ok.ensures.loads blank)

pub returns-in-Ok-clause-settled : goal.returns-in-Ok-clause-settled
returns-in-Ok-clause-settled g c =
    subst (λ k. Settles g.S.Store k) (sym c.over.ensures)
    (settles_keeper g.S.Store g.met.S.Store.shut_if_dirty g.met.S.Store.settled (state g.S.Store c.args.conn) c.make_or_check.new.conn c.in-Ok.tables c.in-Ok.ensures.loads)

pub returns-in-Ok-clause-sound : goal.returns-in-Ok-clause-sound
returns-in-Ok-clause-sound g c =
    subst (λ k. IsTrue k.had_only_our_tables → IsTrue (state g.S.Store k.conn).is_open → IsSound g.S.Store k) (sym c.over.ensures)
    (sound_keeper g.S.Store g.met.S.Store.shut_if_dirty g.met.S.Store.settled (state g.S.Store c.args.conn) c.make_or_check.new.conn c.in-Ok.tables c.in-Ok.ensures.loads)

pub returns-in-Ok-clause-known : goal.returns-in-Ok-clause-known
returns-in-Ok-clause-known g c =
    subst (λ k. IsTrue k.had_only_our_tables → IsKnownSchema (state g.S.Store c.args.conn).now.schema) (sym c.over.ensures) c.in-Ok.ensures.loads.known

pub returns-in-Err-clause-opens : goal.returns-in-Err-clause-opens
returns-in-Err-clause-opens g c =
    opens_refused g.S.Store g.met.S.Store.shut_if_dirty g.met.S.Store.settled (state g.S.Store c.args.conn) c.make_or_check.new.conn c.in-Err.error c.in-Err.ensures.loads

pub returns-in-Err-clause-migrates : goal.returns-in-Err-clause-migrates
returns-in-Err-clause-migrates g c =
    migrates_refused g.S.Store g.met.S.Store.shut_if_dirty g.met.S.Store.settled (state g.S.Store c.args.conn) c.make_or_check.new.conn c.in-Err.error c.in-Err.ensures.loads

pub returns-in-Err-clause-makes : goal.returns-in-Err-clause-makes
returns-in-Err-clause-makes g c =
    makes_refused g.S.Store g.met.S.Store.shut_if_dirty g.met.S.Store.settled (state g.S.Store c.args.conn) c.make_or_check.new.conn c.in-Err.error c.in-Err.ensures.loads

pub returns-in-Err-clause-refused : goal.returns-in-Err-clause-refused
returns-in-Err-clause-refused g c =
    leaves_alone g.S.Store g.met.S.Store.shut_if_dirty g.met.S.Store.settled (state g.S.Store c.args.conn) c.make_or_check.new.conn c.in-Err.error c.in-Err.ensures.loads
