-- What a crash has left is our tables, if it doesn't leave just anything.
use Rattle.std.proofs.Common.{◌≡◌, ◌↔◌, Bool, true, false, Result, Ok, Err, IsTrue, refl, sym, ap, ◌∙◌}
use Rattle.xa_store.proofs.Common.{Database, state, State, IsLive, Ghosts, Trees, OpenError, Schema2, opened, OpensSoundly, IsSoundStore, schema_2, kept_in}
use Rattle.sqlite_catalog.proofs.ReadLemmas.{lists_once}
use Rattle.sqlite_trees.specs.Objects.{catalog_tree}
use Rattle.xa_store.specs.Keeper.{Keeper, IsKeeper}
use Rattle.xa_store.specs.Reopening.{IsOverRest, LeavesNotAll, Reopens}
use Rattle.xa_store.proofs.KeeperReadingLemmas.{sound_store}

module _ (stopped new : State) (live : IsLive new) (over : IsOverRest stopped new) (limited : LeavesNotAll stopped) where
  abbrev left : Trees
  left = new.committed.trees

  -- else it would leave any map
  ours : ¬ ¬ OpensSoundly left
  ours others = limited.1 (left, over.left, λ are. absurd (others are))

  -- one list of tables is that of one schema
  schema_of : OpensSoundly left → new.now.schema ≡ schema_2
  schema_of are =
      ap (λ (d : Database). d.schema) over.fresh.clean
      ∙ lists_once (left catalog_tree) new.committed.schema schema_2 (live over.fresh.is_open).1.lists are.database.lists

  schema : (is : Bool) → (IsTrue is ↔ (new.now.schema ≡ schema_2)) → new.now.schema ≡ schema_2
  schema true tells = tells.0 refl
  schema false tells = absurd (ours (λ are. let h : false ≡ true = tells.1 (schema_of are) in absurd cc))

  found_sound : (r : Result (Unit {0}) OpenError) → opened Schema2 left ≡ r → r ≡ Ok tt
  found_sound (Ok x) is = refl
  found_sound (Err e) is = absurd (ours (λ are. let h = sym is ∙ are.opens in absurd cc))

pub reopens : (stopped new : State) → IsLive new → (is : Bool) → (IsTrue is ↔ (new.now.schema ≡ schema_2)) → Reopens stopped new
reopens stopped new live is tells over limited = record {
  rests = record { schema = schema stopped new live over limited is tells; settled = over.fresh.clean; idle = over.fresh.autocommit };
  opens = ap (λ (d : Database). opened Schema2 d.trees) over.fresh.clean ∙ found_sound stopped new live over limited (opened Schema2 new.committed.trees) refl;
  kept = (new.committed.trees, over.left, λ are. ap (λ (d : Database). kept_in d.trees) over.fresh.clean);
}

pub store_while_open : {S : Type 0} (g : Ghosts S) → ((s : S) (db : Trees) → IsTrue (g.view s).is_open → g.recovers s db → db ≡ (g.view s).committed) → (k : Keeper S) → IsKeeper g k
    → IsTrue k.had_only_our_tables → IsTrue (state g k.conn).is_open → IsSoundStore (state g k.conn)
store_while_open g settled k was own up = sound_store (state g k.conn) up (was own up) (λ db may. settled k.conn.store db up may)
