-- What a stop inside opening has left: the tables that were there, or all that opening makes of them.
use Rattle.std.proofs.Common.{◌≡◌, ◌⊎◌, inl, inr, Bool, cond, IsTrue, sym, ap, subst, ◌∙◌}
use Rattle.xa_store.proofs.Common.{Database, State, IsLive, Schema, Trees, Schema1, Schema2, Rests, RestsIn, schema_1, schema_2}
use Rattle.sqlite_catalog.specs.Listing.{Lists}
use Rattle.sqlite_catalog.proofs.ReadLemmas.{lists_once}
use Rattle.sqlite_trees.specs.Objects.{catalog_tree}
use Rattle.xa_store.specs.Opening.{AreNewTables, IsBlank, IsMigrated, MayLeaveTables}
use Rattle.xa_store.specs.Reopening.{HasBegunOpening, HasTablesOrMade, IsOverRest, OpensOnceMore}
use Rattle.xa_store.specs.Sound.{IsOurDatabase}
use Rattle.xa_store.proofs.OpenLemmas.{not_second}

module _ (old left new : State) (settled : (db : Trees) → IsTrue old.is_open → old.may_leave db → db ≡ old.committed.trees)
    (old_live : IsLive old) (new_live : IsLive new) (begun : HasBegunOpening old left) (over : IsOverRest left new) where
  abbrev found : Trees
  found = new.committed.trees

  same_schema : found ≡ old.committed.trees → new.now.schema ≡ old.committed.schema
  same_schema e =
      ap (λ (d : Database). d.schema) over.fresh.clean
      ∙ lists_once (found catalog_tree) new.committed.schema old.committed.schema (new_live over.fresh.is_open).1.lists
      (subst (λ (db : Trees). Lists (db catalog_tree) old.committed.schema) (sym e) (old_live begun.was_open).1.lists)

  stands : (under : Schema) → RestsIn under old → found ≡ old.committed.trees → RestsIn under new × (new.now.trees ≡ old.now.trees)
  stands under rests e = (
    record {
      schema = same_schema e ∙ ap (λ (d : Database). d.schema) (sym rests.settled) ∙ rests.schema;
      settled = over.fresh.clean;
      idle = over.fresh.autocommit;
    },
    ap (λ (d : Database). d.trees) over.fresh.clean ∙ e ∙ ap (λ (d : Database). d.trees) (sym rests.settled),
  )

  ours : IsOurDatabase found → Rests new
  ours database = record {
    schema =
        ap (λ (d : Database). d.schema) over.fresh.clean
        ∙ lists_once (found catalog_tree) new.committed.schema schema_2 (new_live over.fresh.is_open).1.lists database.lists;
    settled = over.fresh.clean;
    idle = over.fresh.autocommit;
  }

  shown : (P : Trees → Type 0) → P found → P new.now.trees
  shown P = subst P (ap (λ (d : Database). d.trees) (sym over.fresh.clean))

  may : old.may_leave found ⊎ MayLeaveTables old found
  may = begun.leaves.crash begun.clean found over.left

  of_second : old.may_leave found ⊎ MayLeaveTables old found → Rests old → Rests new × (new.now.trees ≡ old.now.trees)
  of_second (inl same) rests = stands schema_2 rests (settled found begun.was_open same)
  of_second (inr made) rests = absurd (not_second old (ap (λ (b : Bool). cond b Schema1 Schema2) made.0) rests)

  of_first : old.may_leave found ⊎ MayLeaveTables old found → RestsIn schema_1 old
      → (RestsIn schema_1 new × (new.now.trees ≡ old.now.trees)) ⊎ (Rests new × IsMigrated old.committed.trees new.now.trees)
  of_first (inl same) rests = inl (stands schema_1 rests (settled found begun.was_open same))
  of_first (inr made) rests = let m = made.2 rests in inr (ours m.sound.database, shown (IsMigrated old.committed.trees) m)

  of_blank : old.may_leave found ⊎ MayLeaveTables old found → IsBlank old → IsBlank new ⊎ (Rests new × AreNewTables new.now.trees)
  of_blank (inl same) blank =
      inl (record {
        schema = same_schema (settled found begun.was_open same) ∙ ap (λ (d : Database). d.schema) (sym blank.settled) ∙ blank.schema;
        settled = over.fresh.clean;
        idle = over.fresh.autocommit;
      })
  of_blank (inr made) blank = let m = made.1 blank in inr (ours m.database, shown AreNewTables m)

  had_or_made : HasTablesOrMade old new
  had_or_made = record { second = of_second may; first = of_first may; blank = of_blank may }

pub opens_once_more : (old left new : State) → ((db : Trees) → IsTrue old.is_open → old.may_leave db → db ≡ old.committed.trees)
    → IsLive old → IsLive new → OpensOnceMore old left new
opens_once_more old left new settled old_live new_live begun over = had_or_made old left new settled old_live new_live begun over
