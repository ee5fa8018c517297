-- What the statements make by which the tables are made.
use Rattle.std.proofs.Common.{◌≡◌, ℕ, zero, suc, ◌+◌, ◌<◌, pos, true, false, MatchBool, List, [], ◌∷◌, ◌++◌, map, get_or, drop, Ok, Err, Result, OnOk, IsTrue, refl, sym, ap, subst, ◌∙◌, drop-cons, arith}
use Rattle.xa_store.proofs.Common.{AllByRecursion, Database, IsDatabase, understood, Gives, Chosen, Schema, State, HasCleanDisk, Executes, Failure, survives_then, mode_of, Table, Trees, CreateTable, Null, Int, statement_of, runs_as, cast_row, with_rowid, all-append, CheckedTable, Domains, Tokens, Documents, Roots, Attributes, Sources, tree_of, meta_row, schema_1, schema_2, meta, domains, tokens, policies, roots, attributes, sources}
use Rattle.sqlite.specs.Change.{created, next_tree}
use Rattle.sqlite.specs.Does.{Tally, Does, MakesSequence, MakesTable, lacks_sequence, sequence_text}
use Rattle.sqlite_catalog.specs.Change.{KeepsRows}
use Rattle.xa_store.specs.declared.schema.creation.CreationStep.{CreationStep}
use Rattle.xa_store.specs.declared.schema.creation.CreationStep.TheVariants as steps
use Rattle.xa_store.specs.keeping.Creation.{AreEmpty, AreMade, creation_statement, with_meta, with_domains, with_tokens, with_policies, with_roots, IsBefore, IsAfter}
use Rattle.xa_store.specs.keeping.Execution.{StaysInside}
use Rattle.xa_store.specs.Opening.{no_tables}
use Rattle.xa_store.specs.keeping.Texts as texts
use Rattle.xa_store.proofs.MadeTexts.{IsMaking, schema_1_made, all_made, meta_is, domains_is, tokens_is, policies_is, roots_is, attributes_is, sources_is, first_row, first_row_is}
use Rattle.xa_store.proofs.ApartLemmas.{survives_still}
use Rattle.xa_store.proofs.HoldLemmas.{is_other, kept}
use Rattle.xa_store.proofs.StepLemmas.{meta_cast}
use Rattle.xa_store.proofs.TableLemmas.{went, same_value, inserts}
use Rattle.xa_store.proofs.WriteLemmas.{row_added}

-- these trees have no rows
abbrev pub Bare : Trees → List Table → Type 0
Bare db tables = AllByRecursion (λ t. db t ≡ []) (map (λ (t : Table). t.tree) tables)

still_bare : (tables : List Table) (old new : Trees) → KeepsRows tables old new → Bare old tables → Bare new tables
still_bare [] old new kept bare = tt
still_bare (t ∷ tables) old new kept bare = (kept.0 ∙ bare.0, still_bare tables old new kept.1 bare.1)

-- no table of sequences is made beside it
only_made : (db after : Database) → lacks_sequence db.schema ≡ false → MakesSequence db (Ok after) → after ≡ db
only_made db after uncounted h = same_value (subst (λ b. MatchBool b (MakesTable sequence_text db (Ok after)) (Gives db (Ok after))) uncounted h)

module _ (schema : Schema) (sql : List ℕ) (table : Table) (is : IsMaking schema sql table) (uncounted : lacks_sequence (created schema table) ≡ false) (old new : State) (has : old.now.schema ≡ schema) (count : ℕ)
    (h : Executes sql [] old new (Ok count)) where
  abbrev text : List ℕ
  text = statement_of sql (understood schema sql)

  pub record Came : Type 0 where
    pub schema_is : new.now.schema ≡ created schema table
    pub empty : new.now.trees (next_tree schema) ≡ []
    pub others : KeepsRows schema.tables old.now.trees new.now.trees
    pub sound : IsDatabase new.now

  pub came : Came
  came =
      let w = runs_as sql [] old new schema has CreateTable is.command is.plain count h in
      let all = subst (λ s. Does old.step_limit (mode_of old) [] (record old.now { schema = s }) text Rattle.std.proofs.Common.None CreateTable (Ok (w.tally, new.now))) has w.changed in
      let done = went all in
      let made = went done.1 in
      let table_is : made.1.table ≡ record table { tree = 0 } = same_value (sym made.1.defined ∙ is.defined) in
      let after : (made.0).schema ≡ created schema table = made.1.is ∙ ap (created schema) table_is in
      let same : done.0 ≡ made.0 = only_made made.0 done.0 (ap lacks_sequence after ∙ uncounted) made.2 in
      let now : new.now ≡ done.0 = ap (λ (p : Tally × Database). p.1) (same_value done.2) in
      let whole : new.now ≡ made.0 = now ∙ same in
      record {
        schema_is = ap (λ (d : Database). d.schema) whole ∙ after;
        empty = ap (λ (d : Database). d.trees (next_tree schema)) whole ∙ made.1.empty;
        others = subst (λ (d : Database). KeepsRows schema.tables old.now.trees d.trees) (sym whole) made.1.others;
        sound = w.sound;
      }

  bare_after : Bare old.now.trees schema.tables → AllByRecursion (λ t. new.now.trees t ≡ []) (map (λ (t : Table). t.tree) schema.tables ++ next_tree schema ∷ [])
  bare_after bare =
      all-append (λ t. new.now.trees t ≡ []) (map (λ (t : Table). t.tree) schema.tables) (next_tree schema ∷ []) (still_bare schema.tables old.now.trees new.now.trees came.others bare) (came.empty, tt)

  -- the tables that were empty and this one, under the schema that this is now
  pub grown : (later : Schema) → created schema table ≡ later → Bare old.now.trees schema.tables → AreEmpty later (map (λ (t : Table). t.tree) schema.tables ++ next_tree schema ∷ []) new.now
  grown later is_later bare = record { schema = came.schema_is ∙ is_later; empty = bare_after bare }

-- once the tree of meta was written, no other table has a row yet
still : (old new : Trees) → ((t : ℕ) → is_other 0 t ≡ true → new t ≡ old t) → AllByRecursion (λ t. old t ≡ []) (0 ∷ 1 ∷ 3 ∷ 5 ∷ 7 ∷ 8 ∷ 10 ∷ []) → (kind : CheckedTable) → new (tree_of kind) ≡ []
still old new stays empty Domains = stays 1 refl ∙ empty.1.0
still old new stays empty Tokens = stays 3 refl ∙ empty.1.1.0
still old new stays empty Documents = stays 5 refl ∙ empty.1.1.1.0
still old new stays empty Roots = stays 7 refl ∙ empty.1.1.1.1.0
still old new stays empty Attributes = stays 8 refl ∙ empty.1.1.1.1.1.0
still old new stays empty Sources = stays 10 refl ∙ empty.1.1.1.1.1.1.0

-- what stands after a step, by its statement
pub taken : (step : CreationStep) (old new : State) (count : ℕ) → IsBefore step old.now → Executes (creation_statement step) [] old new (Ok count) → IsAfter step new.now
taken steps.Meta old new count before h = grown no_tables texts.create_meta meta meta_is refl old new before.schema count h with_meta refl before.empty
taken steps.Domains old new count before h = grown with_meta texts.create_domains domains domains_is refl old new before.schema count h with_domains refl before.empty
taken steps.Tokens old new count before h = grown with_domains texts.create_tokens tokens tokens_is refl old new before.schema count h with_tokens refl before.empty
taken steps.Policies old new count before h = grown with_tokens texts.create_policies policies policies_is refl old new before.schema count h with_policies refl before.empty
taken steps.Roots old new count before h = grown with_policies texts.create_roots roots roots_is refl old new before.schema count h with_roots refl before.empty
taken steps.Attributes old new count before h = grown with_roots texts.create_attributes attributes attributes_is refl old new before.schema count h schema_1 schema_1_made before.empty
taken steps.Sources old new count before h = grown schema_1 texts.create_sources sources sources_is refl old new before.schema count h schema_2 all_made before.empty
taken steps.FirstRow old new count before h =
    let adds = inserts texts.add_meta_row [] old new before.schema 0 meta refl count first_row 4 refl refl first_row_is h in
    let row = Int (pos 1) ∷ Null ∷ Int (pos 2) ∷ Int (pos 1) ∷ [] in
    let put : with_rowid Chosen (old.now.trees 0) (cast_row meta row) ≡ meta_row (pos 1) = ap (with_rowid Chosen (old.now.trees 0)) (meta_cast (pos 1)) in
    let wrote = row_added meta_row (λ _. pos 1) (λ _. refl) meta old.now.trees new.now.trees [] before.empty.0 tt (pos 1) row put adds.edited in
    record {
      schema = adds.schema;
      made = record { database = adds.database; meta = wrote.rows; empty = still old.now.trees new.now.trees (kept wrote) before.empty };
    }

pub on_ok : {X E P Q : Type 0} (r : Result X E) → OnOk r P → (P → Q) → OnOk r Q
on_ok (Ok x) p f = f p
on_ok (Err e) p f = tt

-- ---- one step after another

abbrev pub all_steps : List CreationStep
all_steps = steps.Meta ∷ steps.Domains ∷ steps.Tokens ∷ steps.Policies ∷ steps.Roots ∷ steps.Attributes ∷ steps.Sources ∷ steps.FirstRow ∷ []

-- what stands when these steps are left
abbrev pub Reaches : List CreationStep → Database → Type 0
Reaches [] = AreMade
Reaches (step ∷ left) = IsBefore step

-- all steps but those that are left were taken
pub record MadeSoFar (left : List CreationStep) (old mid : State) : Type 0 where
  pub stays : StaysInside {X = Unit {0}} old mid (Ok tt)
  pub reaches : HasCleanDisk mid → IsTrue old.in_transaction → IsBefore steps.Meta old.now → Reaches left mid.now

pub none_made : (s : State) → MadeSoFar all_steps s s
none_made s = record {
  stays = record { survives = survives_still s; kept = λ clean inside. record { was_open = λ up. up; committed = λ up. refl }; inside = λ clean inside. inside };
  reaches = λ clean inside before. before;
}

pub stays_then : (old mid new : State) → StaysInside {X = Unit {0}} old mid (Ok tt) → (r : Result (Unit {0}) Failure) → StaysInside mid new r → StaysInside old new r
stays_then old mid new so_far r on = record {
  survives = survives_then old mid new (λ _. ⊥) (λ _. ⊥) (λ _. ⊥) (λ _ db h. h) (λ _ db h. h) so_far.survives on.survives;
  kept = λ clean inside.
      let clean_mid : HasCleanDisk mid = omega (arith, on.survives.clean, clean) in
      let one = so_far.kept clean_mid inside in
      let two = on.kept clean (so_far.inside clean_mid inside) in
      record { was_open = λ up. one.was_open (two.was_open up); committed = λ up. two.committed up ∙ one.committed (two.was_open up) };
  inside = λ clean inside. on.inside clean (so_far.inside (omega (arith, on.survives.clean, clean)) inside);
}

step_at : (at : ℕ) → at < 8 → (db : Database) → Reaches (drop at all_steps) db → IsBefore (get_or all_steps at steps.Meta) db
step_at at lt db = subst (λ (left : List CreationStep). Reaches left db → IsBefore (get_or all_steps at steps.Meta) db) (sym (drop-cons all_steps at steps.Meta lt)) (λ h. h)

next_step : (at : ℕ) → at < 8 → (db : Database) → IsAfter (get_or all_steps at steps.Meta) db → Reaches (drop (at + 1) all_steps) db
next_step zero lt db h = h
next_step (suc zero) lt db h = h
next_step (suc (suc zero)) lt db h = h
next_step (suc (suc (suc zero))) lt db h = h
next_step (suc (suc (suc (suc zero)))) lt db h = h
next_step (suc (suc (suc (suc (suc zero))))) lt db h = h
next_step (suc (suc (suc (suc (suc (suc zero)))))) lt db h = h
next_step (suc (suc (suc (suc (suc (suc (suc zero))))))) lt db h = h
next_step (suc (suc (suc (suc (suc (suc (suc (suc at)))))))) lt db h = absurd (omega (arith, lt))

module _ (at : ℕ) (lt : at < 8) (old mid new : State) (so_far : MadeSoFar (drop at all_steps) old mid) (x : Unit {0}) (on : StaysInside {X = Unit {0}} mid new (Ok x)) where
  pub one_made : (HasCleanDisk new → IsTrue mid.in_transaction → IsBefore (get_or all_steps at steps.Meta) mid.now → IsAfter (get_or all_steps at steps.Meta) new.now) → MadeSoFar (drop (at + 1) all_steps) old new
  one_made makes =
      let both = stays_then old mid new so_far.stays (Ok x) on in
      record {
        stays = record { survives = both.survives; kept = both.kept; inside = both.inside };
        reaches = λ clean inside before.
            let clean_mid : HasCleanDisk mid = omega (arith, on.survives.clean, clean) in
            next_step at lt new.now (makes clean (so_far.stays.inside clean_mid inside) (step_at at lt mid.now (so_far.reaches clean_mid inside before)));
      }
