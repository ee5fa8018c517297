-- The tables are checked one after another.
use Rattle.std.proofs.Common.{◌≡◌, ℤ, Bool, true, false, ◌&&◌, cond, inl, inr, map, Option, Some, Result, Ok, Err, IsTrue, refl, sym, ap, subst, ◌∙◌, arith}
use Rattle.xa_store.proofs.Common.{list_all, Database, IsDatabase, State, HasCleanDisk, Trees, IsSound, all_from_test, CheckedTable, Domains, Tokens, Documents, Roots, SchemaVersion, Schema1, Schema2, OpenError, NotThisSchema, Damaged, Store, Memory, are_counted, are_rising, as_read, is_count, is_left_empty, is_sound, is_sound_table, checked, tables_in, known_next, opened, place_in, read_meta, rowid_in, schema_of, sources_in, tree_of, RestsIn}
use Rattle.xa_store.specs.keeping.Check.{has_table, AreSources, Asks, Checked, FindsRest, GivesAs, GivesNext, CheckedBy, TellsSound, Orders, Walked, Walks}
use Rattle.xa_store.specs.Opening.{IsFailure}
use Rattle.xa_store.proofs.AreRowsLemmas.{sources_of_schema_1_are, sources_are}
use Rattle.xa_store.proofs.AskedLemmas.{as_failed, asks_then, rests_before, same_before}
use Rattle.xa_store.proofs.ReadLemmas.{stopped_checks, walked_checks}
use Rattle.xa_store.proofs.StreamLemmas.{same_weaker}
use Rattle.xa_store.proofs.RiseLemmas.{both_true}

-- ---- one after another

pub both_checked : (x y : Bool) (r : Result (Unit {0}) OpenError) → x ≡ true → TellsSound y r → TellsSound (x && y) r
both_checked x y r is h = subst (λ b. TellsSound b r) (sym (ap (λ b. b && y) is)) h

-- what is told of a test is told of what it decides
pub test_decides : (test sound : Bool) (r : Result (Unit {0}) OpenError) → (test ≡ true → sound ≡ true) → (test ≡ false → sound ≡ false) → TellsSound test r → TellsSound sound r
test_decides true sound r holds fails told = subst (λ b. TellsSound b r) (sym (holds refl)) told
test_decides false sound r holds fails told = subst (λ b. TellsSound b r) (sym (fails refl)) told

-- a query that failed, and a first part that wasn't sound
pub failure_checked : (b : Bool) (e : OpenError) → IsFailure e → TellsSound b (Err e)
failure_checked b e (inl is) = subst (λ o. TellsSound b (Err o)) (sym is) tt
failure_checked b e (inr is) = subst (λ o. TellsSound b (Err o)) (sym is) tt

pub failed_checked : {version : SchemaVersion} {X : Type 0} (sound : Trees → Bool) (old new : State) (e : OpenError) → Asks {X = X} version old new (Err e)
    → (HasCleanDisk new → RestsIn (schema_of version) old → IsFailure e) → CheckedBy version sound old new (Err e)
failed_checked sound old new e asks fails = record { asks = as_failed old new e asks; finds = λ clean rests. failure_checked (sound old.now.trees) e (fails clean rests) }

pub first_stops : (x y : Bool) (e : OpenError) → TellsSound x (Err e) → TellsSound (x && y) (Err e)
first_stops x y Damaged h = ap (λ b. b && y) h
first_stops x y NotThisSchema h = absurd h
first_stops x y Store h = tt
first_stops x y Memory h = tt

-- schema 1 has no other table
pub none_beside : (version : SchemaVersion) → version ≡ Schema1 → (x : Bool) (db : Trees) (r : Result (Unit {0}) OpenError) → TellsSound x r → TellsSound (x && is_left_empty version db) r
none_beside version is x db r h = subst (λ b. TellsSound b r) (and_true x ∙ ap (λ v. x && is_left_empty v db) (sym is)) h
  where
    and_true : (x : Bool) → x ≡ (x && true)
    and_true true = refl
    and_true false = refl

pub failure_next : (known : Option ℤ) (e : OpenError) → IsFailure e → GivesNext known (Err e)
failure_next known e (inl is) = subst (λ o. GivesNext known (Err o)) (sym is) tt
failure_next known e (inr is) = subst (λ o. GivesNext known (Err o)) (sym is) tt

module _ (p q : Trees → Bool) (a b : State) where
  -- the second is checked if the first is sound
  pub checked_then : {version : SchemaVersion} (c : State) (x : Unit {0}) (r : Result (Unit {0}) OpenError) → CheckedBy version p a b (Ok x) → CheckedBy version q b c r → CheckedBy version (λ db. p db && q db) a c r
  checked_then c x r first second = record {
    asks = asks_then a b c x first.asks r second.asks;
    finds = λ clean rests.
        let between : HasCleanDisk b = omega (arith, second.asks.survives.clean) in
        let same = same_before a b c x first.asks between rests in
        both_checked (p a.now.trees) (q a.now.trees) r (first.finds between rests)
        (subst (λ (d : Database). TellsSound (q d.trees) r) same.now (second.finds clean (rests_before a b c x first.asks between rests)));
  }

module _ (kind : CheckedTable) (next : ℤ) (a b : State) where
  pub table_checked : {version : SchemaVersion} (c : State) (x : Unit {0}) (r : Result (Unit {0}) OpenError) → Walked version kind next a b (Ok x) → Asks version b c r
      → (HasCleanDisk c → RestsIn (schema_of version) b → Orders kind b.now.trees r) → CheckedBy version (λ db. is_sound_table db next kind) a c r
  table_checked c x r first second finds = record {
    asks = asks_then a b c x first.asks r second;
    finds = λ clean rests.
        let between : HasCleanDisk b = omega (arith, second.survives.clean) in
        let same = same_before a b c x first.asks between rests in
        let walks = first.finds between rests in
        let there = subst (λ (d : Database). Walks kind next d.trees (Ok tt)) (sym same.now) walks in
        let order = finds clean (rests_before a b c x first.asks between rests) next there in
        walked_checks kind next a.now.trees r walks (subst (λ (d : Database). TellsSound (are_rising (map rowid_in (map (as_read kind) (d.trees (tree_of kind))))) r) same.now order);
  }

  pub table_stopped : {version : SchemaVersion} (e : OpenError) → Walked version kind next a b (Err e) → CheckedBy version (λ db. is_sound_table db next kind) a b (Err e)
  table_stopped e first = record { asks = first.asks; finds = λ clean rests. stopped_checks kind next a.now.trees e (first.finds clean rests) }

-- ---- all but the first

in_pairs : (d t o r a : Bool) → (((d && t) && (o && r)) && a) ≡ (d && (t && (o && (r && (a && true)))))
in_pairs false t o r a = refl
in_pairs true false o r a = refl
in_pairs true true false r a = refl
in_pairs true true true false a = refl
in_pairs true true true true false = refl
in_pairs true true true true true = refl

-- each schema has the table of its rows of sources
pub has_sources : (version : SchemaVersion) → has_table (sources_in version) version ≡ true
has_sources Schema1 = refl
has_sources Schema2 = refl

module _ (next : ℤ) (old new : State) (r : Result (Unit {0}) OpenError) where
  pub all_tables : {version : SchemaVersion} → CheckedBy version
      (λ db. ((is_sound_table db next Domains && is_sound_table db next Tokens) && (is_sound_table db next Documents && is_sound_table db next Roots)) && is_sound_table db next (sources_in version)) old new r
      → CheckedBy version (λ db. list_all (is_sound_table db next) (tables_in version)) old new r
  all_tables {version} h = record {
    asks = h.asks;
    finds = λ clean rests.
        let test = is_sound_table old.now.trees next in
        subst (λ b. TellsSound b r) (in_pairs (test Domains) (test Tokens) (test Documents) (test Roots) (test (sources_in version))) (h.finds clean rests);
  }

are_sources : (version : SchemaVersion) (db : Trees) (next : ℤ) → IsSound (schema_of version) db → is_sound_table db next (sources_in version) ≡ true → AreSources version db
are_sources Schema1 = sources_of_schema_1_are
are_sources Schema2 = sources_are

sources_sound : (version : SchemaVersion) (db : Trees) (next : ℤ) → list_all (is_sound_table db next) (tables_in version) ≡ true → is_sound_table db next (sources_in version) ≡ true
sources_sound version db next h = (all_from_test (is_sound_table db next) (tables_in version) h).1.1.1.1.0

module _ {version : SchemaVersion} (a b c : State) (x : Unit {0}) (r : Result (Unit {0}) OpenError) where
  -- the places, and then that no row of a source stands elsewhere
  pub rest_checked : Asks version a b (Ok x) → CheckedBy version (λ db. is_left_empty version db) b c r
      → (HasCleanDisk b → RestsIn (schema_of version) a → AreSources version a.now.trees → are_counted (map place_in (a.now.trees (tree_of (sources_in version)))) ≡ true) → FindsRest version a c r
  rest_checked first second places clean rests are =
      let between : HasCleanDisk b = omega (arith, second.asks.survives.clean) in
      let same = same_before a b c x first between rests in
      both_checked _ _ r (places between rests are)
      (subst (λ (d : Database). TellsSound (is_left_empty version d.trees) r) same.now (second.finds clean (rests_before a b c x first between rests)))

  pub places_checked : (next : ℤ) → is_count next ≡ true → Asks version a b (Ok x) → Asks version b c r
      → (HasCleanDisk b → RestsIn (schema_of version) a → list_all (is_sound_table a.now.trees next) (tables_in version) ≡ true)
      → FindsRest version b c r → HasCleanDisk c → RestsIn (schema_of version) a → IsDatabase a.now → TellsSound (is_sound version a.now.trees next) r
  places_checked next counts first second tables rest clean rests live =
      let between : HasCleanDisk b = omega (arith, second.survives.clean) in
      let all = tables between rests in
      let same = same_before a b c x first between rests in
      let are = are_sources version a.now.trees next (subst (λ s. IsSound s a.now.trees) rests.schema live) (sources_sound version a.now.trees next all) in
      let told = rest clean (rests_before a b c x first between rests) (subst (λ (d : Database). AreSources version d.trees) (sym same.now) are) in
      both_checked _ _ r (both_true _ _ counts all)
      (subst (λ (d : Database). TellsSound (are_counted (map place_in (d.trees (tree_of (sources_in version)))) && is_left_empty version d.trees) r) same.now told)

-- ---- what opening answers

pub unknown : (version : SchemaVersion) (db : Trees) (e : OpenError) → GivesNext (known_next version (map read_meta (db 0))) (Err e) → GivesAs {X = Unit {0}} (Err e) (opened version db)
unknown version db NotThisSchema h = ap (checked version db) h
unknown version db Damaged h = absurd h
unknown version db Store h = tt
unknown version db Memory h = tt

module _ (version : SchemaVersion) (db : Trees) (next : ℤ) (known : known_next version (map read_meta (db 0)) ≡ Some next) where
  told_as : (b : Bool) → is_sound version db next ≡ b → opened version db ≡ cond b (Ok tt) (Err Damaged)
  told_as b h = ap (checked version db) known ∙ ap (λ b. cond b (Ok tt) (Err Damaged)) h

  checked_gives : (r : Result (Unit {0}) OpenError) → TellsSound (is_sound version db next) r → GivesAs r (opened version db)
  checked_gives (Ok x) h = told_as true h
  checked_gives (Err Damaged) h = told_as false h
  checked_gives (Err NotThisSchema) h = absurd h
  checked_gives (Err Store) h = tt
  checked_gives (Err Memory) h = tt

-- ---- the number of the next domain was found, and then the tables were checked

module _ {version : SchemaVersion} (a b c : State) (next : ℤ) (known : HasCleanDisk b → RestsIn (schema_of version) a → GivesNext (known_next version (map read_meta (a.now.trees 0))) (Ok next))
    (first : Asks version a b (Ok next)) (live : IsTrue a.is_open → IsDatabase a.now) where
  pub all_checked : (r : Result (Unit {0}) OpenError) → Asks version b c r → (HasCleanDisk c → RestsIn (schema_of version) b → IsDatabase b.now → TellsSound (is_sound version b.now.trees next) r) → Checked version a c r
  all_checked r second finds = record {
    asks = asks_then a b c next first r second;
    opened = λ clean rests. checked_gives version a.now.trees next (known (between clean) rests) r (sound_then clean rests);
    live = λ clean. same_weaker r (live_before (between clean));
  }
    where
      between : HasCleanDisk c → HasCleanDisk b
      between clean = omega (arith, second.survives.clean)

      live_before : HasCleanDisk b → IsDatabase a.now
      live_before clean = live (first.goes_on clean).was_open

      sound_then : HasCleanDisk c → RestsIn (schema_of version) a → TellsSound (is_sound version a.now.trees next) r
      sound_then clean rests =
          let same = same_before a b c next first (between clean) rests in
          subst (λ (d : Database). TellsSound (is_sound version d.trees next) r) same.now
          (finds clean (rests_before a b c next first (between clean) rests) (subst IsDatabase (sym same.now) (live_before (between clean))))

pub not_looked : {version : SchemaVersion} (a b : State) (e : OpenError) → Asks {X = ℤ} version a b (Err e)
    → (HasCleanDisk b → RestsIn (schema_of version) a → GivesNext (known_next version (map read_meta (a.now.trees 0))) (Err e)) → Checked version a b (Err e)
not_looked {version} a b e asks known = record { asks = as_failed a b e asks; opened = λ clean rests. unknown version a.now.trees e (known clean rests); live = λ clean. tt }
