-- From the parts of opening to what it answers.
use Rattle.std.proofs.Common.{◌≡◌, ◌⊎◌, inl, inr, Bool, true, false, cond, codes, Result, Ok, Err, IsTrue, IfOk, IfErr, OnOk, ◌↔◌, refl, sym, ap, subst, ◌∙◌, true≢false, arith}
use Rattle.xa_store.proofs.Common.{Database, IsDatabase, Held, state, State, HasCleanDisk, Survives, Ghosts, Trees, clean_if_open, survives_then, survives_weaker, second_of_both, OpenError, Store, SchemaVersion, Schema1, Schema2, opened, schema_of, IsKeepersStore, Rests, RestsIn, SameNow, schema_1, kept_in}
use Rattle.sqlite_schema.specs.Names.{same_name}
use Rattle.sqlite_catalog.specs.Listing.{IsSound as IsSoundUnder}
use Rattle.xa_store.specs.keeping.Check.{Checked, IsIdle, IsSoundIn, Loads, MakesTables, MigratesTables, Tested, found_as}
use Rattle.xa_store.specs.Keeper.{Keeper, IsKeeper, IsSound, are_only_ours}
use Rattle.xa_store.specs.Opening.{AreNewTables, GivesOrFails, IsBlank, IsFailure, IsKnown, IsKnownSchema, IsMigrated, IsRefusal, LeavesAlone, Makes, MayLeaveTables, Migrates, Opens, Settles, has_room, is_free, no_tables, schema_version_in}
use Rattle.xa_store.specs.declared.keeper.tables.Tables.{Tables}
use Rattle.xa_store.specs.declared.keeper.tables.Tables.TheVariants.{OnlyOurs, WithOthers}
use Rattle.xa_store.proofs.ApartLemmas.{fails_no_refusal, survives_still}
use Rattle.xa_store.proofs.AskedLemmas.{same_then}
use Rattle.xa_store.proofs.KeeperReadingLemmas.{sound_store}
use Rattle.xa_store.proofs.OursLemmas.{made_nothing, opened_ours}
use Rattle.xa_store.proofs.QuietLemmas.{rests_after}

-- ---- a store without tables has room for ours, and one with tables of a keeper has none

pub blank_has_room : has_room no_tables ≡ true
blank_has_room = refl

pub none_has_room : (version : SchemaVersion) → has_room (schema_of version) ≡ false
unfolding same_name
none_has_room Schema1 = refl
none_has_room Schema2 = refl

-- which schema it is, is told by the name that the second has more
pub version_told : (version : SchemaVersion) → schema_version_in (schema_of version) ≡ version
unfolding same_name
version_told Schema1 = refl
version_told Schema2 = refl

module _ (a : State) where
  no_rest : IsTrue (has_room a.now.schema) → (version : SchemaVersion) → ¬ RestsIn (schema_of version) a
  no_rest room version rests = true≢false (sym room ∙ ap has_room rests.schema ∙ none_has_room version)

  not_blank : has_room a.now.schema ≡ false → ¬ IsBlank a
  not_blank full blank = true≢false (sym blank_has_room ∙ ap has_room (sym blank.schema) ∙ full)

  pub not_second : schema_version_in a.now.schema ≡ Schema1 → ¬ Rests a
  not_second first rests = absurd (let e : Schema1 ≡ Schema2 = sym first ∙ ap schema_version_in rests.schema ∙ version_told Schema2 in cc)

  not_first : schema_version_in a.now.schema ≡ Schema2 → ¬ RestsIn schema_1 a
  not_first second rests = absurd (let e : Schema2 ≡ Schema1 = sym second ∙ ap schema_version_in rests.schema ∙ version_told Schema1 in cc)

-- what is left of tables that are known to be none of them
nothing_known : (a : State) {P : Type 0} → ¬ Rests a → ¬ RestsIn schema_1 a → (IsBlank a → P) → IsKnown a → P
nothing_known a second first blank (inl h) = absurd (second h)
nothing_known a second first blank (inr (inl h)) = absurd (first h)
nothing_known a second first blank (inr (inr h)) = blank h

pub sound_ours : (s : State) → IsSoundIn Schema2 s → IsKeepersStore s
sound_ours s sound = opened_ours s sound.rests sound.database sound.opens

-- ---- the tables of a schema were checked

module _ (version : SchemaVersion) (a c : State) (quiet : IsIdle a) (schema : a.now.schema ≡ schema_of version) where
  at_rest : IsTrue a.is_open → RestsIn (schema_of version) a
  at_rest up = record { schema = schema; settled = quiet.settled up; idle = quiet.idle }

  module _ (r : Result (Unit {0}) OpenError) (check : Checked version a c r) where
    survived : Survives a c (λ _. ⊥)
    survived = survives_weaker a c _ _ (λ _ db h. h.0 schema) check.asks.survives

    same : HasCleanDisk c → IsTrue c.is_open → SameNow a c
    same clean up = check.asks.same clean (at_rest (check.asks.was_open clean up)) up

  ours_sound : (x : Unit {0}) → Checked version a c (Ok x) → Tested version a c (Ok OnlyOurs)
  ours_sound x check = record {
    survives = survived (Ok x) check;
    refused = λ clean up. tt;
    same = λ clean rests up. same (Ok x) check clean up;
    opened = check.opened;
    known = λ rests. refl;
    stays = λ clean rests. (check.asks.goes_on clean).is_open;
    sound = λ clean own.
        let on = check.asks.goes_on clean in
        let rests = at_rest on.was_open in
        let still = same (Ok x) check clean on.is_open in
        record {
          rests = rests_after a c rests still;
          database = subst IsDatabase (sym still.now) (check.live clean);
          opens = ap (λ (d : Database). opened version d.trees) still.now ∙ check.opened clean rests;
        };
    own = λ is. schema;
  }

  ours_refused : (e : OpenError) → Checked version a c (Err e) → Tested version a c (Err e)
  ours_refused e check = record {
    survives = survived (Err e) check;
    refused = λ clean up refusal. same (Err e) check clean up;
    same = λ clean rests up. same (Err e) check clean up;
    opened = check.opened;
    known = λ rests. tt;
    stays = λ clean rests. tt;
    sound = λ clean. tt;
    own = tt;
  }

  pub ours_told : (r : Result (Unit {0}) OpenError) → Checked version a c r → Tested version a c (found_as OnlyOurs r)
  ours_told (Ok x) check = ours_sound x check
  ours_told (Err e) check = ours_refused e check

-- a transaction is under way, and nothing is asked
pub not_tested : (version : SchemaVersion) (a : State) → Tested version a a (Err Store)
not_tested version a = record {
  survives = survives_still a;
  refused = λ clean up refusal. absurd (fails_no_refusal Store (inl refl) refusal);
  same = λ clean rests up. record { now = refl; committed = refl; idle = rests.idle };
  opened = λ clean rests. tt;
  known = λ rests. tt;
  stays = λ clean rests. tt;
  sound = λ clean. tt;
  own = tt;
}

-- ---- the tables were made first, or there were some

failure_given : (e : OpenError) (given : Result (Unit {0}) OpenError) → IsFailure e → GivesOrFails (Err e) given
failure_given e given (inl is) = subst (λ o. GivesOrFails (Err o) given) (sym is) tt
failure_given e given (inr is) = subst (λ o. GivesOrFails (Err o) given) (sym is) tt

module _ (a b : State) (room : IsTrue (has_room a.now.schema)) where
  leaves : (db : Trees) → (IsBlank a → AreNewTables db) → MayLeaveTables a db
  leaves db made = (second_of_both _ (is_free a.now.schema (codes "sources")) room, made, λ rests. absurd (no_rest a room Schema1 rests))

  -- of a failure
  failed_loads : (c : State) (e : OpenError) → IsFailure e → Survives a c (MayLeaveTables a) → (HasCleanDisk c → IsBlank a → IsTrue c.is_open → SameNow a c ⊎ AreNewTables c.now.trees) → Loads a c (Err e)
  failed_loads c e is survived there = record {
    survives = survived;
    left = λ refusal. absurd (fails_no_refusal e is refusal);
    refused = λ clean up refusal. absurd (fails_no_refusal e is refusal);
    opens = λ clean rests. absurd (no_rest a room Schema2 rests);
    migrates = λ clean rests. absurd (no_rest a room Schema1 rests);
    makes = there;
    fails = λ blank. is;
    ours = λ clean. tt;
    stays = λ clean h. tt;
    known = tt;
  }

  pub not_made : (e : OpenError) → MakesTables {X = Unit {0}} a b (Err e) → Loads a b (Err e)
  not_made e made = failed_loads b e made.fails (survives_weaker a b _ (MayLeaveTables a) (λ _ db h. leaves db h) made.survives) (λ clean blank up. inl (made.same clean blank up))

  module _ (c : State) (x : Unit {0}) (made : MakesTables a b (Ok x)) where
    module _ (r : Result Tables OpenError) (test : Tested Schema2 b c r) where
      between : HasCleanDisk c → HasCleanDisk b
      between clean = omega (arith, test.survives.clean)

      left_at_last : Survives a c (MayLeaveTables a)
      left_at_last = survives_then a b c (λ db. IsBlank a → AreNewTables db) (λ _. ⊥) (MayLeaveTables a) (λ _ db h. leaves db h) (λ _ db h. absurd h) made.survives test.survives

      is_made : HasCleanDisk c → IsBlank a → IsTrue c.is_open → AreNewTables c.now.trees
      is_made clean blank up =
          let it = made.made (between clean) blank in
          subst (λ (d : Database). AreNewTables d.trees) (sym (test.same clean it.1 up).now) it.2

    pub made_failed : (e other : OpenError) → IsFailure e → Tested Schema2 b c (Err other) → Loads a c (Err e)
    made_failed e other is test = failed_loads c e is (left_at_last (Err other) test) (λ clean blank up. inr (is_made (Err other) test clean blank up))

    -- where no table was they are alone, if the check says so; and else they stand beside others
    pub made_sound : (own : Tables) (had_none : Bool) → (IsTrue had_none ↔ (a.now.schema ≡ no_tables)) → Tested Schema2 b c (Ok own) → Loads a c (Ok (cond had_none own WithOthers))
    made_sound own false none test = record {
      survives = left_at_last (Ok own) test;
      left = tt;
      refused = λ clean up. tt;
      opens = λ clean rests. absurd (no_rest a room Schema2 rests);
      migrates = λ clean rests. absurd (no_rest a room Schema1 rests);
      makes = λ clean blank. absurd (true≢false (sym (none.1 blank.schema)));
      fails = λ blank. tt;
      ours = λ clean is. absurd (true≢false (sym is));
      stays = λ clean h. nothing_known a (no_rest a room Schema2) (no_rest a room Schema1) (λ blank. absurd (true≢false (sym (none.1 blank.schema)))) h;
      known = λ is. absurd (true≢false (sym is));
    }
    made_sound own true none test = record {
      survives = left_at_last (Ok own) test;
      left = tt;
      refused = λ clean up. tt;
      opens = λ clean rests. absurd (no_rest a room Schema2 rests);
      migrates = λ clean rests. absurd (no_rest a room Schema1 rests);
      makes = λ clean blank.
          let rests = (made.made (between (Ok own) test clean) blank).1 in
          (test.known rests, is_made (Ok own) test clean blank (test.stays clean rests));
      fails = λ blank. tt;
      ours = λ clean is. sound_ours c (test.sound clean is);
      stays = λ clean h. nothing_known a (no_rest a room Schema2) (no_rest a room Schema1) (λ blank. test.stays clean (made.made (between (Ok own) test clean) blank).1) h;
      known = λ is. inr (inr (none.0 refl));
    }

-- tables of schema 2
module _ (a c : State) (full : has_room a.now.schema ≡ false) (second : schema_version_in a.now.schema ≡ Schema2) where
  pub tested_loads : (r : Result Tables OpenError) → Tested Schema2 a c r → Loads a c r
  tested_loads r test = record {
    survives = survives_weaker a c (λ _. ⊥) (MayLeaveTables a) (λ _ db h. absurd h) test.survives;
    left = left r;
    refused = test.refused;
    opens = λ clean rests. (test.opened clean rests, test.known rests, test.same clean rests);
    migrates = λ clean rests. absurd (not_first a second rests);
    makes = λ clean blank. absurd (not_blank a full blank);
    fails = λ blank. absurd (not_blank a full blank);
    ours = λ clean. ours r (test.sound clean);
    stays = λ clean. stays (test.stays clean);
    known = known r test.own;
  }
    where
      known : (r2 : Result Tables OpenError) → IfOk r2 (λ own. IsTrue (are_only_ours own) → a.now.schema ≡ schema_of Schema2) → IfOk r2 (λ own. IsTrue (are_only_ours own) → IsKnownSchema a.now.schema)
      known (Ok own) schema = λ is. inl (schema is)
      known (Err e) schema = tt

      left : (r2 : Result Tables OpenError) → IfErr r2 (λ e. IsRefusal e → Survives a c (λ _. ⊥))
      left (Ok own) = tt
      left (Err e) = λ refusal. test.survives

      ours : (r2 : Result Tables OpenError) → IfOk r2 (λ own. IsTrue (are_only_ours own) → IsSoundIn Schema2 c) → IfOk r2 (λ own. IsTrue (are_only_ours own) → IsKeepersStore c)
      ours (Ok own) sound = λ is. sound_ours c (sound is)
      ours (Err e) sound = tt

      stays : (Rests a → OnOk r (IsTrue c.is_open)) → IsKnown a → OnOk r (IsTrue c.is_open)
      stays up (inl rests) = up rests
      stays up (inr (inl rests)) = absurd (not_first a second rests)
      stays up (inr (inr blank)) = absurd (not_blank a full blank)

-- tables of schema 1, which were checked, and then brought into schema 2
module _ (a b : State) (full : has_room a.now.schema ≡ false) (first : schema_version_in a.now.schema ≡ Schema1) where
  its_room : IsTrue (is_free a.now.schema (codes "sources"))
  its_room = go (is_free a.now.schema (codes "sources")) refl
    where
      go : (free : Bool) → is_free a.now.schema (codes "sources") ≡ free → is_free a.now.schema (codes "sources") ≡ true
      go true is = is
      go false is = absurd (let e : Schema2 ≡ Schema1 = sym (ap (λ b. cond b Schema1 Schema2) is) ∙ first in cc)

  first_known : {P : Type 0} → (RestsIn schema_1 a → P) → IsKnown a → P
  first_known at (inl rests) = absurd (not_second a first rests)
  first_known at (inr (inl rests)) = at rests
  first_known at (inr (inr blank)) = absurd (not_blank a full blank)

  pub first_refused : (e : OpenError) → Tested Schema1 a b (Err e) → Loads a b (Err e)
  first_refused e test = record {
    survives = survives_weaker a b (λ _. ⊥) (MayLeaveTables a) (λ _ db h. absurd h) test.survives;
    left = λ refusal. test.survives;
    refused = test.refused;
    opens = λ clean rests. absurd (not_second a first rests);
    migrates = λ clean rests. (test.opened clean rests, test.same clean rests);
    makes = λ clean blank. absurd (not_blank a full blank);
    fails = λ blank. absurd (not_blank a full blank);
    ours = λ clean. tt;
    stays = λ clean h. tt;
    known = tt;
  }

  module _ (c : State) (own : Tables) (test : Tested Schema1 a b (Ok own)) where
    first_same : HasCleanDisk b → RestsIn schema_1 a → SameNow a b
    first_same clean rests = test.same clean rests (test.stays clean rests)

    -- what is known of the tables that the migration begins with
    sound : HasCleanDisk b → RestsIn schema_1 a → IsSoundIn Schema1 b
    sound clean rests = test.sound clean (test.known rests)

    module _ (r : Result (Unit {0}) OpenError) (moved : MigratesTables b c r) where
      first_between : HasCleanDisk c → HasCleanDisk b
      first_between clean = omega (arith, moved.survives.clean)

      first_left_at_last : Survives a c (MayLeaveTables a)
      first_left_at_last =
          survives_then a b c (λ _. ⊥) (λ db. IsSoundIn Schema1 b → IsMigrated b.committed.trees db) (MayLeaveTables a) (λ _ db h. absurd h)
          (λ clean db h. (
            its_room,
            λ blank. absurd (not_blank a full blank),
            λ rests. subst (λ (d : Database). IsMigrated d.trees db) (first_same (first_between clean) rests).committed (h (sound (first_between clean) rests)),
          )) test.survives moved.survives

    pub migrated_loads : (x : Unit {0}) → MigratesTables b c (Ok x) → Loads a c (Ok own)
    migrated_loads x moved = record {
      survives = first_left_at_last (Ok x) moved;
      left = tt;
      refused = λ clean up. tt;
      opens = λ clean rests. absurd (not_second a first rests);
      migrates = λ clean rests.
          let before = first_between (Ok x) moved clean in
          let it = moved.migrated clean (sound before rests) in
          (test.opened before rests, test.known rests, subst (λ (d : Database). IsMigrated d.trees c.now.trees) (first_same before rests).committed it.2);
      makes = λ clean blank. absurd (not_blank a full blank);
      fails = λ blank. tt;
      ours = λ clean is.
          let it = moved.migrated clean (test.sound (first_between (Ok x) moved clean) is) in
          opened_ours c it.1 (subst (λ schema. IsSoundUnder schema c.now.trees) (sym it.1.schema) it.2.sound.database) it.2.sound.opens;
      stays = λ clean h. first_known (λ rests. (moved.migrated clean (sound (first_between (Ok x) moved clean) rests)).0) h;
      known = λ is. inr (inl (test.own is));
    }

    pub unmigrated_loads : (e : OpenError) → MigratesTables {X = Unit {0}} b c (Err e) → Loads a c (Err e)
    unmigrated_loads e moved = record {
      survives = first_left_at_last (Err e) moved;
      left = λ refusal. absurd (fails_no_refusal e moved.fails refusal);
      refused = λ clean up refusal. absurd (fails_no_refusal e moved.fails refusal);
      opens = λ clean rests. absurd (not_second a first rests);
      migrates = λ clean rests.
          let before = first_same (first_between (Err e) moved clean) rests in
          (failure_given e (opened Schema1 a.now.trees) moved.fails, λ up. same_then a b c before (moved.same clean (rests_after a b rests before) up));
      makes = λ clean blank. absurd (not_blank a full blank);
      fails = λ blank. absurd (not_blank a full blank);
      ours = λ clean. tt;
      stays = λ clean h. tt;
      known = tt;
    }

pub busy_loads : (a : State) → Loads a a (Err Store)
busy_loads a = record {
  survives = survives_weaker a a (λ _. ⊥) (MayLeaveTables a) (λ _ db h. absurd h) (survives_still a);
  left = λ refusal. absurd (fails_no_refusal Store (inl refl) refusal);
  refused = λ clean up refusal. absurd (fails_no_refusal Store (inl refl) refusal);
  opens = λ clean rests. (tt, tt, λ up. record { now = refl; committed = refl; idle = rests.idle });
  migrates = λ clean rests. (tt, λ up. record { now = refl; committed = refl; idle = rests.idle });
  makes = λ clean blank up. inl (record { now = refl; committed = refl; idle = blank.idle });
  fails = λ blank. inl refl;
  ours = λ clean. tt;
  stays = λ clean h. tt;
  known = tt;
}

-- ---- a keeper over what was loaded, or the connection back

module _ {S : Type 0} (g : Ghosts S) (shut : (s : S) → (g.view s).is_clean ≡ false → (g.view s).is_open ≡ false)
    (settled : (s : S) (db : Trees) → IsTrue (g.view s).is_open → g.recovers s db → db ≡ (g.view s).committed) (old : State) (last : Held S) where
  clean_up : IsTrue (state g last).is_open → HasCleanDisk (state g last)
  clean_up up = clean_if_open (g.view last.store) (shut last.store) up

  abbrev pub keeper : Tables → Keeper S
  keeper tables = record { conn = last; had_only_our_tables = are_only_ours tables; is_open = true; faults = 0 }

  pub is_keeper : (tables : Tables) → Loads old (state g last) (Ok tables) → IsKeeper g (keeper tables)
  is_keeper tables loads = λ own up. loads.ours (clean_up up) own

  pub opens_keeper : (tables : Tables) → Loads old (state g last) (Ok tables) → Rests old → Opens g old (Ok (keeper tables))
  opens_keeper tables loads rests clean =
      let it = loads.opens clean rests in
      let same = it.2 (loads.stays clean (inl rests)) in
      (it.0, same, record { had_only_our_tables = it.1; is_open = refl; faults = refl }, ap (λ (d : Database). kept_in d.trees) (same.now ∙ rests.settled))

  pub migrates_keeper : (tables : Tables) → Loads old (state g last) (Ok tables) → RestsIn schema_1 old → Migrates g old (Ok (keeper tables))
  migrates_keeper tables loads rests clean =
      let it = loads.migrates clean rests in
      (it.0, record { had_only_our_tables = it.1; is_open = refl; faults = refl }, it.2)

  pub makes_keeper : (tables : Tables) → Loads old (state g last) (Ok tables) → IsBlank old → Makes g old (Ok (keeper tables))
  makes_keeper tables loads blank clean =
      let it = loads.makes clean blank in
      (it.1, record { had_only_our_tables = it.0; is_open = refl; faults = refl }, made_nothing (state g last).now.trees it.1)

  pub sound_keeper : (tables : Tables) → Loads old (state g last) (Ok tables) → IsTrue (are_only_ours tables) → IsTrue (state g last).is_open → IsSound g (keeper tables)
  sound_keeper tables loads own up = (own, sound_store (state g last) up (loads.ours (clean_up up) own) (λ db may. settled last.store db up may), refl)

  pub settles_keeper : (tables : Tables) → Loads old (state g last) (Ok tables) → Settles g (keeper tables)
  settles_keeper tables loads own up = (sound_keeper tables loads own up).1.settled

  pub opens_refused : (e : OpenError) → Loads old (state g last) (Err e) → Rests old → Opens g old (Err (e, last))
  opens_refused e loads rests clean = let it = loads.opens clean rests in (it.0, it.2)

  pub migrates_refused : (e : OpenError) → Loads old (state g last) (Err e) → RestsIn schema_1 old → Migrates g old (Err (e, last))
  migrates_refused e loads rests clean = let it = loads.migrates clean rests in (it.0, it.1)

  pub makes_refused : (e : OpenError) → Loads old (state g last) (Err e) → IsBlank old → Makes g old (Err (e, last))
  makes_refused e loads blank = (loads.fails blank, λ up. loads.makes (clean_up up) blank up)

  pub leaves_alone : (e : OpenError) → Loads old (state g last) (Err e) → IsRefusal e → LeavesAlone old (state g last)
  leaves_alone e loads refusal = record { survives = loads.left refusal; same = λ up. loads.refused (clean_up up) up refusal }
