-- What a query of the tables leaves when a store is opened, and which errors none has.
use Rattle.std.proofs.Common.{◌≡◌, inl, inr, ℕ, List, Bool, true, false, Option, Ok, Err, Result, OnOk, refl, sym, ap, subst, ◌∙◌, true≢false, arith}
use Rattle.xa_store.proofs.Common.{Database, RefusesToRead, Command, Select, IsPlain, understood, Row, Schema, State, HasCleanDisk, Shown, FailsToShow, Survives, CommitsShowing, store_error, Error, never_commits, survives_weaker, survives_then, OpenError, NotThisSchema, Damaged, SchemaVersion, schema_of, RestsIn, SameNow}
use Rattle.sqlite.specs.Command.TheVariants.{Rows}
use Rattle.sqlite.specs.State.{FailsToQuery, IsNotRun}
use Rattle.sqlite.specs.declared.error.Error.TheVariants.{SqliteFailure, SqlInputError}
use Rattle.sqlite.specs.declared.error.ErrorCode.TheVariants.{NameTaken, OutOfMemory as NoMemory}
use Rattle.sqlite_trees.specs.declared.error.StoreError.{StoreError}
use Rattle.sqlite_trees.specs.declared.error.StoreError.TheVariants.{OutOfMemory, Io, Corrupt, Full, Broken, Unstorable}
use Rattle.xa_store.specs.keeping.Check.{Asks, GoesOn, IsUnguarded, error_of_check}
use Rattle.xa_store.specs.Opening.{IsFailure}
use Rattle.xa_store.proofs.AskLemmas.{commits_idle, failed_held, failed_open, failed_same, goes_then, holds_then, plain_at, shown_goes, shown_held, shown_open, shown_same}
use Rattle.xa_store.proofs.QuietLemmas.{rests_after}

-- ---- errors

-- an error that no query of a keeper's tables has
abbrev pub is_misfit : Error → Bool
is_misfit (SqlInputError fault) = true
is_misfit (SqliteFailure NameTaken) = true
is_misfit _ = false

fit : (e other : Error) → e ≡ other → is_misfit other ≡ false → is_misfit e ≡ false
fit e other is fits = ap is_misfit is ∙ fits

store_fits : (cause : StoreError) → is_misfit (store_error cause) ≡ false
store_fits OutOfMemory = refl
store_fits Io = refl
store_fits Corrupt = refl
store_fits Full = refl
store_fits Broken = refl
store_fits Unstorable = refl

refuses_fits : (limit : Option ℕ) (command : Command) (db : Database) (params : Row) (e : Error) → RefusesToRead limit command db params e → is_misfit e ≡ false
refuses_fits limit (Select q names) db params e (inl h) = fit e _ h.0 refl
refuses_fits limit (Select q names) db params e (inr (inl h)) = fit e _ h.0 refl
refuses_fits limit (Select q names) db params e (inr (inr h)) = fit e _ h.0 refl
refuses_fits limit (Rows values width names) db params e h = fit e _ h.0 refl
refuses_fits limit _ db params e h = fit e _ h refl

-- a plain query of tables of a schema is understood
pub failed_fits : {under : Schema} (sql : List ℕ) (params : Row) (old new : State) (e : Error) → RestsIn under old → IsPlain (understood under sql) → FailsToQuery sql params old new e → is_misfit e ≡ false
unfolding FailsToQuery IsNotRun
failed_fits sql params old new e rests plain (inl (inl (inl h, same))) = absurd (subst IsPlain (ap (λ s. understood s sql) (sym rests.schema) ∙ h.1) plain)
failed_fits sql params old new e rests plain (inl (inl (inr (c, is, inl h), same))) = fit e _ h.1 refl
failed_fits sql params old new e rests plain (inl (inl (inr (c, is, inr (inl h)), same))) = fit e _ h.1 refl
failed_fits sql params old new e rests plain (inl (inl (inr (c, is, inr (inr h)), same))) = fit e _ h.1 refl
failed_fits sql params old new e rests plain (inl (inr h)) = fit e _ h.1 (store_fits h.0)
failed_fits sql params old new e rests plain (inr h) =
    let shows = subst (FailsToShow old new sql h.0 _ e) (plain_at sql old h.0 rests.schema plain h.1.is) h.2 in refuses_fits old.step_limit h.0.command shows.0 _ e shows.2

pub a_failure : (e : Error) → is_misfit e ≡ false → IsFailure (error_of_check e)
a_failure (SqlInputError fault) fits = absurd (true≢false fits)
a_failure (SqliteFailure NameTaken) fits = absurd (true≢false fits)
a_failure (SqliteFailure NoMemory) fits = inr refl
a_failure _ fits = inl refl

abbrev is_damage : OpenError → Bool
is_damage Damaged = true
is_damage _ = false

no_damage : (e : Error) → is_damage (error_of_check e) ≡ false
no_damage (SqlInputError fault) = refl
no_damage (SqliteFailure NameTaken) = refl
no_damage (SqliteFailure NoMemory) = refl
no_damage _ = refl

pub never_damaged : (e : Error) → ¬ (Damaged ≡ error_of_check e)
never_damaged e is = true≢false (ap is_damage is ∙ no_damage e)

fails_otherwise : ¬ IsFailure NotThisSchema
fails_otherwise (inl e) = absurd cc
fails_otherwise (inr e) = absurd cc

pub never_refused : (e : Error) → is_misfit e ≡ false → ¬ (NotThisSchema ≡ error_of_check e)
never_refused e fits is = fails_otherwise (subst IsFailure (sym is) (a_failure e fits))

-- ---- one query

module _ (sql : List ℕ) (params : Row) (old new : State) (version : SchemaVersion) (plain : IsPlain (understood (schema_of version) sql)) (survived : Survives old new (CommitsShowing sql params old)) where
  pub survives_asked : Survives old new (λ db. IsUnguarded version old)
  survives_asked = survives_weaker old new _ _ (λ _ db commits. (λ ours. never_commits sql params old db (subst (λ s. IsPlain (understood s sql)) (sym ours) plain) commits, commits_idle sql params old db commits)) survived

  pub asked : {X : Type 0} (x : X) (rows : List Row) → (HasCleanDisk new → Shown sql params old new rows) → Asks version old new (Ok x)
  asked x rows shown = record {
    survives = survives_asked;
    was_open = λ clean up. (shown_open sql params old new rows (shown clean)).0;
    same = λ clean rests up. shown_same sql params old new rows rests plain (shown clean);
    held = λ clean inside up. shown_held sql params old new rows inside (shown clean);
    goes_on = λ clean. shown_goes sql params old new rows plain (shown clean);
  }

  pub not_asked : {X : Type 0} (e : Error) (o : OpenError) → (HasCleanDisk new → FailsToQuery sql params old new e) → Asks {X = X} version old new (Err o)
  not_asked e o failed = record {
    survives = survives_asked;
    was_open = λ clean up. failed_open sql params old new e (failed clean) up;
    same = λ clean rests up. failed_same sql params old new e rests plain (failed clean) up;
    held = λ clean inside up. failed_held sql params old new e inside (failed clean) up;
    goes_on = λ clean. tt;
  }

-- ---- one after another

pub same_then : (a b c : State) → SameNow a b → SameNow b c → SameNow a c
same_then a b c p q = record { now = q.now ∙ p.now; committed = q.committed ∙ p.committed; idle = q.idle }

-- what was asked first, of a connection that is still open
module _ {version : SchemaVersion} (a b c : State) {X : Type 0} (x : X) (first : Asks version a b (Ok x)) where
  pub same_before : HasCleanDisk b → RestsIn (schema_of version) a → SameNow a b
  same_before clean rests = first.same clean rests (first.goes_on clean).is_open

  pub rests_before : HasCleanDisk b → RestsIn (schema_of version) a → RestsIn (schema_of version) b
  rests_before clean rests = rests_after a b rests (same_before clean rests)

  unguarded_before : HasCleanDisk b → IsUnguarded version b → IsUnguarded version a
  unguarded_before clean h = let on = first.goes_on clean in (λ ours. h.0 (on.schema ours), sym on.mode ∙ h.1)

  goes_on_then : {Y : Type 0} (r : Result Y OpenError) → HasCleanDisk b → OnOk r (GoesOn version b c) → OnOk r (GoesOn version a c)
  goes_on_then (Ok y) clean h = goes_then a b c (first.goes_on clean) h
  goes_on_then (Err e) clean h = tt

  pub asks_then : {Y : Type 0} (r : Result Y OpenError) → Asks version b c r → Asks version a c r
  asks_then r second = record {
    survives = survives_then a b c _ _ (λ db. IsUnguarded version a) (λ _ db h. h) (λ clean db h. unguarded_before (omega (arith, second.survives.clean)) h) first.survives second.survives;
    was_open = λ clean up. (first.goes_on (omega (arith, second.survives.clean))).was_open;
    same = λ clean rests up.
        let middle : HasCleanDisk b = omega (arith, second.survives.clean) in
        let here = same_before middle rests in
        same_then a b c here (second.same clean (rests_after a b rests here) up);
    held = λ clean inside up.
        let middle : HasCleanDisk b = omega (arith, second.survives.clean) in
        let on = first.goes_on middle in
        holds_then a b c (first.held middle inside on.is_open) (second.held clean (on.mode ∙ inside) up);
    goes_on = λ clean. goes_on_then r (omega (arith, second.survives.clean)) (second.goes_on clean);
  }

pub as_failed : {version : SchemaVersion} {X Y : Type 0} (old new : State) (e : OpenError) → Asks {X = X} version old new (Err e) → Asks {X = Y} version old new (Err e)
as_failed old new e h = record { survives = h.survives; was_open = h.was_open; same = h.same; held = h.held; goes_on = λ clean. tt }

-- what is made of an answer asks for nothing more
pub as_told : {version : SchemaVersion} {X Y : Type 0} (old new : State) (x : X) (r : Result Y OpenError) → Asks {X = X} version old new (Ok x) → Asks {X = Y} version old new r
as_told old new x (Ok y) h = record { survives = h.survives; was_open = h.was_open; same = h.same; held = h.held; goes_on = h.goes_on }
as_told old new x (Err e) h = record { survives = h.survives; was_open = h.was_open; same = h.same; held = h.held; goes_on = λ clean. tt }
