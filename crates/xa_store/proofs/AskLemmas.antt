-- What any query leaves of a connection.
use Rattle.std.proofs.Common.{◌≡◌, inl, inr, ℕ, false, List, None, Some, Option, Ok, Err, Result, IsTrue, OnOk, IfOk, IfErr, cond, sym, ap, subst, ◌∙◌, true≢false}
use Rattle.xa_store.proofs.Common.{Database, Row, Error, IsPlain, understood, Schema, State, ShowsRows, FailsToShow, IsUnchanged, IsRolledBack, Trees, SchemaVersion, schema_of, RestsIn, SameNow}
use Rattle.sqlite.specs.State.{Shown, FailsToQuery, IsNotRun, CommitsShowing}
use Rattle.sqlite_resolve.specs.declared.compiled.Compiled.{Compiled}
use Rattle.sqlite_schema.specs.declared.command.Returning.{Returning}
use Rattle.xa_store.specs.keeping.Check.{GoesOn, HoldsBack}

shows_open : (old new : State) (sql : List ℕ) (c : Compiled) (params : Row) (rows : List Row) (o : Option Returning) → ShowsRows old new sql c params rows o → IsTrue old.is_open × IsTrue new.is_open
shows_open old new sql c params rows None h = (h.3.0.was_open, h.3.0.is_open)
shows_open old new sql c params rows (Some what) h = (h.1.shown.was_open, h.1.shown.is_open)

pub shown_open : (sql : List ℕ) (params : Row) (old new : State) (rows : List Row) → Shown sql params old new rows → IsTrue old.is_open × IsTrue new.is_open
unfolding Shown
shown_open sql params old new rows h = shows_open old new sql h.0 _ rows h.0.returning h.2

fails_open : (old new : State) (sql : List ℕ) (c : Compiled) (params : Row) (e : Error) (o : Option Returning) → FailsToShow old new sql c params e o → IsTrue new.is_open → IsTrue old.is_open
fails_open old new sql c params e None h up = h.3.0.was_open
fails_open old new sql c params e (Some what) (inl h) up = h.1.0.was_open
fails_open old new sql c params e (Some what) (inr h) up = h.3.was_open up

pub failed_open : (sql : List ℕ) (params : Row) (old new : State) (e : Error) → FailsToQuery sql params old new e → IsTrue new.is_open → IsTrue old.is_open
unfolding FailsToQuery IsNotRun
failed_open sql params old new e (inl (inl h)) up = h.1.0.was_open
failed_open sql params old new e (inl (inr h)) up = h.3.was_open up
failed_open sql params old new e (inr h) up = fails_open old new sql h.0 _ e h.0.returning h.2 up

-- ---- of tables of a schema

pub unchanged_same : {under : Schema} (old new : State) → RestsIn under old → IsUnchanged old new → SameNow old new
unchanged_same old new rests h = record { now = h.0.now_is; committed = h.0.committed_is; idle = h.0.mode ∙ rests.idle }

pub rolled_same : {under : Schema} (old new : State) → RestsIn under old → IsRolledBack old new → IsTrue new.is_open → SameNow old new
rolled_same old new rests h up = record { now = (h.undone up).0 ∙ sym rests.settled; committed = (h.undone up).1; idle = h.autocommit }

pub plain_at : {under : Schema} (sql : List ℕ) (old : State) (c : Compiled) → old.now.schema ≡ under → IsPlain (understood under sql) → understood old.now.schema sql ≡ Ok c → c.returning ≡ None
plain_at sql old c ours plain is = (subst IsPlain (ap (λ s. understood s sql) (sym ours) ∙ is) plain).0

pub shown_same : {under : Schema} (sql : List ℕ) (params : Row) (old new : State) (rows : List Row) → RestsIn under old → IsPlain (understood under sql) → Shown sql params old new rows → SameNow old new
unfolding Shown
shown_same sql params old new rows rests plain h = unchanged_same old new rests (subst (ShowsRows old new sql h.0 _ rows) (plain_at sql old h.0 rests.schema plain h.1.is) h.2).3

pub failed_same : {under : Schema} (sql : List ℕ) (params : Row) (old new : State) (e : Error) → RestsIn under old → IsPlain (understood under sql) → FailsToQuery sql params old new e → IsTrue new.is_open → SameNow old new
unfolding FailsToQuery IsNotRun
failed_same sql params old new e rests plain (inl (inl h)) up = unchanged_same old new rests h.1
failed_same sql params old new e rests plain (inl (inr h)) up = rolled_same old new rests h.3 up
failed_same sql params old new e rests plain (inr h) up = unchanged_same old new rests (subst (FailsToShow old new sql h.0 _ e) (plain_at sql old h.0 rests.schema plain h.1.is) h.2).3

-- ---- of any tables

pub goes_unchanged : {version : SchemaVersion} (old new : State) → IsUnchanged old new → GoesOn version old new
goes_unchanged old new h = record { was_open = h.0.was_open; is_open = h.0.is_open; schema = λ ours. ap (λ (d : Database). d.schema) h.0.now_is ∙ ours; mode = h.0.mode }

goes_shown : {version : SchemaVersion} (old new : State) (sql : List ℕ) (c : Compiled) (params : Row) (rows : List Row) (o : Option Returning) → (old.now.schema ≡ schema_of version → o ≡ None)
    → ShowsRows old new sql c params rows o → GoesOn version old new
goes_shown old new sql c params rows None plain h = goes_unchanged old new h.3
goes_shown old new sql c params rows (Some what) plain h =
    record { was_open = h.1.shown.was_open; is_open = h.1.shown.is_open; schema = λ ours. absurd (let e = plain ours in cc); mode = h.1.shown.mode }

-- a query that is answered goes on
pub shown_goes : {version : SchemaVersion} (sql : List ℕ) (params : Row) (old new : State) (rows : List Row) → IsPlain (understood (schema_of version) sql) → Shown sql params old new rows → GoesOn version old new
unfolding Shown
shown_goes sql params old new rows plain h = goes_shown old new sql h.0 _ rows h.0.returning (λ ours. plain_at sql old h.0 ours plain h.1.is) h.2

-- ---- in a transaction

pub held_while : (old new : State) → IsTrue old.in_transaction → new.committed ≡ old.committed → new.in_transaction ≡ old.in_transaction → HoldsBack old new
held_while old new inside committed mode = record { committed = committed; undone = λ ended. absurd (true≢false (sym inside ∙ sym mode ∙ ended)) }

pub held_unchanged : (old new : State) → IsTrue old.in_transaction → IsUnchanged old new → HoldsBack old new
held_unchanged old new inside h = held_while old new inside h.0.committed_is h.0.mode

pub held_rolled : (old new : State) → IsRolledBack old new → IsTrue new.is_open → HoldsBack old new
held_rolled old new h up = record { committed = (h.undone up).1; undone = λ _. (h.undone up).0 }

held_shown : (old new : State) (sql : List ℕ) (c : Compiled) (params : Row) (rows : List Row) (o : Option Returning) → IsTrue old.in_transaction → ShowsRows old new sql c params rows o → HoldsBack old new
held_shown old new sql c params rows None inside h = held_unchanged old new inside h.3
held_shown old new sql c params rows (Some what) inside h =
    held_while old new inside (h.1.shown.committed_is ∙ ap (λ b. cond b old.committed new.now) inside) h.1.shown.mode

pub shown_held : (sql : List ℕ) (params : Row) (old new : State) (rows : List Row) → IsTrue old.in_transaction → Shown sql params old new rows → HoldsBack old new
unfolding Shown
shown_held sql params old new rows inside h = held_shown old new sql h.0 _ rows h.0.returning inside h.2

fails_held : (old new : State) (sql : List ℕ) (c : Compiled) (params : Row) (e : Error) (o : Option Returning) → IsTrue old.in_transaction → FailsToShow old new sql c params e o → IsTrue new.is_open → HoldsBack old new
fails_held old new sql c params e None inside h up = held_unchanged old new inside h.3
fails_held old new sql c params e (Some what) inside (inl h) up = held_unchanged old new inside h.1
fails_held old new sql c params e (Some what) inside (inr h) up = held_rolled old new h.3 up

pub failed_held : (sql : List ℕ) (params : Row) (old new : State) (e : Error) → IsTrue old.in_transaction → FailsToQuery sql params old new e → IsTrue new.is_open → HoldsBack old new
unfolding FailsToQuery IsNotRun
failed_held sql params old new e inside (inl (inl h)) up = held_unchanged old new inside h.1
failed_held sql params old new e inside (inl (inr h)) up = held_rolled old new h.3 up
failed_held sql params old new e inside (inr h) up = fails_held old new sql h.0 _ e h.0.returning inside h.2 up

-- only outside a transaction may a query commit
pub commits_idle : (sql : List ℕ) (params : Row) (s : State) (db : Trees) → CommitsShowing sql params s db → s.in_transaction ≡ false
unfolding CommitsShowing
commits_idle sql params s db h = h.3.0

-- ---- one after another

module _ (a b c : State) where
  pub goes_then : {version : SchemaVersion} → GoesOn version a b → GoesOn version b c → GoesOn version a c
  goes_then first second = record { was_open = first.was_open; is_open = second.is_open; schema = λ ours. second.schema (first.schema ours); mode = second.mode ∙ first.mode }

  pub holds_then : HoldsBack a b → HoldsBack b c → HoldsBack a c
  holds_then first second = record { committed = second.committed ∙ first.committed; undone = λ ended. second.undone ended ∙ first.committed }

-- ---- of either result

module _ {X : Type 0} (items : X → List Row) (sql : List ℕ) (params : Row) (old new : State) where
  pub asked_open : (r : Result X Error) → IfOk r (λ x. Shown sql params old new (items x)) → IfErr r (FailsToQuery sql params old new) → IsTrue new.is_open → IsTrue old.is_open
  asked_open (Ok x) ok err up = (shown_open sql params old new (items x) ok).0
  asked_open (Err e) ok err up = failed_open sql params old new e err up

  pub asked_same : {under : Schema} (r : Result X Error) → RestsIn under old → IsPlain (understood under sql) → IfOk r (λ x. Shown sql params old new (items x)) → IfErr r (FailsToQuery sql params old new) → IsTrue new.is_open → SameNow old new
  asked_same (Ok x) rests plain ok err up = shown_same sql params old new (items x) rests plain ok
  asked_same (Err e) rests plain ok err up = failed_same sql params old new e rests plain err up

  pub asked_stays : (r : Result X Error) → IfOk r (λ x. Shown sql params old new (items x)) → OnOk r (IsTrue new.is_open)
  asked_stays (Ok x) ok = (shown_open sql params old new (items x) ok).1
  asked_stays (Err e) ok = tt
