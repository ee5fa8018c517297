-- What a statement on one table writes, as the records of its rows.
use Rattle.std.proofs.Common.{◌≡◌, ◌⊎◌, inl, inr, ℕ, ℤ, ◌/◌, List, [], length, slice_get, MatchBool, is_lt, int_cmp, false, cond, Some, None, Ok, Err, Result, Option, sym, ap, subst, ◌∙◌}
use Rattle.xa_store.proofs.Common.{Command, Insert, edit_of, Database, Answers, IsSource, value_rows, understood, Row, Query, Chosen, Above, Given, Written, Edited, Task, Inserts, Counts, CountsIn, Gives, sequence, stamped, count_of, Values, Term, State, mode_of, Executes, Table, Trees, statement_of, runs_as, Enforced, IsSound, ids_of, IsOurDatabase, schema_2}
use Rattle.sqlite.specs.Does.{Tally, Does, OnRows, WritesRows}
use Rattle.sqlite.specs.declared.run.Mode.{Mode}
use Rattle.sqlite.specs.Source.{Source}
use Rattle.xa_store.proofs.TextLemmas.{IsChange, update, delete}

-- ---- from a statement that ran to its edit

-- a part that gave a value did not stop on the way
pub went : {B E R : Type 0} {b : B} {Stops : E → Type 0} → ((stop : E) × Stops stop × (Ok b ≡ Err stop)) ⊎ R → R
went (inl stopped) = absurd (let e = stopped.2 in cc)
went (inr on) = on

pub same_value : {B E : Type 0} {a b : B} → ◌≡◌ {A = Result B E} (Ok a) (Ok b) → a ≡ b
same_value e = cc

-- ---- of an insertion

module _ (task : Task) where
  pub wrote_rows : (mode : Mode) (command : Command) (db : Trees) (tally : Tally) (after : Database) → OnRows task mode None command db (Ok (tally, after))
      → (w : Written) × WritesRows task db command (Ok w) × (after ≡ record { schema = task.schema; trees = w.trees })
  wrote_rows mode command db tally after h = let done = went h in (done.0, done.1, ap (λ (p : Tally × Database). p.1) (same_value (went (went done.2).2).2))

  uncounted_stays : (mid next : Trees) (counter : Option Row) (top : ℤ) → task.table.is_counted ≡ false → Counts task mid counter top (Ok next) → next ≡ mid
  uncounted_stays mid next counter top uncounted h =
      same_value (subst (λ b. MatchBool (cond b (is_lt (int_cmp (count_of counter) top)) false) (CountsIn task mid counter top (sequence task.schema) (Ok next)) (Gives {A = Trees} mid (Ok next))) uncounted h)

  -- the rows that were given, and the edit
  pub inserted : (from : Source) (db : Trees) (w : Written) → task.table.is_counted ≡ false → stamped task.table task.params ≡ task.params → Inserts task from db (Ok w)
      → (rows : List Row) × IsSource (record { schema = task.schema; trees = db }) task.params from rows × Edited task.schema task.keys db (edit_of db task.table [] Chosen 0 rows) (Ok w.trees)
  inserted from db w uncounted bare h =
      let given = went h in
      let counter = went given.2 in
      let wrote = went counter.2 in
      let counts = went wrote.2 in
      let edit = subst (λ b. Edited task.schema task.keys db (edit_of db task.table [] (cond b (Above (count_of counter.0)) Chosen) 0 given.0) (Ok wrote.0)) uncounted wrote.1 in
      let kept : counts.0 ≡ wrote.0 = uncounted_stays wrote.0 counts.0 counter.0 _ uncounted counts.1 in
      let trees : w.trees ≡ counts.0 = ap (λ (it : Written). it.trees) (same_value counts.2) in (
        given.0,
        subst (λ p. IsSource (record { schema = task.schema; trees = db }) p from given.0) bare given.1,
        subst (λ t. Edited task.schema task.keys db (edit_of db task.table [] Chosen 0 given.0) (Ok t)) (sym (trees ∙ kept)) edit,
      )

module _ (sql : List ℕ) (params : Row) (old new : State) (has : old.now.schema ≡ schema_2) (at : ℕ) (table : Table) (listed : slice_get schema_2.tables at ≡ Some table) (count : ℕ) where
  abbrev db : Trees
  db = old.now.trees

  abbrev whole : Database
  whole = record { schema = schema_2; trees = old.now.trees }

  -- the rows that the query of an update or a deletion gave, and the edit
  pub record Edits (query : Query) (edit : List Row → Rattle.sqlite.specs.Edit.Edit) : Type 0 where
    pub rows : List Row
    pub answer : Answers whole (record { lets = []; body = query }) params rows
    pub edited : Edited schema_2 Enforced db (edit rows) (Ok new.now.trees)
    pub schema : new.now.schema ≡ schema_2
    pub database : IsOurDatabase new.now.trees

  pub updates : (query : Query) → IsChange sql (update at query) → Executes sql params old new (Ok count) → Edits query (λ rows. edit_of db table (ids_of rows) Given 1 rows)
  updates query is h =
      let w = runs_as sql params old new schema_2 has (update at query) is.0 is.1 count h in
      let text = statement_of sql (understood schema_2 sql) in
      let all = rw listed at (subst (λ s. Does old.step_limit (mode_of old) params (record old.now { schema = s }) text None (update at query) (Ok (w.tally, new.now))) has w.changed) in
      let done = went all in
      let now : new.now ≡ record { schema = schema_2; trees = done.0.trees } = ap (λ (p : Tally × Database). p.1) (same_value (went (went done.2).2).2) in
      let given = went done.1 in
      let ed = went given.2 in
      let trees : done.0.trees ≡ ed.0 = ap (λ (it : Written). it.trees) (same_value ed.2) in
      let full = ap (λ (d : Database). d.trees) now ∙ trees in
      record {
        rows = given.0;
        answer = given.1;
        edited = subst (λ t. Edited schema_2 Enforced db (edit_of db table (ids_of given.0) Given 1 given.0) (Ok t)) (sym full) ed.1;
        schema = ap (λ (d : Database). d.schema) now;
        database = subst (λ schema. IsSound schema new.now.trees) (ap (λ (d : Database). d.schema) now) w.sound;
      }

  pub deletes : (query : Query) → IsChange sql (delete at query) → Executes sql params old new (Ok count) → Edits query (λ rows. edit_of db table (ids_of rows) Given 0 [])
  deletes query is h =
      let w = runs_as sql params old new schema_2 has (delete at query) is.0 is.1 count h in
      let text = statement_of sql (understood schema_2 sql) in
      let all = rw listed at (subst (λ s. Does old.step_limit (mode_of old) params (record old.now { schema = s }) text None (delete at query) (Ok (w.tally, new.now))) has w.changed) in
      let done = went all in
      let now : new.now ≡ record { schema = schema_2; trees = done.0.trees } = ap (λ (p : Tally × Database). p.1) (same_value (went (went done.2).2).2) in
      let given = went done.1 in
      let ed = went given.2 in
      let trees : done.0.trees ≡ ed.0 = ap (λ (it : Written). it.trees) (same_value ed.2) in
      let full = ap (λ (d : Database). d.trees) now ∙ trees in
      record {
        rows = given.0;
        answer = given.1;
        edited = subst (λ t. Edited schema_2 Enforced db (edit_of db table (ids_of given.0) Given 0 []) (Ok t)) (sym full) ed.1;
        schema = ap (λ (d : Database). d.schema) now;
        database = subst (λ schema. IsSound schema new.now.trees) (ap (λ (d : Database). d.schema) now) w.sound;
      }

  -- the edit of an insertion of these rows
  pub record Adds (rows : List Row) : Type 0 where
    pub edited : Edited schema_2 Enforced db (edit_of db table [] Chosen 0 rows) (Ok new.now.trees)
    pub schema : new.now.schema ≡ schema_2
    pub database : IsOurDatabase new.now.trees

  abbrev its_task : Task
  its_task = record { limit = old.step_limit; keys = Enforced; schema = schema_2; table = table; params = params }

  -- of what a query gives, or values
  pub inserts_from : (from : Source) → table.is_counted ≡ false → stamped table params ≡ params → IsChange sql (Insert at from) → Executes sql params old new (Ok count)
      → (rows : List Row) × IsSource whole params from rows × Adds rows
  inserts_from from uncounted bare is h =
      let w = runs_as sql params old new schema_2 has (Insert at from) is.0 is.1 count h in
      let text = statement_of sql (understood schema_2 sql) in
      let all = rw listed at (subst (λ s. Does old.step_limit (mode_of old) params (record old.now { schema = s }) text None (Insert at from) (Ok (w.tally, new.now))) has w.changed) in
      let done = wrote_rows its_task (mode_of old) (Insert at from) db w.tally new.now all in
      let it = inserted its_task from db done.0 uncounted bare done.1 in (
        it.0,
        it.1,
        record {
          edited = subst (λ t. Edited schema_2 Enforced db (edit_of db table [] Chosen 0 it.0) (Ok t)) (sym (ap (λ (d : Database). d.trees) done.2)) it.2;
          schema = ap (λ (d : Database). d.schema) done.2;
          database = subst (λ schema. IsSound schema new.now.trees) (ap (λ (d : Database). d.schema) done.2) w.sound;
        },
      )

  pub inserts : (given : List Term) (width : ℕ) → table.is_counted ≡ false → stamped table params ≡ params → IsChange sql (Insert at (Values given width)) → Executes sql params old new (Ok count)
      → Adds (value_rows params width (length given / width) given)
  inserts given width uncounted bare is h = let it = inserts_from (Values given width) uncounted bare is h in subst Adds it.1.1 it.2
