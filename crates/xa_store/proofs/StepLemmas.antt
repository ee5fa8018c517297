-- What the statements on domains, on roots and on the next number make of the rows.
use Rattle.std.proofs.Common.{◌≡◌, ℕ, ℤ, pos, List, [], ◌∷◌, map, Bool, true, false, cond, Option, Some, None, Ok, refl, sym, ap, subst, ◌∙◌, arith, int_eq}
use Rattle.xa_store.proofs.Common.{AllByRecursion, Row, Chosen, State, Executes, col, lit, Value, Null, Int, Text, Eq, cast_row, with_rowid, insert_by, update_where, delete_where, AreApart, all_of, IsKeyedBy-insert_by, at_most_one, bytes_of, or_null, unless_null, at_ints, last_term, null_back, DocumentKind, Reference, DomainRow, RootRow, meta_row, next_in, domain_row, domain_in, root_row, root_in, root_of, kind_number, HaveWrittenRows, IsOurDatabase, schema_2, meta, domains, roots, rows_of}
use Rattle.sqlite.specs.Cast.{cast}
use Rattle.sqlite.specs.Kind.TheVariants.{Integer, Text as TextKind}
use Rattle.sqlite.specs.Ops.{unary}
use Rattle.xa_store.specs.declared.step.RaisedEpoch.{RaisedEpoch}
use Rattle.xa_store.specs.declared.step.Step.{Step}
use Rattle.xa_store.specs.declared.step.Step.TheVariants.{SetNext, SetEpoch, AddRoot, DropRoot}
use Rattle.xa_store.specs.keeping.Steps.{after}
use Rattle.xa_store.specs.keeping.Texts as text
use Rattle.xa_store.proofs.ColumnNumbers.{of_kind}
use Rattle.xa_store.proofs.HoldLemmas.{Back, Hold, came, changed, domains_now, meta_now, roots_now, went_out}
use Rattle.xa_store.proofs.SqlLemmas.{answered}
use Rattle.xa_store.proofs.TableLemmas.{updates, deletes, inserts}
use Rattle.xa_store.proofs.TextLemmas.{is, is_one, set_epoch_is, set_next_is, add_root_is, drop_root_is}
use Rattle.xa_store.proofs.WriteLemmas.{row_added, row_updated, rows_removed}

-- ---- columns

either : (b : Bool) (x : Value) → cond b x x ≡ x
either true x = refl
either false x = refl

pub cast_int : (n : ℤ) → cast Integer (Int n) ≡ Int n
unfolding unary
cast_int n = either _ (Int n)

pub cast_null : cast Integer Null ≡ Null
unfolding unary
cast_null = either _ Null

pub cast_text : (o : Option (List ℕ)) → cast TextKind (or_null Text o) ≡ or_null Text o
cast_text None = refl
cast_text (Some t) = refl

-- ---- rows read back

pub text_back : (o : Option (List ℕ)) → unless_null bytes_of (or_null Text o) ≡ o
text_back = null_back Text bytes_of (λ _. refl) (λ _. refl)

texts_back : (texts : List (Option (List ℕ))) → map (unless_null bytes_of) (map (or_null Text) texts) ≡ texts
texts_back [] = refl
texts_back (text ∷ texts) = λ i. text_back text i ∷ texts_back texts i

pub root_back : (r : RootRow) → root_in (root_row r) ≡ r
root_back r = λ i. record { number = r.number; kind = (of_kind r.kind).back i; id = r.id; texts = texts_back r.texts i }

abbrev full_root : ℤ → DocumentKind → List ℕ → Option (List ℕ) → Option (List ℕ) → Option (List ℕ) → Row
full_root number kind id pattern earliest latest = Int number ∷ Null ∷ Int (kind_number kind) ∷ Text id ∷ or_null Text pattern ∷ or_null Text earliest ∷ or_null Text latest ∷ []

root_cast : (number : ℤ) (kind : DocumentKind) (id : List ℕ) (p e l : Option (List ℕ)) → cast_row roots (full_root number kind id p e l) ≡ full_root number kind id p e l
root_cast number kind id p e l = λ i. cast_int number i ∷ cast_null i ∷ cast_int (kind_number kind) i ∷ Text id ∷ cast_text p i ∷ cast_text e i ∷ cast_text l i ∷ []

domain_cast : (d : DomainRow) (e : ℤ) → cast_row domains (Int d.number ∷ Null ∷ Text d.name ∷ Int e ∷ []) ≡ domain_row (record d { epoch = e })
domain_cast d e = λ i. cast_int d.number i ∷ cast_null i ∷ Text d.name ∷ cast_int e i ∷ []

pub meta_cast : (next : ℤ) → cast_row meta (Int (pos 1) ∷ Null ∷ Int (pos 2) ∷ Int next ∷ []) ≡ meta_row next
meta_cast next = λ i. cast_int (pos 1) i ∷ cast_null i ∷ cast_int (pos 2) i ∷ cast_int next i ∷ []

roots_apart : (rs : List RootRow) → AreApart (λ a b. false) rs
roots_apart [] = tt
roots_apart (r ∷ rs) = (all_of (λ (_ : RootRow). false ≡ false) (λ _. refl) rs, roots_apart rs)

-- ---- the steps

-- the step was taken
pub record Stepped (old new : State) (step : Step) : Type 0 where
  pub schema : new.now.schema ≡ schema_2
  pub database : IsOurDatabase new.now.trees
  pub tables : Hold new.now.trees (after step (rows_of old.now.trees))

module _ (old new : State) (has : old.now.schema ≡ schema_2) (count : ℕ) (was : HaveWrittenRows old.now.trees) where
  abbrev db : Rattle.sqlite.specs.Tree.Trees
  db = old.now.trees

  abbrev next : Rattle.sqlite.specs.Tree.Trees
  next = new.now.trees

  -- the domain's epoch
  pub epoch_stepped : (raised : RaisedEpoch) → Executes text.set_epoch (Int raised.number ∷ Int raised.epoch ∷ []) old new (Ok count) → Stepped old new (SetEpoch raised)
  epoch_stepped raised h =
      let n = raised.number in
      let e = raised.epoch in
      let ds = map domain_in (db 1) in
      let params = Int n ∷ Int e ∷ [] in
      let shown = col 1 0 ∷ col 1 0 ∷ lit Null ∷ col 1 2 ∷ col 0 1 ∷ [] in
      let f : DomainRow → DomainRow = λ d. record d { epoch = e } in
      let edits = updates text.set_epoch params old new has 1 domains refl count _ set_epoch_is h in
      let answer = answered 1 (is 0 0 ∷ []) shown [] db refl params edits.rows edits.answer.answer in
      let hit = all_of _ (λ (d : DomainRow). last_term (at_ints false Eq d.number n)) ds in
      let few = at_most_one (λ (d : DomainRow). d.number) n (λ d. int_eq d.number n) (λ d h. h) ds was.domains.rise in
      let wrote = row_updated domain_row (λ d. d.number) (λ _. refl) domains db next ds was.domains.written was.domains.rise (is 0 0 ∷ []) shown refl params (λ d. int_eq d.number n) hit
      f (λ d. Int d.number ∷ Null ∷ Text d.name ∷ Int e ∷ []) (λ _. refl) (λ d. domain_cast d e) (λ _. refl) few edits.rows answer edits.edited in
      record {
        schema = edits.schema;
        database = edits.database;
        tables =
            domains_now db next was (update_where (λ d. int_eq d.number n) f ds) wrote
            (changed (λ d. int_eq d.number n) f was.domains (λ _. refl) (λ a b. refl) (λ a b. refl) wrote.rows (all_of (Back domain_row domain_in) (λ _. refl) (update_where (λ d. int_eq d.number n) f ds)));
      }

  -- the number of the next domain
  pub next_stepped : (n : ℤ) → Executes text.set_next (Int n ∷ []) old new (Ok count) → Stepped old new (SetNext n)
  next_stepped n h =
      let params = Int n ∷ [] in
      let shown = col 1 0 ∷ col 1 0 ∷ lit Null ∷ col 1 2 ∷ col 0 0 ∷ [] in
      let edits = updates text.set_next params old new has 0 meta refl count _ set_next_is h in
      let answer = answered 0 (is_one 0 ∷ []) shown [] db refl params edits.rows edits.answer.answer in
      let hit : AllByRecursion (λ (m : ℤ). Rattle.xa_store.proofs.SqlLemmas.hits 0 (is_one 0 ∷ []) shown [] db refl params (meta_row m) ≡ true) (next_in (db 0) ∷ []) = (last_term (at_ints false Eq (pos 1) (pos 1)), tt) in
      let wrote = row_updated meta_row (λ _. pos 1) (λ _. refl) meta db next (next_in (db 0) ∷ []) was.meta (tt, tt) (is_one 0 ∷ []) shown refl params (λ _. true) hit
      (λ _. n) (λ _. Int (pos 1) ∷ Null ∷ Int (pos 2) ∷ Int n ∷ []) (λ _. refl) (λ _. meta_cast n) (λ _. refl) (omega arith) edits.rows answer edits.edited in
      record { schema = edits.schema; database = edits.database; tables = meta_now db next was n wrote }

  -- the root goes
  pub root_dropped_stepped : (n : ℤ) → Executes text.drop_root (Int n ∷ []) old new (Ok count) → Stepped old new (DropRoot n)
  root_dropped_stepped n h =
      let rs = map root_in (db 7) in
      let p : RootRow → Bool = λ r. int_eq r.number n in
      let params = Int n ∷ [] in
      let edits = deletes text.drop_root params old new has 4 roots refl count _ drop_root_is h in
      let answer = answered 7 (is 0 0 ∷ []) (col 1 0 ∷ []) [] db refl params edits.rows edits.answer.answer in
      let hit = all_of _ (λ (r : RootRow). last_term (at_ints false Eq r.number n)) rs in
      let wrote = rows_removed root_row (λ r. r.number) (λ _. refl) roots db next rs was.roots.written was.roots.rise (is 0 0 ∷ []) (col 1 0 ∷ []) refl params p hit
      (λ _. refl) refl edits.rows answer edits.edited in
      record { schema = edits.schema; database = edits.database; tables = roots_now db next was (delete_where p rs) wrote (went_out p was.roots wrote.rows) }

  -- the root comes
  pub root_added_stepped : (n : ℤ) (reference : Reference) (r : RootRow) (p e l : Option (List ℕ)) → r ≡ root_of n reference → r.texts ≡ p ∷ e ∷ l ∷ []
      → Executes text.add_root (Int n ∷ Int (kind_number r.kind) ∷ Text r.id ∷ or_null Text p ∷ or_null Text e ∷ or_null Text l ∷ []) old new (Ok count)
      → r.number ≡ n → Stepped old new (AddRoot n reference)
  root_added_stepped n reference r p e l is texts h own =
      let rs = map root_in (db 7) in
      let params = Int n ∷ Int (kind_number r.kind) ∷ Text r.id ∷ or_null Text p ∷ or_null Text e ∷ or_null Text l ∷ [] in
      let adds = inserts text.add_root params old new has 4 roots refl count _ 7 refl refl add_root_is h in
      let row = full_root n r.kind r.id p e l in
      let put : with_rowid Chosen (db 7) (cast_row roots row) ≡ root_row r =
      ap (with_rowid Chosen (db 7)) (root_cast n r.kind r.id p e l) ∙ ap (λ k. with_rowid Chosen (db 7) (full_root k r.kind r.id p e l)) (sym own)
      ∙ (λ i. Int r.number ∷ Null ∷ Int (kind_number r.kind) ∷ Text r.id ∷ map (or_null Text) (sym texts i)) in
      let wrote = row_added root_row (λ r. r.number) (λ _. refl) roots db next rs was.roots.written was.roots.rise r row put adds.edited in
      let all = insert_by (λ r. r.number) rs r in
      let held = roots_now db next was all wrote (came wrote.rows (all_of (Back root_row root_in) root_back all) (IsKeyedBy-insert_by (λ r. r.number) rs r was.roots.rise) (roots_apart all)) in
      record { schema = adds.schema; database = adds.database; tables = subst (λ x. Hold next (record (rows_of db) { roots = insert_by (λ r. r.number) rs x })) is held }
