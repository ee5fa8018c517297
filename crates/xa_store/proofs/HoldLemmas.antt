-- Tables of which one was written.
use Rattle.std.proofs.Common.{◌≡◌, ◌≢◌, ℕ, ℤ, List, [], ◌∷◌, ◌++◌, map, Bool, false, true, not, ◌&&◌, ◌==◌, refl, sym, ap, subst, ◌∙◌, eq-eqb, true≢false}
use Rattle.xa_store.proofs.Common.{AllByRecursion, list_all, and_parts, Row, Trees, IsNoIndex, IsKeyedBy, insert_by, next_key, update_where, delete_where, AreApart, all-filter, IsKeyedBy-delete_where, IsKeyedBy-update_where, apart_delete, apart_update, DomainRow, TokenRow, DocumentRow, RootRow, PlacedRow, meta_row, next_in, domain_row, domain_in, token_row, token_in, document_row, document_in, root_row, root_in, placed_row, placed_row_in, AreRows, HaveWrittenRows, same_name, same_token, same_document, same_place, schema_2, Rows, rows_of}
use Rattle.sqlite_schema.specs.declared.schema.Index.{Index}
use Rattle.xa_store.proofs.LastLemmas.{stands_last, keyed_last, all_last, apart_last}
use Rattle.xa_store.proofs.WriteLemmas.{Wrote}

-- ---- trees that a statement leaves as they were

-- the tree is another than that one, and no index's
abbrev pub is_other : ℕ → ℕ → Bool
is_other tree t = not (t == tree) && list_all (λ (i : Index). not (i.tree == t)) schema_2.indexes

apart_by : (a b : ℕ) → not (a == b) ≡ true → a ≢ b
apart_by a b differs same = true≢false (sym differs ∙ ap not (eq-eqb a b same))

no_index : (indexes : List Index) (t : ℕ) → list_all (λ (i : Index). not (i.tree == t)) indexes ≡ true → AllByRecursion (λ (i : Index). i.tree ≢ t) indexes
no_index [] t free = tt
no_index (i ∷ indexes) t free = let both = and_parts _ _ free in (apart_by i.tree t both.0, no_index indexes t both.1)

-- what holds of each tree but that one and the indexes' holds if the test says so
pub of_other : (tree : ℕ) (P : ℕ → Type 0) → ((t : ℕ) → t ≢ tree → IsNoIndex schema_2 t → P t) → (t : ℕ) → is_other tree t ≡ true → P t
of_other tree P others t other = let both = and_parts _ _ other in others t (apart_by t tree both.0) (no_index schema_2.indexes t both.1)

pub kept : {old new : Trees} {tree : ℕ} {content : List Row} → Wrote old new tree content → (t : ℕ) → is_other tree t ≡ true → new t ≡ old t
kept {old} {new} {tree} w t other = of_other tree (λ t. new t ≡ old t) w.others t other

-- ---- rows that read back as what they were written from

abbrev pub Back : {X : Type 0} → (X → Row) → (Row → X) → X → Type 0
Back write read x = read (write x) ≡ x

module _ {X : Type 0} (write : X → Row) (read : Row → X) where
  pub written_back : (rows : List Row) → rows ≡ map write (map read rows) → AllByRecursion (Back write read) (map read rows)
  written_back [] is = tt
  written_back (r ∷ rows) is = let head : r ≡ write (read r) = cc in let tail : rows ≡ map write (map read rows) = cc in (ap read (sym head), written_back rows tail)

  pub read_back : (xs : List X) → AllByRecursion (Back write read) xs → map read (map write xs) ≡ xs
  read_back [] all = refl
  read_back (x ∷ xs) all = λ i. all.0 i ∷ read_back xs all.1 i

  module _ (key : X → ℤ) (same : X → X → Bool) where
    pub rows_read : (rows : List Row) (xs : List X) → rows ≡ map write xs → AllByRecursion (Back write read) xs → map read rows ≡ xs
    rows_read rows xs is back = ap (map read) is ∙ read_back xs back

    pub are_rows : (rows : List Row) (xs : List X) → rows ≡ map write xs → AllByRecursion (Back write read) xs → IsKeyedBy key xs → AreApart same xs → AreRows write read key same rows
    are_rows rows xs is back up apart =
        let reads = rows_read rows xs is back in
        record { written = is ∙ ap (map write) (sym reads); rise = subst (IsKeyedBy key) (sym reads) up; apart = subst (AreApart same) (sym reads) apart }

-- ---- the rows of one table

-- they are a table's, and these records are what they read as
pub record ReadsAs {X : Type 0} (write : X → Row) (read : Row → X) (key : X → ℤ) (same : X → X → Bool) (rows : List Row) (xs : List X) : Type 0 where
  pub are : AreRows write read key same rows
  pub reads : map read rows ≡ xs

module _ {X : Type 0} {write : X → Row} {read : Row → X} {key : X → ℤ} {same : X → X → Bool} where
  -- as they were
  pub stay : {old new : List Row} → new ≡ old → AreRows write read key same old → ReadsAs write read key same new (map read old)
  stay at was = record { are = subst (AreRows write read key same) (sym at) was; reads = ap (map read) at }

  -- as they were written
  pub came : {rows : List Row} {xs : List X} → rows ≡ map write xs → AllByRecursion (Back write read) xs → IsKeyedBy key xs → AreApart same xs → ReadsAs write read key same rows xs
  came {rows} {xs} is back up apart = record { are = are_rows write read key same rows xs is back up apart; reads = rows_read write read key same rows xs is back }

  -- but those that pass the test
  pub went_out : (p : X → Bool) {old new : List Row} → AreRows write read key same old → new ≡ map write (delete_where p (map read old)) → ReadsAs write read key same new (delete_where p (map read old))
  went_out p {old} was is =
      came is (all-filter (Back write read) (λ x. not (p x)) (map read old) (written_back write read old was.written)) (IsKeyedBy-delete_where key p (map read old) was.rise)
      (apart_delete same p (map read old) was.apart)

  -- with those that pass the test as this makes them
  pub changed : (p : X → Bool) (f : X → X) {old new : List Row} → AreRows write read key same old → ((x : X) → key (f x) ≡ key x) → ((a b : X) → same (f a) b ≡ same a b)
      → ((a b : X) → same a (f b) ≡ same a b) → new ≡ map write (update_where p f (map read old)) → AllByRecursion (Back write read) (update_where p f (map read old))
      → ReadsAs write read key same new (update_where p f (map read old))
  changed p f {old} was keeps left right is back = came is back (IsKeyedBy-update_where key p f keeps (map read old) was.rise) (apart_update same p f left right (map read old) was.apart)

  -- and one more, which stands last
  pub came_last : (x : X) {old new : List Row} → AreRows write read key same old → key x ≡ next_key key (map read old) → new ≡ map write (insert_by key (map read old) x)
      → Back write read x → AllByRecursion (λ y. same y x ≡ false) (map read old) → ReadsAs write read key same new (map read old ++ x ∷ [])
  came_last x {old} was next is back fresh =
      let back_of : X → Type 0 = Back write read in
      came (is ∙ ap (map write) (stands_last key same back_of (map read old) x was.rise next)) (all_last key same back_of (map read old) x was.rise next (written_back write read old was.written) back)
      (keyed_last key same back_of (map read old) x was.rise next) (apart_last key same back_of (map read old) x was.rise next was.apart fresh)

-- ---- all tables

-- the tables are these rows
abbrev pub Hold : Trees → Rows → Type 0
Hold db rows = HaveWrittenRows db × (rows_of db ≡ rows)

abbrev pub HasDomains : List Row → List DomainRow → Type 0
HasDomains = ReadsAs domain_row domain_in (λ d. d.number) same_name

abbrev pub HasTokens : List Row → List TokenRow → Type 0
HasTokens = ReadsAs token_row token_in (λ t. t.rowid) same_token

abbrev pub HasDocuments : List Row → List DocumentRow → Type 0
HasDocuments = ReadsAs document_row document_in (λ d. d.rowid) same_document

abbrev pub HasRoots : List Row → List RootRow → Type 0
HasRoots = ReadsAs root_row root_in (λ r. r.number) (λ a b. false)

abbrev pub HasSources : List Row → List PlacedRow → Type 0
HasSources = ReadsAs placed_row placed_row_in (λ a. a.rowid) same_place

pub hold : (db : Trees) (rows : Rows) → db 0 ≡ meta_row rows.next ∷ [] → HasDomains (db 1) rows.domains → HasTokens (db 3) rows.tokens → HasDocuments (db 5) rows.documents
    → HasRoots (db 7) rows.roots → db 8 ≡ [] → HasSources (db 10) rows.sources → Hold db rows
hold db rows meta domains tokens documents roots left sources = (
  record {
    meta = meta ∙ ap (λ rows. meta_row (next_in rows) ∷ []) (sym meta);
    domains = domains.are;
    tokens = tokens.are;
    documents = documents.are;
    roots = roots.are;
    left_empty = left;
    sources = sources.are;
  },
  λ i. record {
    next = next_in (meta i);
    domains = domains.reads i;
    tokens = tokens.reads i;
    documents = documents.reads i;
    roots = roots.reads i;
    sources = sources.reads i;
  },
)

module _ (old new : Trees) (was : HaveWrittenRows old) where
  pub meta_now : (next : ℤ) → Wrote old new 0 (meta_row next ∷ []) → Hold new (record (rows_of old) { next = next })
  meta_now next w =
      hold new (record (rows_of old) { next = next }) w.rows (stay (kept w 1 refl) was.domains) (stay (kept w 3 refl) was.tokens) (stay (kept w 5 refl) was.documents)
      (stay (kept w 7 refl) was.roots) (kept w 8 refl ∙ was.left_empty) (stay (kept w 10 refl) was.sources)

  pub domains_now : (xs : List DomainRow) {content : List Row} → Wrote old new 1 content → HasDomains (new 1) xs → Hold new (record (rows_of old) { domains = xs })
  domains_now xs w now =
      hold new (record (rows_of old) { domains = xs }) (kept w 0 refl ∙ was.meta) now (stay (kept w 3 refl) was.tokens) (stay (kept w 5 refl) was.documents)
      (stay (kept w 7 refl) was.roots) (kept w 8 refl ∙ was.left_empty) (stay (kept w 10 refl) was.sources)

  pub tokens_now : (xs : List TokenRow) {content : List Row} → Wrote old new 3 content → HasTokens (new 3) xs → Hold new (record (rows_of old) { tokens = xs })
  tokens_now xs w now =
      hold new (record (rows_of old) { tokens = xs }) (kept w 0 refl ∙ was.meta) (stay (kept w 1 refl) was.domains) now (stay (kept w 5 refl) was.documents)
      (stay (kept w 7 refl) was.roots) (kept w 8 refl ∙ was.left_empty) (stay (kept w 10 refl) was.sources)

  pub documents_now : (xs : List DocumentRow) {content : List Row} → Wrote old new 5 content → HasDocuments (new 5) xs → Hold new (record (rows_of old) { documents = xs })
  documents_now xs w now =
      hold new (record (rows_of old) { documents = xs }) (kept w 0 refl ∙ was.meta) (stay (kept w 1 refl) was.domains) (stay (kept w 3 refl) was.tokens) now
      (stay (kept w 7 refl) was.roots) (kept w 8 refl ∙ was.left_empty) (stay (kept w 10 refl) was.sources)

  pub roots_now : (xs : List RootRow) {content : List Row} → Wrote old new 7 content → HasRoots (new 7) xs → Hold new (record (rows_of old) { roots = xs })
  roots_now xs w now =
      hold new (record (rows_of old) { roots = xs }) (kept w 0 refl ∙ was.meta) (stay (kept w 1 refl) was.domains) (stay (kept w 3 refl) was.tokens)
      (stay (kept w 5 refl) was.documents) now (kept w 8 refl ∙ was.left_empty) (stay (kept w 10 refl) was.sources)

  pub sources_now : (xs : List PlacedRow) {content : List Row} → Wrote old new 10 content → HasSources (new 10) xs → Hold new (record (rows_of old) { sources = xs })
  sources_now xs w now =
      hold new (record (rows_of old) { sources = xs }) (kept w 0 refl ∙ was.meta) (stay (kept w 1 refl) was.domains) (stay (kept w 3 refl) was.tokens)
      (stay (kept w 5 refl) was.documents) (stay (kept w 7 refl) was.roots) (kept w 8 refl ∙ was.left_empty) now
