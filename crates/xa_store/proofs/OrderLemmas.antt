-- What the query tells that compares the rowids of a table with the same in their order.
use Rattle.std.proofs.Common.{◌≡◌, inl, inr, ℕ, suc, ℤ, Bool, true, false, not, cond, ◌==◌, if◌then◌else◌, List, [], ◌∷◌, ◌++◌, map, fold, flat_map, length, is_eq, Some, None, unwrap_or, Ok, refl, sym, ap, ap₂, subst, ◌∙◌, append-nil, append_assoc, true≢false, arith, SFits, w64, IsPermutation, Ordering, Less, Equal, Greater}
use Rattle.xa_store.proofs.Common.{nat_cmp-IsAntisymmetric, slice_cmp-IsAntisymmetric, AllByRecursion, list_all, ordering_reverse, nat_tests, tied_itself, length-map, nil_from_length, All-permutation, IsPermutation-map, IsPermutation-sym, IsPermutation-trans, length_permutation, Collation, Binary, Row, column, overlay, Output, Query, output, output_cmp, State, Shown, Term, Env, lit, col, op1, op2, holds, eval, Trees, Value, Null, Int, Text, reads_as, all_map, all_weaker, ascending-map, map-map, map_same, first_of_both, sorted_unique, output_cmp_total, from_truth, not3, truth, IsSureAnswer, matches_as, Is, last_term, value_cmp-Text, value_cmp-Null, value_cmp_total, CheckedTable, Domains, Tokens, Documents, Roots, Attributes, Sources, SchemaVersion, are_rising, as_read, is_number, is_whole_row, rowid_in, schema_of, tree_of, RestsIn}
use Rattle.std.specs.Fmt.{signed_decimal}
use Rattle.std.specs.List.Sorted.{IsSorted}
use Rattle.std.proofs.lemmas.List.Elements.{recursion_from_All, All-from_recursion}
use Rattle.sqlite.specs.Ops.{unary, binary, is_true}
use Rattle.sqlite_sql.specs.Aggregate.{aggregate, skips}
use Rattle.sqlite_sql.specs.Group.{value_over}
use Rattle.sqlite_sql.specs.Query.{inner, end}
use Rattle.sqlite_sql.specs.Text.{joined, text_in}
use Rattle.sqlite_sql.specs.declared.aggregate.AggregateOp.TheVariants.{Concat}
use Rattle.sqlite_sql.specs.declared.ops.UnaryOp.TheVariants.{Not}
use Rattle.sqlite_value.specs.Order.{value_cmp}
use Rattle.xa_store.specs.keeping.Check.{has_table, order_query, HasRowids, Walks}
use Rattle.xa_store.proofs.NumberTexts.{AreShort, later_text, same_numbers}
use Rattle.xa_store.proofs.ReadLemmas.{bare, checked_sound, checked_up, head_read, int_back, numbers_read, rising, walked_numbers}
use Rattle.xa_store.proofs.RisingTexts.{by_rowid, order_is, rising_query, sorted_query, sorted_tree, text_over}

abbrev Numbered : List Row → Type 0
Numbered = AllByRecursion (λ r. is_number (column r 0) ≡ true)

each : {A B : Type 0} (f : A → B) (xs : List A) → flat_map (λ x. f x ∷ []) xs ≡ map f xs
each f [] = refl
each f (x ∷ xs) = ap (λ l. f x ∷ l) (each f xs)

-- ---- the text of numbers

abbrev text_of_all : List Value → Value
text_of_all vs = unwrap_or (aggregate Concat false Binary vs) Null

abbrev step : List Value → Value → List Value
step seen v = if skips Binary false seen v then seen else seen ++ v ∷ []

kept_all : (seen : List Value) (ns : List ℤ) → fold step seen (map Int ns) ≡ seen ++ map Int ns
kept_all seen [] = sym (append-nil seen)
kept_all seen (n ∷ ns) = kept_all (seen ++ Int n ∷ []) ns ∙ append_assoc seen (Int n ∷ []) (map Int ns)

later_is : (ns : List ℤ) → flat_map (λ w. 44 ∷ unwrap_or (text_in w) []) (map Int ns) ≡ later_text ns
later_is [] = refl
later_is (n ∷ ns) = ap (λ l. (44 ∷ signed_decimal n) ++ l) (later_is ns)

abbrev number_text : List ℤ → Value
number_text [] = Null
number_text (n ∷ ns) = Text (signed_decimal n ++ later_text ns)

some_items : (k : ℕ) → (suc k == 0) ≡ false
some_items k = grind (arith, nat_tests)

text_is : (ns : List ℤ) → text_of_all (map Int ns) ≡ number_text ns
text_is [] = refl
text_is (n ∷ ns) =
    ap (λ vs. if length vs == 0 then Null else Text (joined vs)) (kept_all [] (n ∷ ns))
    ∙ ap (λ b. if b then Null else Text (joined (map Int (n ∷ ns)))) (some_items (length (map Int ns))) ∙ ap (λ l. Text (signed_decimal n ++ l)) (later_is ns)

abbrev agrees : List ℤ → List ℤ → Bool
agrees xs ys = is_eq (value_cmp (number_text xs) (number_text ys))

itself : (xs : List ℤ) → agrees xs xs ≡ true
itself xs = ap is_eq (tied_itself value_cmp_total (number_text xs))

tied : (o : Ordering) → is_eq o ≡ true → o ≡ Equal
tied Equal e = refl
tied Less e = absurd (true≢false (sym e))
tied Greater e = absurd (true≢false (sym e))

agreed : (xs ys : List ℤ) → AreShort xs → AreShort ys → agrees xs ys ≡ true → xs ≡ ys
agreed [] [] p q e = refl
agreed [] (y ∷ ys) p q e = absurd (true≢false (sym e ∙ ap is_eq (value_cmp-Null (Text (signed_decimal y ++ later_text ys)))))
agreed (x ∷ xs) [] p q e =
    absurd (true≢false (sym e ∙ ap is_eq (value_cmp_total.antisymm (Text (signed_decimal x ++ later_text xs)) Null ∙ ap ordering_reverse (value_cmp-Null (Text (signed_decimal x ++ later_text xs))))))
agreed (x ∷ xs) (y ∷ ys) p q e =
    same_numbers x y xs ys p q
    (slice_cmp-IsAntisymmetric nat_cmp-IsAntisymmetric _ _ (sym (value_cmp-Text (signed_decimal x ++ later_text xs) (signed_decimal y ++ later_text ys)) ∙ tied _ e))

-- ---- the rows in the order of their keys

module _ (t : ℕ) (given : List Term) (collations : List Collation) (db : Trees) (plain : overlay db [] t ≡ db t) where
  abbrev query : Query
  query = by_rowid t given collations

  abbrev pub out_by_rowid : Row → Output
  out_by_rowid r = output query ([] ∷ r ∷ [])

  abbrev pub Sorted : List Row → Type 0
  Sorted rows = (ordered : List Output) × IsPermutation (map out_by_rowid (db t)) ordered × IsSorted (output_cmp query) ordered × (rows ≡ map (λ o. o.1) ordered)

  pub sorted_is : (rows : List Row) → IsSureAnswer query (overlay db []) [] rows → Sorted rows
  sorted_is rows h =
      let a = h Null in
      let staged : a.staged ≡ map (λ r. [] ∷ r ∷ []) (db t) = a.grouped ∙ ap (flat_map (λ r. ([] ∷ r ∷ []) ∷ [])) plain ∙ each (λ r. [] ∷ r ∷ []) (db t) in
      let kept : a.kept ≡ map out_by_rowid (db t) = a.distinct ∙ ap (map (output query)) staged ∙ map-map (output query) (λ r. [] ∷ r ∷ []) (db t) in
      (a.ordered, subst (λ k. IsPermutation k a.ordered) kept a.same, a.sorted, a.shown)

-- ---- what the query shows

abbrev tests : List Term
tests = op1 Not (op2 (Is Binary) (col 1 0) (col 2 0)) ∷ []

abbrev passes : Value → Value → Bool
passes a b = list_all (holds ([] ∷ (a ∷ []) ∷ (b ∷ []) ∷ [])) tests

turned : (c : Bool) → is_true (from_truth (not3 (truth (from_truth (Some c))))) ≡ not c
turned true = refl
turned false = refl

passes_is : (a b : Value) → passes a b ≡ not (is_eq (value_cmp a b))
unfolding unary binary
passes_is a b = last_term (turned (is_eq (value_cmp a b)))

mapped : (f : Row → Env) (term : Term) (rs : List Row) → map (eval term) (flat_map (λ r. f r ∷ []) rs) ≡ map (λ r. eval term (f r)) rs
mapped f term rs = ap (map (eval term)) (each f rs) ∙ map-map (eval term) f rs

ints_of : (rs : List Row) → Numbered rs → map (λ r. column r 0) rs ≡ map Int (map rowid_in rs)
ints_of [] all = refl
ints_of (r ∷ rs) all = ap₂ (λ v vs. v ∷ vs) (int_back (column r 0) all.0) (ints_of rs all.1)

module _ (t : ℕ) (db : Trees) (rows : List Row) (beside : overlay db (rows ∷ []) t ≡ db t) where
  abbrev both : Trees
  both = overlay db (rows ∷ [])

  abbrev kept_text : Value
  kept_text = unwrap_or (value_over (matches_as Null both [] (inner t end) ([] ∷ [])) (text_over (col 1 0))) Null

  abbrev sorted_text : Value
  sorted_text = unwrap_or (value_over (matches_as Null both [] (inner sorted_tree end) ([] ∷ (kept_text ∷ []) ∷ [])) (text_over (col 2 1))) Null

  kept_is : Numbered (db t) → kept_text ≡ number_text (map rowid_in (db t))
  kept_is all =
      ap (λ rs. text_of_all (map (eval (col 1 0)) (flat_map (λ r. ([] ∷ r ∷ []) ∷ []) rs))) beside
      ∙ ap text_of_all (mapped (λ r. [] ∷ r ∷ []) (col 1 0) (db t) ∙ ints_of (db t) all) ∙ text_is (map rowid_in (db t))

  sorted_text_is : (walked : List Row) → Numbered walked → rows ≡ map (λ r. Null ∷ column r 0 ∷ []) walked → sorted_text ≡ number_text (map rowid_in walked)
  sorted_text_is walked all is =
      ap text_of_all
      (mapped (λ r. [] ∷ (kept_text ∷ []) ∷ r ∷ []) (col 2 1) rows ∙ ap (map (λ r. column r 1)) is ∙ map-map (λ r. column r 1) (λ r. Null ∷ column r 0 ∷ []) walked ∙ ints_of walked all)
      ∙ text_is (map rowid_in walked)

  abbrev env : Env
  env = [] ∷ (kept_text ∷ []) ∷ (sorted_text ∷ []) ∷ []

  counted : (shown : List Row) → IsSureAnswer (rising_query t) both [] shown → length shown ≡ length (cond (passes kept_text sorted_text) (env ∷ []) [])
  counted shown h =
      let a = h Null in
      ap length a.shown ∙ length-map a.ordered (λ (o : Output). o.1) ∙ length_permutation _ a.ordered a.same ∙ ap length a.distinct ∙ length-map a.staged (output (rising_query t)) ∙ ap length a.grouped

  none_shown : (shown : List Row) → IsSureAnswer (rising_query t) both [] shown → shown ≡ [] → passes kept_text sorted_text ≡ false
  none_shown shown h none = go (passes kept_text sorted_text) refl
    where
      go : (b : Bool) → passes kept_text sorted_text ≡ b → passes kept_text sorted_text ≡ false
      go false is = is
      go true is = absurd (omega (arith, counted shown h, ap length none, ap (λ b. length (cond b (env ∷ []) [])) is))

  some_shown : (shown : List Row) → IsSureAnswer (rising_query t) both [] shown → passes kept_text sorted_text ≡ false → shown ≡ []
  some_shown shown h is = nil_from_length shown (counted shown h ∙ ap (λ b. length (cond b (env ∷ []) [])) is)

beside_of : (kind : CheckedTable) (db : Trees) (rows : List Row) → overlay db (rows ∷ []) (tree_of kind) ≡ db (tree_of kind)
beside_of Domains db rows = refl
beside_of Tokens db rows = refl
beside_of Documents db rows = refl
beside_of Roots db rows = refl
beside_of Attributes db rows = refl
beside_of Sources db rows = refl

not_false : (b : Bool) → not b ≡ false → b ≡ true
not_false true h = refl
not_false false h = absurd (true≢false h)

module _ (kind : CheckedTable) (version : SchemaVersion) (has : has_table kind version ≡ true) (old new : State) (rests : RestsIn (schema_of version) old) (shown : List Row)
    (told : Shown (order_query kind) [] old new shown) (next : ℤ) (walked : Walks kind next old.now.trees (Ok tt)) where
  abbrev t : ℕ
  t = tree_of kind

  abbrev db : Trees
  db = old.now.trees

  abbrev read : List Row
  read = map (as_read kind) (db t)

  abbrev Parts : Type 0
  Parts = (rows : List Row) × IsSureAnswer (sorted_query t) (overlay db []) [] rows × IsSureAnswer (rising_query t) (overlay db (rows ∷ [])) [] shown

  parts : Parts
  parts =
      let it = order_is kind version has in
      elim (reads_as (order_query kind) [] old new (schema_of version) rests.schema _ it.0 it.2 it.1 shown told).answer [ inl h ↦ (h.0, h.1, h.2) | inr h ↦ absurd h.1 ]

  numbers : HasRowids kind db
  numbers = walked_numbers kind next db walked

  numbered : Numbered walked.0
  numbered = all_weaker (λ r. is_whole_row kind next r ≡ true) (λ r. is_number (column r 0) ≡ true) (λ r h. first_of_both _ _ h) walked.0 (checked_sound kind next None walked.0 walked.2)

  up : are_rising (map rowid_in walked.0) ≡ true
  up = checked_up kind next None walked.0 walked.2

  abbrev key : Row → Output
  key = out_by_rowid t (lit Null ∷ col 1 0 ∷ []) (Binary ∷ []) db (bare kind db)

  same_keys : map key read ≡ map key (db t)
  same_keys = map-map key (as_read kind) (db t) ∙ map_same (λ r. key (as_read kind r)) key (λ r. ap (λ v. (v ∷ [], Null ∷ v ∷ [])) (head_read kind r)) (db t)

  rows_are : parts.0 ≡ map (λ r. Null ∷ column r 0 ∷ []) walked.0
  rows_are =
      let s = sorted_is t (lit Null ∷ col 1 0 ∷ []) (Binary ∷ []) db (bare kind db) parts.0 parts.1 in
      let front : IsPermutation (map key (db t)) (map key walked.0) = subst (λ l. IsPermutation l (map key walked.0)) same_keys (IsPermutation-map key read walked.0 walked.1.all) in
      let same = IsPermutation-trans _ _ _ (IsPermutation-sym _ _ front) s.1 in
      let strict = ascending-map (λ x y. output_cmp (sorted_query t) x y ≡ Less) key walked.0 (rising kind db walked.0 numbered up) in
      s.3 ∙ ap (map (λ (o : Output). o.1)) (sorted_unique (output_cmp (sorted_query t)) (output_cmp_total (sorted_query t)) (map key walked.0) s.0 strict same s.2) ∙ map-map (λ (o : Output). o.1) key walked.0

  abbrev kept : List ℤ
  kept = map rowid_in (db t)

  abbrev sorted : List ℤ
  sorted = map rowid_in walked.0

  passes_as : passes (kept_text t db parts.0 (beside_of kind db parts.0)) (sorted_text t db parts.0 (beside_of kind db parts.0)) ≡ not (agrees kept sorted)
  passes_as =
      passes_is _ _
      ∙ ap₂ (λ a b. not (is_eq (value_cmp a b))) (kept_is t db parts.0 (beside_of kind db parts.0) numbers) (sorted_text_is t db parts.0 (beside_of kind db parts.0) walked.0 numbered rows_are)

  short_sorted : AreShort sorted
  short_sorted = all_map (λ n. SFits w64 n) rowid_in walked.0 walked.3

  short_kept : AreShort kept
  short_kept =
      subst AreShort (numbers_read kind (db t))
      (recursion_from_All (λ n. SFits w64 n) (map rowid_in read)
      (All-permutation (λ n. SFits w64 n) sorted (map rowid_in read) (IsPermutation-sym _ _ (IsPermutation-map rowid_in read walked.0 walked.1.all)) (All-from_recursion (λ n. SFits w64 n) sorted short_sorted)))

  pub in_order : shown ≡ [] → are_rising (map rowid_in read) ≡ true
  in_order none =
      let beside = beside_of kind db parts.0 in
      let is = agreed kept sorted short_kept short_sorted (not_false _ (sym passes_as ∙ none_shown t db parts.0 beside shown parts.2 none)) in
      ap are_rising (numbers_read kind (db t) ∙ is) ∙ up

  pub out_of_order : (shown ≡ [] → ⊥) → are_rising (map rowid_in read) ≡ false
  out_of_order some = go (are_rising (map rowid_in read)) refl
    where
      go : (b : Bool) → are_rising (map rowid_in read) ≡ b → are_rising (map rowid_in read) ≡ false
      go false is = is
      go true is =
          let same : sorted ≡ kept = ap (map rowid_in) (walked.1.ordered numbers is) ∙ numbers_read kind (db t) in
          let agree : agrees kept sorted ≡ true = subst (λ l. agrees kept l ≡ true) (sym same) (itself kept) in
          absurd (some (some_shown t db parts.0 (beside_of kind db parts.0) shown parts.2 (passes_as ∙ ap not agree)))
