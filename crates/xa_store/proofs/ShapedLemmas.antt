-- Sound rows are rows that the keeper writes.
use Rattle.std.proofs.Common.{◌≡◌, ◌≤◌, ℕ, ℤ, pos, negsuc, ◌<ℤ◌, Bool, true, false, ◌&&◌, ◌==◌, not, cond, unwrap_or, codes, List, [], ◌∷◌, map, length, drop, slice_get, is_some, int_lt, int_eq, bytes_eq, Option, Some, None, Result, Ok, Err, refl, sym, ap, ap₂, ◌∙◌, true≢false, arith}
use Rattle.xa_store.proofs.Common.{AllByRecursion, is_utf8, ints, Row, column, Value, Null, Int, Real, Text, Blob, IsKeyedBy, AreApart, all_from_test, all_weaker, all_both, all_unmap, ascending_from_map, none_from_any, any_from_none, first_of_both, second_of_both, are_present, are_typed, agree, clashes, differ, suits, is_null, Eq, Ne, IsAscending, int_of, bytes_of, or_null, unless_null, at_ints, then_term, last_term, same_bytes, is_eq-slice_cmp, type_of, printed, read, read_as, CheckedTable, Domains, Tokens, Attributes, Sources, is_domain_name, are_rising, as_read, holds_text, holds_text_if_any, holds_value, is_assigned, is_bit, is_count, is_digest, is_number, is_printed, is_value, is_whole_row, rowid_in, PlacedRow, placed_row_in, placed_row, domain_in, domain_row, result_ok, issuer_columns, nat_of, role_in, role_number, token_in, token_row, type_number, same_place, attributes, domains, needed, own_key, rising, sources, tokens}
use Rattle.sqlite.specs.Kind.TheVariants as kinds
use Rattle.sqlite_schema.specs.declared.schema.Column.{Column}
use Rattle.sqlite_value.specs.Keys.{first_key}
use Rattle.xa_value.specs.declared.data_type.DataType.{DataType}
use Rattle.xa_value.specs.declared.data_type.DataType.TheVariants.{String, Boolean, Integer, Date, Time, DateTime, DayTimeDuration, YearMonthDuration, AnyUri, HexBinary, Base64Binary}
use Rattle.xa_value.specs.declared.read_error.ReadError.{ReadError}
use Rattle.xa_value.specs.declared.value.Value.{Value as Datum}
use Rattle.xa_value.specs.declared.value.Value.TheVariants as datum
use Rattle.xa_value.specs.Types.{all_types, place_of, type_at}
use Rattle.xa_store.specs.Rows.{value_in, value_text}
use Rattle.xa_store.proofs.ColumnNumbers.{from_bit}
use Rattle.xa_store.proofs.EntryLemmas.{found_passes}
use Rattle.xa_store.proofs.ReadLemmas.{int_back, numbers_read}
use Rattle.xa_store.proofs.RiseLemmas.{both_true, lt_from}
use Rattle.xa_store.proofs.ShapeLemmas.{blob_held, by_columns, by_last, column_past, int_held, key_null, never_int, never_text, row_long, row_short, text_held, text_if_any_held}

-- ---- all rows of a table

pub written_from : {X : Type 0} (write : X → Row) (reads : Row → X) (rows : List Row) → AllByRecursion (λ r. r ≡ write (reads r)) rows → rows ≡ map write (map reads rows)
written_from write reads [] h = refl
written_from write reads (r ∷ rows) h = ap₂ ◌∷◌ h.0 (written_from write reads rows h.1)

rising_ascends : (ns : List ℤ) → are_rising ns ≡ true → IsAscending (λ a b. a <ℤ b) ns
rising_ascends [] h = tt
rising_ascends (n ∷ ns) h = (all_weaker (λ m. int_lt n m ≡ true) (λ m. n <ℤ m) (λ m up. lt_from n m up) ns (all_from_test (int_lt n) ns (first_of_both _ _ h)), rising_ascends ns (second_of_both _ _ h))

pub rows_ascend : (kind : CheckedTable) (rows : List Row) → are_rising (map rowid_in (map (as_read kind) rows)) ≡ true → IsAscending (λ a b. rowid_in a <ℤ rowid_in b) rows
rows_ascend kind rows h = ascending_from_map (λ a b. a <ℤ b) rowid_in rows (rising_ascends (map rowid_in rows) (ap are_rising (sym (numbers_read kind rows)) ∙ h))

pub keyed_from : {X : Type 0} (rowid_of : X → ℤ) (reads : Row → X) → ((r : Row) → rowid_of (reads r) ≡ rowid_in r) → (rows : List Row) → IsAscending (λ a b. rowid_in a <ℤ rowid_in b) rows → IsKeyedBy rowid_of (map reads rows)
keyed_from rowid_of reads is [] h = tt
keyed_from rowid_of reads is (r ∷ rows) h = (
  Rattle.sqlite_keyed.proofs.ListLemmas.all_map (λ x. rowid_of (reads r) <ℤ rowid_of x) reads rows (all_weaker (λ s. rowid_in r <ℤ rowid_in s) (λ s. rowid_of (reads r) <ℤ rowid_of (reads s)) (λ s less. rw (is r, is s) less) rows h.0),
  keyed_from rowid_of reads is rows h.1,
)

-- ---- no two rows clash

less_apart : (a b : ℤ) → a <ℤ b → not (int_eq a b) ≡ true
less_apart a b h = grind (arith, ints)

module _ {X : Type 0} (write : X → Row) (rowid_of : X → ℤ) (numbered : (x : X) → column (write x) 0 ≡ Int (rowid_of x)) (same : X → X → Bool) (at : List ℕ) (agrees : (a b : X) → same a b ≡ true → agree rising at (write a) at (write b) ≡ true) where
  differs : (x y : X) → rowid_of x <ℤ rowid_of y → differ (column (write x) 0) (column (write y) 0) ≡ true
  differs x y less = ap₂ differ (numbered x) (numbered y) ∙ at_ints false Ne (rowid_of x) (rowid_of y) ∙ less_apart (rowid_of x) (rowid_of y) less

  unlike : (x y : X) → rowid_of x <ℤ rowid_of y → (agree rising at (write x) at (write y) && differ (column (write x) 0) (column (write y) 0)) ≡ false → same x y ≡ false
  unlike x y less h = go (same x y) refl
    where
      go : (c : Bool) → same x y ≡ c → same x y ≡ false
      go false is = is
      go true is = absurd (true≢false (sym (then_term (agrees x y is) (differs x y less)) ∙ h))

  abbrev clash : Row → Row → Bool
  clash row other = agree rising at other at row && differ (column other 0) (column row 0)

  pub apart_from : (xs : List X) → IsKeyedBy rowid_of xs → AllByRecursion (λ r. clashes rising at (map write xs) r ≡ false) (map write xs) → AreApart same xs
  apart_from [] up none = tt
  apart_from (x ∷ xs) up none = (
    all_both (λ y. rowid_of x <ℤ rowid_of y) (λ y. clashes rising at (write x ∷ map write xs) (write y) ≡ false) (λ y. same x y ≡ false)
        (λ y less free. unlike x y less (none_from_any (clash (write y)) (write x ∷ map write xs) free).0) xs up.0
        (all_unmap (λ r. clashes rising at (write x ∷ map write xs) r ≡ false) write xs none.1),
    apart_from xs up.1
        (all_weaker (λ r. clashes rising at (write x ∷ map write xs) r ≡ false) (λ r. clashes rising at (map write xs) r ≡ false)
        (λ r free. any_from_none (clash r) (map write xs) (none_from_any (clash r) (write x ∷ map write xs) free).1) (map write xs) none.1),
  )

-- ---- a row of a table of domains, and of tokens

pub domain_back : (next : ℤ) (row : Row) → are_typed (Some 0) 0 domains.columns (drop 1 row) ≡ true → is_whole_row Domains next (as_read Domains row) ≡ true → row ≡ domain_row (domain_in row)
domain_back next row typed whole =
    let rest = second_of_both _ _ whole in
    let number = int_held (is_assigned next) (column row 0) (first_of_both _ _ (first_of_both _ _ rest)) in
    let name = text_held is_domain_name (column row 2) (second_of_both _ _ (first_of_both _ _ rest)) in
    let epoch = int_held is_count (column row 3) (second_of_both _ _ rest) in
    let less : length row ≤ 4 = row_short (Some 0) domains.columns row typed in
    let more = row_long row 3 (never_int (column row 3) _ epoch.0) in
    let null = key_null (own_key (codes "number")) (needed (codes "name") kinds.Text ∷ needed (codes "epoch") kinds.Integer ∷ []) row typed in
    by_columns 4 row (omega (arith, less, more)) ∙ (λ i. number.0 i ∷ null i ∷ name.0 i ∷ epoch.0 i ∷ [])

pub token_back : (next : ℤ) (row : Row) → are_typed None 0 tokens.columns (drop 1 row) ≡ true → is_whole_row Tokens next (as_read Tokens row) ≡ true → row ≡ token_row (token_in row)
token_back next row typed whole =
    let rest = second_of_both _ _ whole in
    let number = int_held (is_assigned next) (column row 1) (first_of_both _ _ (first_of_both _ _ rest)) in
    let digest = blob_held is_digest (column row 2) (second_of_both _ _ (first_of_both _ _ rest)) in
    let role = int_held is_bit (column row 3) (second_of_both _ _ rest) in
    let rowid = int_back (column row 0) (first_of_both _ _ whole) in
    let less : length row ≤ 4 = row_short None tokens.columns row typed in
    let more = row_long row 3 (never_int (column row 3) _ role.0) in
    by_columns 4 row (omega (arith, less, more)) ∙ (λ i. rowid i ∷ number.0 i ∷ digest.0 i ∷ (role.0 ∙ ap Int (from_bit role_number role_in refl refl _ role.1)) i ∷ [])

-- ---- a value by its type's number and its printed text

read_as_type : {A : Type 0} (t : DataType) (variant : A → Datum) → ((a : A) → type_of (variant a) ≡ t) → (r : Result A ReadError) (v : Datum) → read_as variant r ≡ Ok v → type_of v ≡ t
read_as_type t variant is (Ok a) v e = ap type_of (sym (let e = e in cc)) ∙ is a
read_as_type t variant is (Err x) v e = absurd (let e = e in cc)

pub read_type : (t : DataType) (text : List ℕ) (v : Datum) → read t text ≡ Ok v → type_of v ≡ t
read_type String text v e = ap type_of (sym (Rattle.xa_store.proofs.TableLemmas.same_value e))
read_type Boolean text v e = read_as_type Boolean _ (λ a. refl) _ v e
read_type Integer text v e = read_as_type Integer _ (λ a. refl) _ v e
read_type Date text v e = read_as_type Date _ (λ a. refl) _ v e
read_type Time text v e = read_as_type Time _ (λ a. refl) _ v e
read_type DateTime text v e = read_as_type DateTime _ (λ a. refl) _ v e
read_type DayTimeDuration text v e = read_as_type DayTimeDuration _ (λ a. refl) _ v e
read_type YearMonthDuration text v e = read_as_type YearMonthDuration _ (λ a. refl) _ v e
read_type AnyUri text v e = ap type_of (sym (Rattle.xa_store.proofs.TableLemmas.same_value e))
read_type HexBinary text v e = read_as_type HexBinary _ (λ a. refl) _ v e
read_type Base64Binary text v e = read_as_type Base64Binary _ (λ a. refl) _ v e

pub same_text : (a b : List ℕ) → bytes_eq a b ≡ true → a ≡ b
same_text a b h = same_bytes a b (is_eq-slice_cmp a b ∙ h)

same_nat : (m n : ℕ) → (m == n) ≡ true → m ≡ n
same_nat m n h = grind arith

place_is : (n : ℕ) (t : DataType) → type_at n ≡ Some t → place_of t ≡ n
place_is n t found = same_nat (place_of t) n (found_passes (λ type. place_of type == n) all_types t found)

pub no_count : (n : ℕ) → is_count (negsuc n) ≡ true → ⊥
no_count n h = grind (arith, ints)

pub count_back : (n : ℤ) → is_count n ≡ true → pos (nat_of n) ≡ n
count_back (pos n) h = refl
count_back (negsuc n) h = absurd (no_count n h)

abbrev pub IsBack : ℤ → List ℕ → Type 0
IsBack n text = (Int n ≡ Int (type_number (value_in n text))) × (Text text ≡ Text (value_text (value_in n text)))

typed_back : (n : ℤ) (text : List ℕ) (t : DataType) → type_at (nat_of n) ≡ Some t → is_count n ≡ true → (r : Result Datum ReadError) → read t text ≡ r → is_printed text r ≡ true → IsBack n text
unfolding value_in value_text
typed_back n text t is counts (Err e) reads h = absurd (true≢false (sym h))
typed_back n text t is counts (Ok v) reads h =
    let value : value_in n text ≡ v =
    ap (λ o. unwrap_or (result_ok (read (unwrap_or o String) text)) (datum.String text)) is ∙ ap (λ r. unwrap_or (result_ok r) (datum.String text)) reads in
    let number : type_number v ≡ n = ap (λ t. pos (place_of t)) (read_type t text v reads) ∙ ap pos (place_is (nat_of n) t is) ∙ count_back n counts in
    (ap Int (sym number) ∙ ap (λ v. Int (type_number v)) (sym value), ap Text (sym (same_text (printed v) text h)) ∙ ap (λ v. Text (value_text v)) (sym value))

pub value_back : (n : ℤ) (text : List ℕ) → holds_value n text ≡ true → IsBack n text
value_back n text h = go (is_count n) refl (type_at (nat_of n)) refl (second_of_both _ _ h)
  where
    go : (b : Bool) → is_count n ≡ b → (o : Option DataType) → type_at (nat_of n) ≡ o → is_value text (cond b o None) ≡ true → IsBack n text
    go false c o is h = absurd (true≢false (sym h))
    go true c None is h = absurd (true≢false (sym h))
    go true c (Some t) is h = typed_back n text t is c (read t text) refl h

-- ---- a row of a table of the rows of sources, which may lack the column of its issuer

int_from : (name : List ℕ) (v : Value) → suits (needed name kinds.Integer) v ≡ true → not (is_null v) ≡ true → v ≡ Int (int_of v)
int_from name Null h some = absurd (true≢false (sym some))
int_from name (Int n) h some = refl
int_from name (Real x) h some = absurd (true≢false (sym h))
int_from name (Text t) h some = absurd (true≢false (sym h))
int_from name (Blob b) h some = absurd (true≢false (sym h))

-- the columns of a place: a number, the place, and others
abbrev placed : List Column → List Column
placed others = needed (codes "number") kinds.Integer ∷ needed (codes "place") kinds.Integer ∷ others

place_from : (others : List Column) (row : Row) → 3 ≤ length row → are_typed None 0 (placed others) (drop 1 row) ≡ true → are_present None 0 (placed others) row ≡ true → column row 2 ≡ Int (int_of (column row 2))
place_from others [] more typed present = absurd (omega (arith, more))
place_from others (a ∷ []) more typed present = absurd (omega (arith, more))
place_from others (a ∷ b ∷ []) more typed present = absurd (omega (arith, more))
place_from others (a ∷ b ∷ c ∷ row) more typed present = int_from (codes "place") c (first_of_both _ _ (second_of_both _ _ typed)) (first_of_both _ _ (second_of_both _ _ present))

abbrev IsText : Value → Type 0
IsText v = v ≡ or_null Text (unless_null bytes_of v)

issuer_cells : (has : Bool) (v : Value) → IsText v → cond has (v ∷ []) [] ≡ issuer_columns has (unless_null bytes_of v)
issuer_cells true v is = ap (λ v. v ∷ []) is
issuer_cells false v is = refl

module _ (next : ℤ) (row : Row) where
  -- a row of one of the two tables
  row_from : is_whole_row Attributes next (as_read Attributes row) ≡ true → (8 ≤ length row → column row 2 ≡ Int (int_of (column row 2))) → length row ≤ 9 → IsText (column row 8) → row ≡ placed_row (placed_row_in row)
  row_from whole placed less issued =
      let rest = second_of_both _ _ whole in
      let first4 = first_of_both _ _ rest in
      let first3 = first_of_both _ _ first4 in
      let first2 = first_of_both _ _ first3 in
      let number = int_held (is_assigned next) (column row 1) (first_of_both _ _ first2) in
      let category = text_held is_utf8 (column row 3) (second_of_both _ _ first2) in
      let entity = text_held is_utf8 (column row 4) (second_of_both _ _ first3) in
      let attribute = text_held is_utf8 (column row 5) (second_of_both _ _ first4) in
      let type = int_held (λ n. holds_text (holds_value n) (column row 7)) (column row 6) (second_of_both _ _ rest) in
      let text = text_held (holds_value (int_of (column row 6))) (column row 7) type.1 in
      let value = value_back (int_of (column row 6)) (bytes_of (column row 7)) text.1 in
      let rowid = int_back (column row 0) (first_of_both _ _ whole) in
      let more = row_long row 7 (never_text (column row 7) _ text.0) in
      let place = placed more in
      let issuer = issuer_cells (is_some (slice_get row 8)) (column row 8) issued in
      by_last 8 row more less ∙ (λ i. rowid i ∷ number.0 i ∷ place i ∷ category.0 i ∷ entity.0 i ∷ attribute.0 i ∷ (type.0 ∙ value.0) i ∷ (text.0 ∙ value.1) i ∷ issuer i)

  -- of schema 1, where it has no issuer
  pub source_of_schema_1_back : are_typed None 0 attributes.columns (drop 1 row) ≡ true → are_present None 0 attributes.columns row ≡ true → is_whole_row Attributes next (as_read Attributes row) ≡ true → row ≡ placed_row (placed_row_in row)
  source_of_schema_1_back typed present whole =
      let less : length row ≤ 8 = row_short None attributes.columns row typed in
      let none = column_past 8 row less in
      row_from whole (λ more. place_from (drop 2 attributes.columns) row (omega (arith, more)) typed present) (omega (arith, less)) (none ∙ ap (λ v. or_null Text (unless_null bytes_of v)) (sym none))

  pub whole_source : is_whole_row Sources next (as_read Sources row) ≡ true → (is_whole_row Attributes next (as_read Attributes row) ≡ true) × (holds_text_if_any is_utf8 (column row 8) ≡ true)
  whole_source whole =
      let rest = second_of_both _ _ whole in
      (both_true (is_number (column row 0)) _ (first_of_both _ _ whole) (first_of_both _ _ rest), second_of_both _ _ rest)

  pub source_back : are_typed None 0 sources.columns (drop 1 row) ≡ true → are_present None 0 sources.columns row ≡ true → is_whole_row Sources next (as_read Sources row) ≡ true → row ≡ placed_row (placed_row_in row)
  source_back typed present whole =
      let both = whole_source whole in
      row_from both.0 (λ more. place_from (drop 2 sources.columns) row (omega (arith, more)) typed present) (row_short None sources.columns row typed) (text_if_any_held is_utf8 (column row 8) both.1)

pub places_agree : (a b : PlacedRow) → agree rising (1 ∷ 2 ∷ []) (placed_row a) (1 ∷ 2 ∷ []) (placed_row b) ≡ same_place a b
unfolding first_key
places_agree a b = then_term (at_ints false Eq a.number b.number) (last_term (at_ints false Eq a.place b.place))

pub free_of : (b : Bool) → not b ≡ true → b ≡ false
free_of true h = absurd (true≢false (sym h))
free_of false h = refl
