-- Rows whose columns hold what they should are rows that the keeper writes.
use Rattle.std.proofs.Common.{◌≡◌, ◌+◌, ◌≤◌, ℕ, zero, suc, ℤ, Bool, true, cond, List, [], ◌∷◌, ◌++◌, map, length, drop, slice_get, Option, Some, is_some, refl, sym, ap, ◌∙◌, true≢false, arith}
use Rattle.xa_store.proofs.Common.{Row, column, Value, Null, Int, Real, Text, Blob, map-map, first_of_both, second_of_both, are_typed, is_null, int_of, bytes_of, or_null, unless_null, holds_int, holds_text, holds_text_if_any, holds_blob}
use Rattle.sqlite_schema.specs.declared.schema.Column.{Column}

-- ---- one column

pub int_held : (p : ℤ → Bool) (v : Value) → holds_int p v ≡ true → (v ≡ Int (int_of v)) × (p (int_of v) ≡ true)
int_held p Null h = absurd (true≢false (sym h))
int_held p (Int n) h = (refl, h)
int_held p (Real x) h = absurd (true≢false (sym h))
int_held p (Text t) h = absurd (true≢false (sym h))
int_held p (Blob b) h = absurd (true≢false (sym h))

pub text_held : (p : List ℕ → Bool) (v : Value) → holds_text p v ≡ true → (v ≡ Text (bytes_of v)) × (p (bytes_of v) ≡ true)
text_held p Null h = absurd (true≢false (sym h))
text_held p (Int n) h = absurd (true≢false (sym h))
text_held p (Real x) h = absurd (true≢false (sym h))
text_held p (Text t) h = (refl, h)
text_held p (Blob b) h = absurd (true≢false (sym h))

pub blob_held : (p : List ℕ → Bool) (v : Value) → holds_blob p v ≡ true → (v ≡ Blob (bytes_of v)) × (p (bytes_of v) ≡ true)
blob_held p Null h = absurd (true≢false (sym h))
blob_held p (Int n) h = absurd (true≢false (sym h))
blob_held p (Real x) h = absurd (true≢false (sym h))
blob_held p (Text t) h = absurd (true≢false (sym h))
blob_held p (Blob b) h = (refl, h)

pub text_if_any_held : (p : List ℕ → Bool) (v : Value) → holds_text_if_any p v ≡ true → v ≡ or_null Text (unless_null bytes_of v)
text_if_any_held p Null h = refl
text_if_any_held p (Int n) h = absurd (true≢false (sym h))
text_if_any_held p (Real x) h = absurd (true≢false (sym h))
text_if_any_held p (Text t) h = refl
text_if_any_held p (Blob b) h = absurd (true≢false (sym h))

pub null_is : (v : Value) → is_null v ≡ true → v ≡ Null
null_is Null h = refl
null_is (Int n) h = absurd (true≢false (sym h))
null_is (Real x) h = absurd (true≢false (sym h))
null_is (Text t) h = absurd (true≢false (sym h))
null_is (Blob b) h = absurd (true≢false (sym h))

pub never_int : (v : Value) (n : ℤ) → v ≡ Int n → v ≡ Null → ⊥
never_int v n is null = absurd (let e = sym is ∙ null in cc)

pub never_text : (v : Value) (t : List ℕ) → v ≡ Text t → v ≡ Null → ⊥
never_text v t is null = absurd (let e = sym is ∙ null in cc)

-- ---- how many columns a row has

short : (key : Option ℕ) (at : ℕ) (columns : List Column) (vs : Row) → are_typed key at columns vs ≡ true → length vs ≤ length columns
short key at [] [] h = omega arith
short key at [] (v ∷ vs) h = absurd (true≢false (sym h))
short key at (c ∷ cs) [] h = omega arith
short key at (c ∷ cs) (v ∷ vs) h = let less = short key (at + 1) cs vs (second_of_both _ _ h) in omega (arith, less)

pub row_short : (key : Option ℕ) (columns : List Column) (row : Row) → are_typed key 0 columns (drop 1 row) ≡ true → length row ≤ suc (length columns)
row_short key columns [] h = omega arith
row_short key columns (v ∷ vs) h = let less = short key 0 columns vs h in omega (arith, less)

pub row_long : (row : Row) (at : ℕ) → (column row at ≡ Null → ⊥) → suc at ≤ length row
row_long [] at some = absurd (some refl)
row_long (v ∷ vs) zero some = omega arith
row_long (v ∷ vs) (suc at) some = let less = row_long vs at some in omega (arith, less)

-- the rowid's own column
pub key_null : (c : Column) (columns : List Column) (row : Row) → are_typed (Some 0) 0 (c ∷ columns) (drop 1 row) ≡ true → column row 1 ≡ Null
key_null c columns [] h = refl
key_null c columns (a ∷ []) h = refl
key_null c columns (a ∷ v ∷ vs) h = null_is v (first_of_both _ _ h)

-- ---- a row by its columns

abbrev pub places : ℕ → List ℕ
places zero = []
places (suc n) = 0 ∷ map suc (places n)

pub by_columns : (n : ℕ) (row : Row) → length row ≡ n → row ≡ map (column row) (places n)
by_columns zero [] e = refl
by_columns zero (v ∷ vs) e = absurd (omega (arith, e))
by_columns (suc n) [] e = absurd (omega (arith, e))
by_columns (suc n) (v ∷ vs) e = ap (λ l. v ∷ l) (by_columns n vs (omega (arith, e)) ∙ sym (map-map (column (v ∷ vs)) suc (places n)))

-- one that may have one column more
pub by_last : (n : ℕ) (row : Row) → n ≤ length row → length row ≤ suc n → row ≡ map (column row) (places n) ++ cond (is_some (slice_get row n)) (column row n ∷ []) []
by_last zero [] more less = refl
by_last zero (v ∷ []) more less = refl
by_last zero (v ∷ w ∷ vs) more less = absurd (omega (arith, less))
by_last (suc n) [] more less = absurd (omega (arith, more))
by_last (suc n) (v ∷ vs) more less =
    ap (λ l. v ∷ l)
    (by_last n vs (omega (arith, more)) (omega (arith, less)) ∙ ap (λ l. l ++ cond (is_some (slice_get vs n)) (column vs n ∷ []) []) (sym (map-map (column (v ∷ vs)) suc (places n))))

pub column_past : (n : ℕ) (row : Row) → length row ≤ n → column row n ≡ Null
column_past n [] less = refl
column_past zero (v ∷ vs) less = absurd (omega (arith, less))
column_past (suc n) (v ∷ vs) less = column_past n vs (omega (arith, less))
