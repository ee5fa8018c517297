-- The texts in the columns of roots and of rows of sources: of rows that opening finds sound, and in rows that the keeper writes.
use Rattle.std.proofs.Common.{◌≡◌, ℕ, zero, suc, ℤ, Bool, true, List, [], ◌∷◌, map, drop, Option, Some, None, refl, sym, ap, ◌∙◌, true≢false}
use Rattle.xa_store.proofs.Common.{is_utf8, Row, column, Value, Null, Int, Real, Text, Blob, first_of_both, second_of_both, int_of, bytes_of, or_null, unless_null, Roots, Sources, as_read, holds_text, holds_text_if_any, holds_value, is_pattern, is_version, is_whole_row, placed_row_in, root_in, text_at, AreRootTexts, AreSourceTexts, is_if_any}
use Rattle.xa_store.proofs.ShapeLemmas.{int_held, text_held}
use Rattle.xa_store.proofs.ShapedLemmas.{value_back, whole_source}

-- ---- texts that there need not be

module _ (test : List ℕ → Bool) where
  if_any_held : (v : Value) → holds_text_if_any test v ≡ true → is_if_any test (unless_null bytes_of v) ≡ true
  if_any_held Null h = refl
  if_any_held (Int n) h = absurd (true≢false (sym h))
  if_any_held (Real x) h = absurd (true≢false (sym h))
  if_any_held (Text t) h = h
  if_any_held (Blob b) h = absurd (true≢false (sym h))

  -- a text of a row that opening finds sound
  text_read : (cells : Row) (i : ℕ) → holds_text_if_any test (column cells i) ≡ true → is_if_any test (text_at (map (unless_null bytes_of) cells) i) ≡ true
  text_read [] zero h = refl
  text_read [] (suc i) h = refl
  text_read (v ∷ vs) zero h = if_any_held v h
  text_read (v ∷ vs) (suc i) h = text_read vs i h

  pub held_if_any : (o : Option (List ℕ)) → is_if_any test o ≡ true → holds_text_if_any test (or_null Text o) ≡ true
  held_if_any None h = refl
  held_if_any (Some t) h = h

  -- a text of a row that the keeper writes
  pub text_written : (texts : List (Option (List ℕ))) (i : ℕ) → is_if_any test (text_at texts i) ≡ true → holds_text_if_any test (column (map (or_null Text) texts) i) ≡ true
  text_written [] zero h = refl
  text_written [] (suc i) h = refl
  text_written (o ∷ os) zero h = held_if_any o h
  text_written (o ∷ os) (suc i) h = text_written os i h

-- the columns after the fourth
past : (row : Row) (i : ℕ) → column row (suc (suc (suc (suc i)))) ≡ column (drop 4 row) i
past [] zero = refl
past [] (suc i) = refl
past (a ∷ []) zero = refl
past (a ∷ []) (suc i) = refl
past (a ∷ b ∷ []) zero = refl
past (a ∷ b ∷ []) (suc i) = refl
past (a ∷ b ∷ c ∷ []) zero = refl
past (a ∷ b ∷ c ∷ []) (suc i) = refl
past (a ∷ b ∷ c ∷ d ∷ row) i = refl

-- ---- a row

pub root_texts : (next : ℤ) (row : Row) → is_whole_row Roots next (as_read Roots row) ≡ true → AreRootTexts (root_in row)
root_texts next row whole =
    let rest = second_of_both _ _ whole in
    let first2 = first_of_both _ _ rest in
    let first3 = first_of_both _ _ first2 in
    let first4 = first_of_both _ _ first3 in (
      (text_held is_utf8 (column row 3) (second_of_both _ _ first4)).1,
      text_read is_pattern (drop 4 row) 0 (ap (holds_text_if_any is_pattern) (sym (past row 0)) ∙ second_of_both _ _ first3),
      text_read is_version (drop 4 row) 1 (ap (holds_text_if_any is_version) (sym (past row 1)) ∙ second_of_both _ _ first2),
      text_read is_version (drop 4 row) 2 (ap (holds_text_if_any is_version) (sym (past row 2)) ∙ second_of_both _ _ rest),
    )

pub source_texts : (next : ℤ) (row : Row) → is_whole_row Sources next (as_read Sources row) ≡ true → AreSourceTexts (placed_row_in row).row
source_texts next row whole =
    let both = whole_source next row whole in
    let rest = second_of_both _ _ both.0 in
    let first4 = first_of_both _ _ rest in
    let first3 = first_of_both _ _ first4 in
    let first2 = first_of_both _ _ first3 in
    let type = int_held (λ n. holds_text (holds_value n) (column row 7)) (column row 6) (second_of_both _ _ rest) in
    let text = text_held (holds_value (int_of (column row 6))) (column row 7) type.1 in
    let value = value_back (int_of (column row 6)) (bytes_of (column row 7)) text.1 in (
      (text_held is_utf8 (column row 3) (second_of_both _ _ first2)).1,
      (text_held is_utf8 (column row 4) (second_of_both _ _ first3)).1,
      (text_held is_utf8 (column row 5) (second_of_both _ _ first4)).1,
      sym (λ i. holds_value (ap int_of value.0 i) (ap bytes_of value.1 i)) ∙ text.1,
      if_any_held is_utf8 (column row 8) both.1,
    )
