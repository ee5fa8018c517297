-- Digits that write the same number.
use Rattle.std.proofs.Common.{◌≡◌, ℕ, ◌+◌, ◌*◌, ◌-◌, ◌≤◌, Bool, true, false, cond, List, [], ◌∷◌, length, drop, refl, sym, ap, ◌∙◌, suc, zero, arith, eqb, add_comm, add-one, ◌⊎◌, inl, inr}
use Rattle.std.specs.List.{list_all, prefix_len}
use Rattle.std.specs.Char.{is_ascii_digit, digit_value}
use Rattle.std.specs.Prelude.{◌==◌, if◌then◌else◌}
use Rattle.std.specs.Str.{bytes_eq}
use Rattle.std.specs.Str.Parse.{digits_value, digits_value_after}
use Rattle.std.proofs.lemmas.Bool.Decides.{nat_tests, same_from_decides, Decides-eqb}
use Rattle.std.proofs.lemmas.Bool.{false≢true}
use Rattle.std.proofs.lemmas.Slice.Eq.{bytes_eq-Decides}
use Rattle.xa_value.specs.Digits.{is_number}

-- the digits from the first that is no zero
abbrev pub skip_zeros : List ℕ → List ℕ
skip_zeros [] = []
skip_zeros (c ∷ cs) = if c == 48 then skip_zeros cs else c ∷ cs

-- the same by how many zeros there are
skipped : (cs : List ℕ) → drop (prefix_len (λ c. c == 48) cs) cs ≡ skip_zeros cs
skipped [] = refl
skipped (c ∷ cs) = by_test (skipped cs) (eqb c 48)
  where
    one_more : (n : ℕ) → drop (1 + n) (c ∷ cs) ≡ drop n cs
    one_more n = rw (add_comm 1 n, add-one) refl

    by_test : drop (prefix_len (λ d. d == 48) cs) cs ≡ skip_zeros cs → (b : Bool)
        → drop (cond b (1 + prefix_len (λ d. d == 48) cs) 0) (c ∷ cs) ≡ cond b (skip_zeros cs) (c ∷ cs)
    by_test later true = one_more (prefix_len (λ d. d == 48) cs) ∙ later
    by_test later false = refl

-- a digit and the digits after it
pub digit_first : (c : ℕ) (cs : List ℕ) → list_all is_ascii_digit (c ∷ cs) ≡ true → (48 ≤ c) × (c ≤ 57) × (list_all is_ascii_digit cs ≡ true) × (digit_value c ≡ c - 48)
digit_first c cs h = (grind (arith, nat_tests), grind (arith, nat_tests), grind (arith, nat_tests), grind (arith, nat_tests))

-- as many digits that write the same number are the same
same_length : (m n : ℕ) (xs ys : List ℕ) → list_all is_ascii_digit xs ≡ true → list_all is_ascii_digit ys ≡ true
    → length xs ≡ length ys → digits_value_after 10 m xs ≡ digits_value_after 10 n ys → (m ≡ n) × (xs ≡ ys)
same_length m n [] [] dx dy l e = (e, refl)
same_length m n [] (y ∷ ys) dx dy l e = absurd (omega (arith, l))
same_length m n (x ∷ xs) [] dx dy l e = absurd (omega (arith, l))
same_length m n (x ∷ xs) (y ∷ ys) dx dy l e =
    let p = digit_first x xs dx in
    let q = digit_first y ys dy in
    let r = same_length (m * 10 + digit_value x) (n * 10 + digit_value y) xs ys p.2 q.2 (omega (arith, l)) e in
    let a = p.0 in
    let b = p.1 in
    let v = p.3 in
    let c = q.0 in
    let d = q.1 in
    let w = q.3 in
    let s = r.0 in
    let t : x ≡ y = omega (arith, a, b, c, d, s, v, w) in
    let u = r.1 in
    (omega (arith, a, b, c, d, s, v, w), cc)

-- k zeros before the digits
pad : ℕ → List ℕ → List ℕ
pad zero xs = xs
pad (suc k) xs = 48 ∷ pad k xs

number-pad : (k : ℕ) (xs : List ℕ) → digits_value 10 (pad k xs) ≡ digits_value 10 xs
unfolding pad
number-pad zero xs = refl
number-pad (suc k) xs = number-pad k xs

length-pad : (k : ℕ) (xs : List ℕ) → length (pad k xs) ≡ k + length xs
unfolding pad
length-pad zero xs = omega arith
length-pad (suc k) xs = omega (arith, length-pad k xs)

digits-pad : (k : ℕ) (xs : List ℕ) → list_all is_ascii_digit xs ≡ true → list_all is_ascii_digit (pad k xs) ≡ true
unfolding pad
digits-pad zero xs d = d
digits-pad (suc k) xs d = digits-pad k xs d

-- the digits without leading zeros don't begin with a zero
starts_plain : (cs xs : List ℕ) → skip_zeros cs ≡ 48 ∷ xs → ⊥
starts_plain [] xs e = cc
starts_plain (c ∷ cs) xs e = by_test (starts_plain cs xs) (eqb c 48) refl e
  where
    by_test : (skip_zeros cs ≡ 48 ∷ xs → ⊥) → (b : Bool) → eqb c 48 ≡ b → cond b (skip_zeros cs) (c ∷ cs) ≡ 48 ∷ xs → ⊥
    by_test later true t e = later e
    by_test later false t e =
        let z : c ≡ 48 = cc in
        false≢true (sym t ∙ (Decides-eqb c 48).1 z)

-- leading zeros don't count
pub number-skip_zeros : (cs : List ℕ) → digits_value 10 (skip_zeros cs) ≡ digits_value 10 cs
number-skip_zeros [] = refl
number-skip_zeros (c ∷ cs) = by_test (number-skip_zeros cs) (eqb c 48) refl
  where
    by_test : digits_value 10 (skip_zeros cs) ≡ digits_value 10 cs → (b : Bool) → eqb c 48 ≡ b
        → digits_value 10 (cond b (skip_zeros cs) (c ∷ cs)) ≡ digits_value 10 (c ∷ cs)
    by_test later true t =
        let z : c ≡ 48 = (Decides-eqb c 48).0 t in
        later ∙ ap (λ (d : ℕ). digits_value_after 10 (0 * 10 + digit_value d) cs) (sym z)
    by_test later false t = refl

pub digits-skip_zeros : (cs : List ℕ) → list_all is_ascii_digit cs ≡ true → list_all is_ascii_digit (skip_zeros cs) ≡ true
digits-skip_zeros [] d = refl
digits-skip_zeros (c ∷ cs) d = by_test (digits-skip_zeros cs (digit_first c cs d).2) (eqb c 48)
  where
    by_test : list_all is_ascii_digit (skip_zeros cs) ≡ true → (b : Bool)
        → list_all is_ascii_digit (cond b (skip_zeros cs) (c ∷ cs)) ≡ true
    by_test later true = later
    by_test later false = d

-- digits without leading zeros that write the same number are the same, if the others are as many or more
longer : (k : ℕ) (xs cs : List ℕ) → list_all is_ascii_digit xs ≡ true → list_all is_ascii_digit (skip_zeros cs) ≡ true
    → length (skip_zeros cs) ≡ k + length xs → digits_value 10 xs ≡ digits_value 10 (skip_zeros cs) → xs ≡ skip_zeros cs
unfolding pad
longer k xs cs dx dy l e = by_zeros k l
  where
    padded : (k : ℕ) → length (skip_zeros cs) ≡ k + length xs → pad k xs ≡ skip_zeros cs
    padded k l = (same_length 0 0 (pad k xs) (skip_zeros cs) (digits-pad k xs dx) dy (length-pad k xs ∙ sym l) (number-pad k xs ∙ e)).1

    by_zeros : (k : ℕ) → length (skip_zeros cs) ≡ k + length xs → xs ≡ skip_zeros cs
    by_zeros zero l = padded zero l
    by_zeros (suc k) l = absurd (starts_plain cs (pad k xs) (sym (padded (suc k) l)))

-- two texts of digits write the same number exactly if they are the same without leading zeros
same_skipped : (ds es : List ℕ) → list_all is_ascii_digit ds ≡ true → list_all is_ascii_digit es ≡ true
    → digits_value 10 ds ≡ digits_value 10 es → skip_zeros ds ≡ skip_zeros es
same_skipped ds es da db e =
    let same : digits_value 10 (skip_zeros ds) ≡ digits_value 10 (skip_zeros es)
    = number-skip_zeros ds ∙ e ∙ sym (number-skip_zeros es) in
    by_length (le_or_ge (length (skip_zeros ds)) (length (skip_zeros es))) same
  where
    le_or_ge : (m n : ℕ) → (n ≡ (n - m) + m) ⊎ (m ≡ (m - n) + n)
    le_or_ge m n = grind arith

    by_length : (length (skip_zeros es) ≡ (length (skip_zeros es) - length (skip_zeros ds)) + length (skip_zeros ds))
        ⊎ (length (skip_zeros ds) ≡ (length (skip_zeros ds) - length (skip_zeros es)) + length (skip_zeros es))
        → digits_value 10 (skip_zeros ds) ≡ digits_value 10 (skip_zeros es) → skip_zeros ds ≡ skip_zeros es
    by_length (inl l) same = longer _ (skip_zeros ds) es (digits-skip_zeros ds da) (digits-skip_zeros es db) l same
    by_length (inr l) same = sym (longer _ (skip_zeros es) ds (digits-skip_zeros es db) (digits-skip_zeros ds da) l (sym same))

same_skip : (ds es : List ℕ) → is_number ds ≡ true → is_number es ≡ true
    → bytes_eq (skip_zeros ds) (skip_zeros es) ≡ eqb (digits_value 10 ds) (digits_value 10 es)
same_skip ds es a b =
    let da : list_all is_ascii_digit ds ≡ true = grind (arith, nat_tests) in
    let db : list_all is_ascii_digit es ≡ true = grind (arith, nat_tests) in
    same_from_decides (bytes_eq (skip_zeros ds) (skip_zeros es)) (eqb (digits_value 10 ds) (digits_value 10 es)) (bytes_eq-Decides _ _) (
      λ t. same_skipped ds es da db ((Decides-eqb _ _).0 t),
      λ e. (Decides-eqb _ _).1 (sym (number-skip_zeros ds) ∙ ap (digits_value 10) e ∙ number-skip_zeros es),
    )

pub same_number : (ds es : List ℕ) → is_number ds ≡ true → is_number es ≡ true
    → bytes_eq (drop (prefix_len (λ c. c == 48) ds) ds) (drop (prefix_len (λ c. c == 48) es) es)
    ≡ eqb (digits_value 10 ds) (digits_value 10 es)
same_number ds es a b = rw (skipped ds, skipped es) (same_skip ds es a b)
