-- Facts on fractions of a second and on clocks.
use Rattle.std.proofs.Common.{◌≡◌, ℕ, suc, ◌+◌, ◌-◌, ◌*◌, ◌^◌, ◌<◌, ◌≤◌, Bool, true, false, List, [], ◌∷◌, length, take, drop, refl, sym, ap, ◌∙◌, arith, pow-add}
use native.Mathlib.Nat.{pow-le-pow_right, mul-le-mul_right, pow-succ', pow-zero, mul_assoc}
use Rattle.std.specs.Char.{is_ascii_digit}
use Rattle.std.proofs.lemmas.Bool.{and_parts}
use lib.Dec.{leb}
use mathlib.Core.Bool.{◌&&◌}
use borrow.Author.Tests.{leb-true}
use Rattle.xa_value.specs.Lexical.{number, number_after}
use Rattle.xa_value.specs.parsing.Lexical.{digit_count, begins_with, two_digits}
use Rattle.xa_value.specs.Time.{nanoseconds}
use Rattle.xa_value.specs.parsing.Time.{fraction_length, fraction_digits, is_clock}

-- powers of ten that are used here are small
pub small_power : (n : ℕ) → n ≤ 9 → 10 ^ n ≤ 1_000_000_000
small_power n h = pow-le-pow_right {n = 10} (omega arith) h

-- the first of some digits, and the others
pub digits_cons : (d : ℕ) (ds : List ℕ) → digit_count (d ∷ ds) ≡ length (d ∷ ds) → (is_ascii_digit d ≡ true) × (digit_count ds ≡ length ds)
digits_cons d ds h = by_first (is_ascii_digit d) refl
  where
    by_first : (b : Bool) → is_ascii_digit d ≡ b → (is_ascii_digit d ≡ true) × (digit_count ds ≡ length ds)
    by_first true e = (e, (let k : 1 + digit_count ds ≡ suc (length ds) = rw e at h in omega arith))
    by_first false e = absurd (let k : 0 ≡ suc (length ds) = rw e at h in omega arith)

-- a digit's value
pub digit_bounds : (d : ℕ) → is_ascii_digit d ≡ true → (48 ≤ d) × (d ≤ 57)
digit_bounds d h = let k = and_parts (leb 48 d) (leb d 57) h in (leb-true 48 d k.0, leb-true d 57 k.1)

number_after_lt : (n : ℕ) (ds : List ℕ) → digit_count ds ≡ length ds → number_after n ds < (n + 1) * 10 ^ length ds
unfolding number_after
number_after_lt n [] h = omega (arith, ap (λ x. (n + 1) * x) (pow-zero 10))
number_after_lt n (d ∷ ds) h =
    let k = digits_cons d ds h in
    let range = digit_bounds d k.0 in
    let ih = number_after_lt (n * 10 + (d - 48)) ds k.1 in
    let le : (n * 10 + (d - 48) + 1) * 10 ^ length ds ≤ ((n + 1) * 10) * 10 ^ length ds = mul-le-mul_right (10 ^ length ds) (omega arith) in
    omega (arith, ap (λ x. (n + 1) * x) (pow-succ' 10 (length ds)), mul_assoc (n + 1) 10 (10 ^ length ds))

-- digits write a number of this many digits
pub number_lt : (ds : List ℕ) → digit_count ds ≡ length ds → number ds < 10 ^ length ds
number_lt ds h = omega (arith, number_after_lt 0 ds h)

pub number_short : (ds : List ℕ) → digit_count ds ≡ length ds → length ds ≤ 9 → number ds < 1_000_000_000
number_short ds h short = omega (arith, number_lt ds h, small_power (length ds) short)

pub nanoseconds_lt : (ds : List ℕ) → digit_count ds ≡ length ds → length ds ≤ 9 → number ds * 10 ^ (9 - length ds) < 1_000_000_000
nanoseconds_lt ds h short =
    let nothing : 0 ≤ 9 - length ds = omega arith in
    let some : 10 ^ 0 ≤ 10 ^ (9 - length ds) = pow-le-pow_right {n = 10} (omega arith) nothing in
    let le : (number ds + 1) * 10 ^ (9 - length ds) ≤ 10 ^ length ds * 10 ^ (9 - length ds) = mul-le-mul_right (10 ^ (9 - length ds)) (let k = number_lt ds h in omega arith) in
    let whole : length ds + (9 - length ds) ≡ 9 = omega arith in
    let all : 10 ^ length ds * 10 ^ (9 - length ds) ≡ 1_000_000_000 = sym (pow-add 10 (length ds) (9 - length ds)) ∙ ap (λ k. 10 ^ k) whole in
    omega arith

digits_one_more : (x : ℕ) (xs : List ℕ) → is_ascii_digit x ≡ true → digit_count (take (digit_count xs) xs) ≡ length (take (digit_count xs) xs)
    → digit_count (take (digit_count (x ∷ xs)) (x ∷ xs)) ≡ length (take (digit_count (x ∷ xs)) (x ∷ xs))
digits_one_more x xs e ih = let s : 1 + digit_count xs ≡ suc (digit_count xs) = omega arith in rw e (rw s (rw e (omega arith)))

-- the digits that a text begins with are digits
pub digits_taken : (xs : List ℕ) → digit_count (take (digit_count xs) xs) ≡ length (take (digit_count xs) xs)
digits_taken [] = refl
digits_taken (x ∷ xs) = by_first (is_ascii_digit x) refl (digits_taken xs)
  where
    by_first : (b : Bool) → is_ascii_digit x ≡ b → digit_count (take (digit_count xs) xs) ≡ length (take (digit_count xs) xs)
        → digit_count (take (digit_count (x ∷ xs)) (x ∷ xs)) ≡ length (take (digit_count (x ∷ xs)) (x ∷ xs))
    by_first true e ih = digits_one_more x xs e ih
    by_first false e ih = rw e refl

-- the digits of a fraction are digits
pub fraction_digits_count : (text : List ℕ) → digit_count (fraction_digits text) ≡ length (fraction_digits text)
unfolding fraction_length
fraction_digits_count text = by_point (begins_with 46 text) refl
  where
    by_point : (b : Bool) → begins_with 46 text ≡ b → digit_count (fraction_digits text) ≡ length (fraction_digits text)
    by_point true e =
        let same : 1 + digit_count (drop 1 text) - 1 ≡ digit_count (drop 1 text) = omega arith in
        rw e (rw same (digits_taken (drop 1 text)))
    by_point false e = rw e refl

-- no fraction has no nanoseconds
pub no_fraction : (text : List ℕ) → fraction_length text ≡ 0 → nanoseconds (fraction_digits text) ≡ 0
unfolding nanoseconds number_after
no_fraction text none = rw none refl

-- what the test of a clock shows
pub clock_bounds : (text : List ℕ) → is_clock text ≡ true → (two_digits text 0 ≤ 23) × (two_digits text 3 ≤ 59) × (two_digits text 6 ≤ 59) × (fraction_length (drop 8 text) ≤ 10)
unfolding is_clock
clock_bounds text h =
    let a = and_parts (leb (two_digits text 0) 23 && leb (two_digits text 3) 59 && leb (two_digits text 6) 59) (leb (fraction_length (drop 8 text)) 10) h in
    let b = and_parts (leb (two_digits text 0) 23 && leb (two_digits text 3) 59) (leb (two_digits text 6) 59) a.0 in
    let c = and_parts (leb (two_digits text 0) 23) (leb (two_digits text 3) 59) b.0 in
    (leb-true _ 23 c.0, leb-true _ 59 c.1, leb-true _ 59 b.1, leb-true _ 10 a.1)
