-- The parts of a text between its dots, as a split yields them, and what they write into a room of eight.
use Rattle.std.proofs.Common.{◌≡◌, ℕ, ◌+◌, ◌<◌, ◌≤◌, Bool, true, List, [], ◌∷◌, ◌++◌, length, map, take, drop, get_or, set, lit<, zero, suc, refl, sym, ap, ◌∙◌, arith, rules}
use Rattle.std.specs.Prelude.{nat_le, nat_lt, ◌==◌, Some}
use Rattle.std.specs.List.{list_all}
use Rattle.std.specs.Str.Iter.{split_steps, split_text, split_has_more, split_pattern}
use Rattle.std.specs.Str.Pattern.{FindsChar}
use Rattle.std.proofs.lemmas.Bool.{and_parts, lt-leb}
use Rattle.std.proofs.lemmas.Iterator.{YieldsList}
use Rattle.std.proofs.lemmas.Iterator.Splits.{YieldsList-from_str_split}
use Rattle.std.proofs.lemmas.List.{take_more, take_more_set, drop_more, map-append, length-map}
use Rattle.std.specs.Char.{is_ascii_digit}
use Rattle.std.specs.Str.Parse.{digits_value}
use Rattle.std.proofs.lemmas.Str.Parse.{IsNumeralModel, numerals_by_value, digits_value_short}
use borrow.Author.Tests.{le-leb, leb-true, lt-ltb}
use Rattle.xa_value.specs.Digits.{is_number, number_up_to}
use Rattle.std.proofs.lemmas.List.Splits.{length-slice_split}
use Rattle.xa_policy.specs.Version.{parts, is_short, IsVersion}

pub own : IsNumeralModel (λ text. list_all is_ascii_digit text ≡ true) (digits_value 10)
own = numerals_by_value _ (search rules)

-- a split at dots yields the parts
pub parts_in_turn : {s : _} (text : List ℕ) → split_text {P = ℕ} s ≡ text → split_has_more s ≡ true → split_pattern s ≡ 46 → YieldsList (split_steps FindsChar (λ a b. b ≡ a)) (λ x. x.now) s (parts text)
parts_in_turn text e more dot = YieldsList-from_str_split 46 text (lit< tt) e more dot

-- what all pass, each passes
pub passes_at : {X : Type 0} (p : X → Bool) (xs : List X) (i : ℕ) (d : X) → list_all p xs ≡ true → i < length xs → p (get_or xs i d) ≡ true
passes_at p [] i d h l = absurd (omega arith)
passes_at p (x ∷ xs) zero d h l = (and_parts (p x) (list_all p xs) h).0
passes_at p (x ∷ xs) (suc i) d h l = passes_at p xs i d (and_parts (p x) (list_all p xs) h).1 (omega arith)

-- the parts from one on
pub parts_from : (ps : List (List ℕ)) (i : ℕ) (part : List ℕ) → (i < length ps) × (part ≡ get_or ps i part) → drop i ps ≡ part ∷ drop (i + 1) ps
parts_from ps i part turn = drop_more ps i part turn.0 ∙ ap (λ p. p ∷ drop (i + 1) ps) (sym turn.1)

-- one more is written
pub more_written : {X Y : Type 0} (f : X → Y) (ys : List Y) (xs : List X) (i : ℕ) (x : X) (y : Y) → i < length ys → i < length xs → take i ys ≡ map f (take i xs) → x ≡ get_or xs i x → y ≡ f x
    → take (i + 1) (set ys i y) ≡ map f (take (i + 1) xs)
more_written f ys xs i x y room there so_far is value =
    ap (λ z. take (i + 1) (set ys i z)) value ∙ take_more_set ys i (f x) room ∙ ap (λ zs. zs ++ f x ∷ []) so_far ∙ ap (λ z. map f (take i xs) ++ f z ∷ []) is
    ∙ sym (map-append f (take i xs) (get_or xs i x ∷ [])) ∙ ap (map f) (sym (take_more xs i x there))

-- a number of at most nine digits
pub small_number : (part : List ℕ) → is_number part ≡ true → length part ≤ 9 → digits_value 10 part < 1_000_000_000
small_number part h short = digits_value_short own part 9 (and_parts (nat_lt 0 (length part)) (list_all is_ascii_digit part) h).1 short

-- which a bounded reading gives
pub number_given : (part : List ℕ) → is_number part ≡ true → length part ≤ 9 → number_up_to 999_999_999 part ≡ Some (digits_value 10 part)
number_given part h short = let small = small_number part h short in rw h (rw (le-leb (digits_value 10 part) 999_999_999 (omega (arith, small))) refl)

-- the limits, by the count of the parts and by their lengths
pub within_limits : (ps : List (List ℕ)) (count : ℕ) (short : Bool) → count ≡ length ps → short ≡ list_all (λ part. nat_le (length part) 9) ps → count ≤ 8 → short ≡ is_short ps
within_limits ps count short e f few = rw (le-leb (length ps) 8 (rw (sym e) few)) f

pub beyond_limits : (ps : List (List ℕ)) (count : ℕ) → count ≡ length ps → 8 < count → nat_le count 8 ≡ is_short ps
beyond_limits ps count e many = let k : length ps ≡ count = sym e in rw (k, lt-leb count 8 many) refl

-- what a text within the limits keeps to
pub few_parts : (ps : List (List ℕ)) → is_short ps ≡ true → length ps ≤ 8
few_parts ps h = leb-true (length ps) 8 (and_parts (nat_le (length ps) 8) (list_all (λ part. nat_le (length part) 9) ps) h).0

pub short_parts : (ps : List (List ℕ)) → is_short ps ≡ true → list_all (λ part. nat_le (length part) 9) ps ≡ true
short_parts ps h = (and_parts (nat_le (length ps) 8) (list_all (λ part. nat_le (length part) 9) ps) h).1

-- a part of such a text
pub record PartAt (ps : List (List ℕ)) (i : ℕ) (part : List ℕ) : Type 0 where
  pub there : i < length ps
  pub room : i < 8
  pub is : part ≡ get_or ps i part
  pub short : length part ≤ 9

pub part_at : (ps : List (List ℕ)) (i j : ℕ) (part : List ℕ) → i ≡ j → is_short ps ≡ true → (j < length ps) × (part ≡ get_or ps j part) → PartAt ps i part
part_at ps i j part same h turn =
    let few = few_parts ps h in
    let place : i < length ps = rw same turn.0 in
    let here : part ≡ get_or ps i part = rw same turn.1 in
    record {
      there = place;
      room = omega (arith, few, place);
      is = here;
      short = leb-true (length part) 9 (rw here (passes_at (λ p. nat_le (length p) 9) ps i part (short_parts ps h) place));
    }

-- the numbers of the parts are those of a version
pub numbers_are_small : (ps : List (List ℕ)) → list_all is_number ps ≡ true → list_all (λ part. nat_le (length part) 9) ps ≡ true
    → list_all (λ n. nat_lt n 1_000_000_000) (map (digits_value 10) ps) ≡ true
numbers_are_small [] h k = refl
numbers_are_small (p ∷ ps) h k =
    let a = and_parts (is_number p) (list_all is_number ps) h in
    let b = and_parts (nat_le (length p) 9) (list_all (λ part. nat_le (length part) 9) ps) k in
    rw (lt-ltb (digits_value 10 p) 1_000_000_000 (small_number p a.0 (leb-true (length p) 9 b.0))) (numbers_are_small ps a.1 b.1)

pub parts_some : (text : List ℕ) → 0 < length (parts text)
parts_some text = omega (arith, length-slice_split (λ c. c == 46) text)

pub is_version_of : (text : List ℕ) → list_all is_number (parts text) ≡ true → is_short (parts text) ≡ true → IsVersion (map (digits_value 10) (parts text))
is_version_of text h k =
    let some = parts_some text in
    let few = few_parts (parts text) k in
    let len : length (map (digits_value 10) (parts text)) ≡ length (parts text) = length-map (parts text) (digits_value 10) in
    record {
      some = rw len some;
      few = rw len few;
      small = numbers_are_small (parts text) h (short_parts (parts text) k);
    }
