-- What is written with dots between is split at them again.
use Rattle.std.proofs.Common.{◌≡◌, ℕ, ◌<◌, true, false, List, [], ◌∷◌, length, map, get_or, Ok, refl, ap, ◌∙◌, arith}
use Rattle.std.specs.Prelude.{◌==◌, nat_le, nat_lt, decimal}
use Rattle.std.specs.List.{list_all, join_with_byte, All}
use Rattle.std.specs.Str.Parse.{digits_value}
use Rattle.std.proofs.lemmas.Bool.{and_parts}
use Rattle.std.proofs.lemmas.Fmt.{digits_decimal, digits_value-decimal, decimal_nonempty, length-decimal-le}
use Rattle.std.proofs.lemmas.List.{get_or_default, length-map}
use Rattle.std.proofs.lemmas.List.Splits.{slice_split_none, slice_split_at}
use Rattle.std.proofs.lemmas.Str.Parse.{not_in_digits}
use borrow.Author.Tests.{le-leb, ltb-true, lt-ltb, ne_eqb}
use Rattle.xa_value.specs.Digits.{is_number}
use Rattle.xa_policy.specs.Version.{parts, read_version, version_text, IsVersion}
use Rattle.xa_policy.proofs.PartLemmas.{own}

-- a part as it is written: short, and without a dot
pub record IsPart (part : List ℕ) : Type 0 where
  pub dotless : All (λ c. (c == 46) ≡ false) part
  pub short : nat_le (length part) 9 ≡ true

abbrev pub AllParts : List (List ℕ) → Type 0
AllParts [] = Unit {0}
AllParts (p ∷ ps) = IsPart p × AllParts ps

pub parts_joined : (p : List ℕ) (ps : List (List ℕ)) → AllParts (p ∷ ps) → parts (join_with_byte 46 (p ∷ ps)) ≡ p ∷ ps
parts_joined p [] h = slice_split_none (λ c. c == 46) p h.0.dotless
parts_joined p (q ∷ ps) h = slice_split_at (λ c. c == 46) p 46 (join_with_byte 46 (q ∷ ps)) h.0.dotless refl ∙ ap (λ rest. p ∷ rest) (parts_joined q ps h.1)

pub parts_short : (ps : List (List ℕ)) → AllParts ps → list_all (λ part. nat_le (length part) 9) ps ≡ true
parts_short [] h = refl
parts_short (p ∷ ps) h = rw h.0.short (parts_short ps h.1)

-- ---- numbers

pub number_part : (n : ℕ) → n < 1_000_000_000 → IsPart (decimal n)
number_part n small = record {
  dotless = λ k d there. let other = not_in_digits own (decimal n) 46 (digits_decimal own n (omega arith)) (λ r. absurd (omega arith)) k there in
      rw (get_or_default (decimal n) k d 0 there) (ne_eqb (get_or (decimal n) k 0) 46 other);
  short = le-leb (length (decimal n)) 9 (length-decimal-le 9 n (omega arith) (omega arith) (omega arith));
}

pub number_is_number : (n : ℕ) → n < 1_000_000_000 → is_number (decimal n) ≡ true
number_is_number n small = rw (lt-ltb 0 (length (decimal n)) (decimal_nonempty n (omega arith))) (digits_decimal own n (omega arith))

pub number_value : (n : ℕ) → n < 1_000_000_000 → digits_value 10 (decimal n) ≡ n
number_value n small = digits_value-decimal own n (omega arith)

-- ---- versions

-- what the texts of small numbers are, and what they read as
record AreNumbers (ns : List ℕ) : Type 0 where
  parts : AllParts (map decimal ns)
  numbers : list_all is_number (map decimal ns) ≡ true
  values : map (digits_value 10) (map decimal ns) ≡ ns

are_numbers : (ns : List ℕ) → list_all (λ n. nat_lt n 1_000_000_000) ns ≡ true → AreNumbers ns
are_numbers [] h = record { parts = tt; numbers = refl; values = refl }
are_numbers (n ∷ ns) h =
    let k = and_parts (nat_lt n 1_000_000_000) (list_all (λ n. nat_lt n 1_000_000_000) ns) h in
    let small = ltb-true n 1_000_000_000 k.0 in
    let rest = are_numbers ns k.1 in
    record {
      parts = (number_part n small, rest.parts);
      numbers = rw (number_is_number n small) rest.numbers;
      values = rw (number_value n small) (ap (λ ms. n ∷ ms) rest.values);
    }

pub version_reads : (ns : List ℕ) → IsVersion ns → read_version (version_text ns) ≡ Ok ns
version_reads [] h = absurd (omega (arith, h.some))
version_reads (n ∷ ns) h =
    let are = are_numbers (n ∷ ns) h.small in
    let split = parts_joined (decimal n) (map decimal ns) are.parts in
    let few : nat_le (length (map decimal (n ∷ ns))) 8 ≡ true = le-leb (length (map decimal (n ∷ ns))) 8 (rw (length-map (n ∷ ns) decimal) h.few) in
    rw split (rw are.numbers (rw few (rw (parts_short (map decimal (n ∷ ns)) are.parts) (ap Ok are.values))))
