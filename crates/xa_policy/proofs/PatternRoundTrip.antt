-- What is read is a pattern, and the text of a pattern reads as the pattern again.
use Rattle.std.proofs.Common.{◌≡◌, ℕ, Bool, true, false, List, [], ◌∷◌, length, map, Ok, zero, suc, refl, ap, ◌∙◌, arith}
use Rattle.std.specs.Prelude.{◌||◌, ◌==◌, nat_le, nat_lt, decimal}
use Rattle.std.specs.List.{list_all, All}
use Rattle.std.specs.Str.Parse.{digits_value}
use Rattle.std.proofs.lemmas.Bool.{and_parts}
use Rattle.std.proofs.lemmas.List.{length-map}
use borrow.Author.Tests.{le-leb, leb-true, ltb-true, lt-ltb}
use Rattle.xa_value.specs.Digits.{is_number}
use Rattle.xa_policy.specs.declared.pattern.PatternPart.{PatternPart}
use Rattle.xa_policy.specs.declared.pattern.PatternPart.TheVariants.{Number, AnyNumber, AnyNumbers}
use Rattle.xa_policy.specs.Version.{parts, is_short}
use Rattle.xa_policy.specs.Pattern.{is_star, is_plus, is_pattern, part_of, read_pattern, part_text, pattern_text, is_single, are_parts, IsPattern}
use Rattle.xa_policy.proofs.PartLemmas.{small_number, few_parts, short_parts}
use Rattle.xa_policy.proofs.PatternLemmas.{number_no_star, number_no_plus, or_more}
use Rattle.xa_policy.proofs.RoundTripLemmas.{IsPart, AllParts, parts_joined, parts_short, number_part, number_is_number, number_value}

-- ---- what is read

first : (a b : Bool) → (a || b) ≡ true → b ≡ false → a ≡ true
first true b h e = refl
first false b h e = absurd (cc)

single_read : (p : List ℕ) → (is_number p || is_star p) ≡ true → nat_le (length p) 9 ≡ true → is_single (part_of p) ≡ true
single_read p h short = by_star (is_star p) refl
  where
    by_star : (b : Bool) → is_star p ≡ b → is_single (part_of p) ≡ true
    by_star true e = rw e refl
    by_star false e =
        let number : is_number p ≡ true = first (is_number p) (is_star p) h e in
        rw (e, number_no_plus p number) (lt-ltb (digits_value 10 p) 1_000_000_000 (small_number p number (leb-true (length p) 9 short)))

last_read : (p : List ℕ) → (is_number p || is_star p || is_plus p) ≡ true → nat_le (length p) 9 ≡ true → are_parts (part_of p ∷ []) ≡ true
last_read p h short = by_single (is_number p || is_star p) refl
  where
    alone : (part : PatternPart) → is_single part ≡ true → are_parts (part ∷ []) ≡ true
    alone (Number n) e = e
    alone AnyNumber e = refl
    alone AnyNumbers e = refl

    plus : (a b c : Bool) → (a || b) ≡ false → (a || b || c) ≡ true → (b ≡ false) × (c ≡ true)
    plus true b c k h = absurd (cc)
    plus false true c k h = absurd (cc)
    plus false false true k h = (refl, refl)
    plus false false false k h = absurd (cc)

    by_single : (b : Bool) → (is_number p || is_star p) ≡ b → are_parts (part_of p ∷ []) ≡ true
    by_single true e = alone (part_of p) (single_read p e short)
    by_single false e = let k = plus (is_number p) (is_star p) (is_plus p) e h in rw (k.0, k.1) refl

-- a part of its own before others
more : (part next : PatternPart) (rest : List PatternPart) → is_single part ≡ true → are_parts (next ∷ rest) ≡ true → are_parts (part ∷ next ∷ rest) ≡ true
more (Number n) next rest e h = rw e h
more AnyNumber next rest e h = h
more AnyNumbers next rest e h = absurd (cc)

parts_read : (ps : List (List ℕ)) → is_pattern ps ≡ true → list_all (λ p. nat_le (length p) 9) ps ≡ true → are_parts (map part_of ps) ≡ true
parts_read [] h short = absurd (cc)
parts_read (p ∷ []) h short = last_read p h (and_parts (nat_le (length p) 9) true short).0
parts_read (p ∷ q ∷ ps) h short =
    let k = and_parts (is_number p || is_star p) (is_pattern (q ∷ ps)) h in
    let s = and_parts (nat_le (length p) 9) (list_all (λ p. nat_le (length p) 9) (q ∷ ps)) short in
    more (part_of p) (part_of q) (map part_of ps) (single_read p k.0 s.0) (parts_read (q ∷ ps) k.1 s.1)

pub is_pattern_of : (text : List ℕ) → is_pattern (parts text) ≡ true → is_short (parts text) ≡ true → IsPattern (map part_of (parts text))
is_pattern_of text h k = record {
  few = rw (length-map (parts text) part_of) (few_parts (parts text) k);
  shape = parts_read (parts text) h (short_parts (parts text) k);
}

-- ---- what is written

-- a part's text, and what it reads as
record IsWritten (part : PatternPart) : Type 0 where
  whole : IsPart (part_text part)
  value : part_of (part_text part) ≡ part

one_char : (c : ℕ) → (c == 46) ≡ false → All (λ b. (b == 46) ≡ false) (c ∷ [])
one_char c h zero d there = h
one_char c h (suc k) d there = absurd (omega arith)

single_written : (part : PatternPart) → is_single part ≡ true → IsWritten part × ((is_number (part_text part) || is_star (part_text part)) ≡ true)
single_written (Number n) h =
    let small = ltb-true n 1_000_000_000 h in
    let number = number_is_number n small in (
      record { whole = number_part n small; value = rw (number_no_star (decimal n) number, number_no_plus (decimal n) number) (ap Number (number_value n small)) },
      rw number refl,
    )
single_written AnyNumber h = (record { whole = record { dotless = one_char 42 refl; short = refl }; value = refl }, refl)
single_written AnyNumbers h = absurd (cc)

-- the texts of parts, and what they read as
record AreWritten (ps : List PatternPart) : Type 0 where
  parts : AllParts (map part_text ps)
  shape : is_pattern (map part_text ps) ≡ true
  values : map part_of (map part_text ps) ≡ ps

of_single : (part : PatternPart) → is_single part ≡ true → AreWritten (part ∷ [])
of_single part h =
    let k = single_written part h in
    record {
      parts = (k.0.whole, tt);
      shape = or_more (is_number (part_text part)) (is_star (part_text part)) (is_plus (part_text part)) k.1;
      values = ap (λ p. p ∷ []) k.0.value;
    }

last_written : (part : PatternPart) → are_parts (part ∷ []) ≡ true → AreWritten (part ∷ [])
last_written (Number n) h = of_single (Number n) h
last_written AnyNumber h = of_single AnyNumber refl
last_written AnyNumbers h = record { parts = (record { dotless = one_char 43 refl; short = refl }, tt); shape = refl; values = refl }

first_of_more : (part next : PatternPart) (rest : List PatternPart) → are_parts (part ∷ next ∷ rest) ≡ true → (is_single part ≡ true) × (are_parts (next ∷ rest) ≡ true)
first_of_more (Number n) next rest h = let k = and_parts (nat_lt n 1_000_000_000) (are_parts (next ∷ rest)) h in (k.0, k.1)
first_of_more AnyNumber next rest h = (refl, h)
first_of_more AnyNumbers next rest h = absurd (cc)

are_written : (ps : List PatternPart) → are_parts ps ≡ true → AreWritten ps
are_written [] h = absurd (cc)
are_written (part ∷ []) h = last_written part h
are_written (part ∷ next ∷ rest) h =
    let k = first_of_more part next rest h in
    let one = single_written part k.0 in
    let others = are_written (next ∷ rest) k.1 in
    record {
      parts = (one.0.whole, others.parts);
      shape = rw one.1 others.shape;
      values = ap (λ p. p ∷ map part_of (map part_text (next ∷ rest))) one.0.value ∙ ap (λ ps. part ∷ ps) others.values;
    }

pub pattern_reads : (ps : List PatternPart) → IsPattern ps → read_pattern (pattern_text ps) ≡ Ok ps
pattern_reads [] h = let e : false ≡ true = h.shape in absurd (cc)
pattern_reads (p ∷ ps) h =
    let are = are_written (p ∷ ps) h.shape in
    let split = parts_joined (part_text p) (map part_text ps) are.parts in
    let few : nat_le (length (map part_text (p ∷ ps))) 8 ≡ true = le-leb (length (map part_text (p ∷ ps))) 8 (rw (length-map (p ∷ ps) part_text) h.few) in
    rw split (rw are.shape (rw few (rw (parts_short (map part_text (p ∷ ps)) are.parts) (ap Ok are.values))))
