-- Two lists of numbers whose texts are the same, with a comma between one number and the next, are the same.
use Rattle.std.proofs.Common.{◌≡◌, ℕ, suc, ℤ, pos, negsuc, List, [], ◌∷◌, ◌++◌, flat_map, refl, arith, SFits, w64}
use Rattle.xa_store.proofs.Common.{AllByRecursion}
use Rattle.std.specs.Fmt.{decimal, signed_decimal}
use Rattle.std.specs.Str.Parse.{AllDigits}
use Rattle.std.proofs.lemmas.Fmt.{decimal_is_IsNumeral, signed_decimal_injective}
use Rattle.std.proofs.lemmas.Str.Parse.{digit_from_value}

abbrev HasNoComma : List ℕ → Type 0
HasNoComma = AllByRecursion (λ c. c ≡ 44 → ⊥)

digits_plain : (ds : List ℕ) → AllDigits 10 ds → HasNoComma ds
digits_plain [] d = tt
digits_plain (c ∷ cs) d = (λ is. omega (arith, digit_from_value c d.0), digits_plain cs d.1)

number_plain : (n : ℤ) → SFits w64 n → HasNoComma (signed_decimal n)
number_plain (pos n) fits = digits_plain (decimal n) (decimal_is_IsNumeral n (omega (arith, fits.sfits))).0.1
number_plain (negsuc n) fits = (λ is. omega arith, digits_plain (decimal (suc n)) (decimal_is_IsNumeral (suc n) (omega (arith, fits.sfits))).0.1)

-- what follows the first number
abbrev pub later_text : List ℤ → List ℕ
later_text = flat_map (λ n. 44 ∷ signed_decimal n)

split : (a b : List ℕ) (xs ys : List ℤ) → HasNoComma a → HasNoComma b → a ++ later_text xs ≡ b ++ later_text ys → (a ≡ b) × (later_text xs ≡ later_text ys)
split [] [] xs ys p q e = (refl, e)
split [] (c ∷ b) [] ys p q e = absurd cc
split [] (c ∷ b) (x ∷ xs) ys p q e = absurd (q.0 (let e = e in cc))
split (c ∷ a) [] xs [] p q e = absurd cc
split (c ∷ a) [] xs (y ∷ ys) p q e = absurd (p.0 (let e = e in cc))
split (c ∷ a) (d ∷ b) xs ys p q e =
    let first : c ≡ d = cc in
    let rest = split a b xs ys p.1 q.1 (let e = e in cc) in
    (let r = rest.0 in cc, rest.1)

abbrev pub AreShort : List ℤ → Type 0
AreShort = AllByRecursion (λ n. SFits w64 n)

same_later : (xs ys : List ℤ) → AreShort xs → AreShort ys → later_text xs ≡ later_text ys → xs ≡ ys
same_later [] [] p q e = refl
same_later [] (y ∷ ys) p q e = absurd cc
same_later (x ∷ xs) [] p q e = absurd cc
same_later (x ∷ xs) (y ∷ ys) p q e =
    let both = split (signed_decimal x) (signed_decimal y) xs ys (number_plain x p.0) (number_plain y q.0) (let e = e in cc) in
    let first = signed_decimal_injective x y p.0.sfits q.0.sfits both.0 in
    let rest = same_later xs ys p.1 q.1 both.1 in
    cc

-- each list has a first number
pub same_numbers : (x y : ℤ) (xs ys : List ℤ) → AreShort (x ∷ xs) → AreShort (y ∷ ys) → signed_decimal x ++ later_text xs ≡ signed_decimal y ++ later_text ys → x ∷ xs ≡ y ∷ ys
same_numbers x y xs ys p q e =
    let both = split (signed_decimal x) (signed_decimal y) xs ys (number_plain x p.0) (number_plain y q.0) e in
    let first = signed_decimal_injective x y p.0.sfits q.0.sfits both.0 in
    let rest = same_later xs ys p.1 q.1 both.1 in
    cc
