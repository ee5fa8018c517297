-- The texts of versions and of patterns are ASCII, and so UTF-8.
use Rattle.std.proofs.Common.{◌≡◌, ◌<◌, ℕ, true, List, [], ◌∷◌, map, nat_lt, decimal, codes, is_ok, Ok, sym, ap, true≢false, arith}
use Rattle.xa_store.proofs.Common.{AllByRecursion, join_with_byte, list_all, IsAscii, is_utf8, nat_tests, IsAscii-append, IsUtf8-from_ascii, is_utf8-from_IsUtf8, first_of_both, second_of_both, IsPattern, are_parts, part_text, pattern_text, read_pattern, IsVersion, read_version, version_text, is_pattern, is_version}
use Rattle.std.proofs.lemmas.Fmt.{IsAscii-decimal}
use Rattle.std.proofs.lemmas.Str.Ascii.{IsAscii-nil, IsAscii-cons}
use Rattle.xa_policy.specs.declared.pattern.PatternPart.{PatternPart}
use Rattle.xa_policy.specs.declared.pattern.PatternPart.TheVariants.{Number, AnyNumber, AnyNumbers}
use Rattle.xa_store.proofs.RiseLemmas.{both_true}

joined : (parts : List (List ℕ)) → AllByRecursion IsAscii parts → IsAscii (join_with_byte 46 parts)
joined [] all = IsAscii-nil
joined (p ∷ []) all = all.0
joined (p ∷ q ∷ parts) all = IsAscii-append p (46 ∷ join_with_byte 46 (q ∷ parts)) all.0 (IsAscii-cons 46 (join_with_byte 46 (q ∷ parts)) (omega arith) (joined (q ∷ parts) all.1))

joined_text : (parts : List (List ℕ)) → AllByRecursion IsAscii parts → is_utf8 (join_with_byte 46 parts) ≡ true
joined_text parts all = is_utf8-from_IsUtf8 (join_with_byte 46 parts) (IsUtf8-from_ascii (join_with_byte 46 parts) (joined parts all))

small : (n : ℕ) → nat_lt n 1_000_000_000 ≡ true → IsAscii (decimal n)
small n h = let low : n < 1_000_000_000 = grind (arith, nat_tests) in IsAscii-decimal n (omega (arith, low))

-- ---- versions

numbers_ascii : (ns : List ℕ) → list_all (λ n. nat_lt n 1_000_000_000) ns ≡ true → AllByRecursion IsAscii (map decimal ns)
numbers_ascii [] h = tt
numbers_ascii (n ∷ ns) h = (small n (first_of_both _ _ h), numbers_ascii ns (second_of_both _ _ h))

pub version_texts : (numbers : List ℕ) → IsVersion numbers → read_version (version_text numbers) ≡ Ok numbers → is_version (version_text numbers) ≡ true
version_texts numbers valid reads =
    both_true (is_utf8 (version_text numbers)) (is_ok (read_version (version_text numbers))) (joined_text (map decimal numbers) (numbers_ascii numbers valid.small)) (ap is_ok reads)

-- ---- patterns

star : IsAscii (codes "*")
star = IsAscii-cons 42 [] (omega arith) IsAscii-nil

plus : IsAscii (codes "+")
plus = IsAscii-cons 43 [] (omega arith) IsAscii-nil

parts_ascii : (parts : List PatternPart) → are_parts parts ≡ true → AllByRecursion IsAscii (map part_text parts)
parts_ascii [] h = tt
parts_ascii (Number n ∷ []) h = (small n h, tt)
parts_ascii (AnyNumber ∷ []) h = (star, tt)
parts_ascii (AnyNumbers ∷ []) h = (plus, tt)
parts_ascii (Number n ∷ next ∷ more) h = (small n (first_of_both _ _ h), parts_ascii (next ∷ more) (second_of_both _ _ h))
parts_ascii (AnyNumber ∷ next ∷ more) h = (star, parts_ascii (next ∷ more) h)
parts_ascii (AnyNumbers ∷ next ∷ more) h = absurd (true≢false (sym h))

pub pattern_texts : (parts : List PatternPart) → IsPattern parts → read_pattern (pattern_text parts) ≡ Ok parts → is_pattern (pattern_text parts) ≡ true
pattern_texts parts valid reads =
    both_true (is_utf8 (pattern_text parts)) (is_ok (read_pattern (pattern_text parts))) (joined_text (map part_text parts) (parts_ascii parts valid.shape)) (ap is_ok reads)
