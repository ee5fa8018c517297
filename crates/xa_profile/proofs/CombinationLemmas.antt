-- How many combinations there are.
use Rattle.std.proofs.Common.{◌≡◌, ℕ, ◌+◌, ◌*◌, ◌<◌, Bool, true, false, cond, List, [], ◌∷◌, ◌++◌, length, get_or, drop, map, refl, ap, sym, ◌∙◌, arith, length-append}
use Rattle.std.specs.Prelude.{Result, Ok, Err, nat_lt}
use Rattle.std.specs.List.{list_all, fold}
use Rattle.std.proofs.Math.Nat.{suc-mul, zero-mul, le-mul_of_pos_right}
use Rattle.std.proofs.lemmas.Bool.{and_parts, ltb-true, lt-ltb}
use Rattle.std.proofs.lemmas.List.{length-map}
use Rattle.xa_bag.proofs.SetLemmas.{walked}
use Rattle.xa_profile.specs.declared.individuals.TooMany.{TooMany}
use Rattle.xa_profile.specs.Individuals.{with_each, at_most_64}

-- all lists have an item
abbrev pub are_some : List (List ℕ) → Bool
are_some lists = list_all (λ places. nat_lt 0 (length places)) lists

pub length_with_each : (cs : List (List ℕ)) (ps : List ℕ) → length (with_each cs ps) ≡ length cs * length ps
length_with_each [] ps = sym (zero-mul (length ps))
length_with_each (c ∷ cs) ps =
    let e = length_with_each cs ps in
    let first : length (map (λ place. c ++ place ∷ []) ps) ≡ length ps = length-map ps (λ place. c ++ place ∷ []) in
    let both = length-append (map (λ place. c ++ place ∷ []) ps) (with_each cs ps) in
    let product = suc-mul (length cs) (length ps) in
    omega (arith, e, first, both, product)

-- combinations with further places are no fewer
times_some : (m n : ℕ) → 64 < m → 0 < n → 64 < m * n
times_some m n many some = let more = le-mul_of_pos_right m some in omega (arith, many, more)

pub no_fewer : (lists cs : List (List ℕ)) → are_some lists ≡ true → 64 < length cs → 64 < length (fold with_each cs lists)
no_fewer [] cs some many = many
no_fewer (ps ∷ lists) cs some many =
    let h = and_parts (nat_lt 0 (length ps)) (are_some lists) some in
    let long = length_with_each cs ps in
    let more = times_some (length cs) (length ps) many (ltb-true 0 (length ps) h.0) in
    no_fewer lists (with_each cs ps) h.1 (omega (arith, long, more))

-- as many of one list as of another
pub few_of_few : {X Y : Type 0} (f : X → Y) (xs : List X) → nat_lt 64 (length xs) ≡ false → at_most_64 (map f xs) ≡ Ok (map f xs)
few_of_few f xs few = rw (length-map xs f, few) refl

pub many_of_many : {X Y : Type 0} (f : X → Y) (xs : List X) → nat_lt 64 (length xs) ≡ true → at_most_64 (map f xs) ≡ Err (record {})
many_of_many f xs many = rw (length-map xs f, many) refl

pub combined_few : {X Y : Type 0} (f : X → Y) (xs ys : List X) → at_most_64 xs ≡ Ok ys → at_most_64 (map f xs) ≡ Ok (map f ys)
combined_few {X} f xs ys e = by_test (nat_lt 64 (length xs)) refl e where
  by_test : (b : Bool) → nat_lt 64 (length xs) ≡ b → cond {A = Result (List X) TooMany} b (Err (record {})) (Ok xs) ≡ Ok ys → at_most_64 (map f xs) ≡ Ok (map f ys)
  by_test true few h = absurd (cc)
  by_test false few h = let same : xs ≡ ys = cc in few_of_few f xs few ∙ ap (λ zs. Ok (map f zs)) same

pub combined_many : {X Y : Type 0} (f : X → Y) (xs : List X) (e : TooMany) → at_most_64 xs ≡ Err e → at_most_64 (map f xs) ≡ Err e
combined_many {X} f xs t e = by_test (nat_lt 64 (length xs)) refl e where
  by_test : (b : Bool) → nat_lt 64 (length xs) ≡ b → cond {A = Result (List X) TooMany} b (Err (record {})) (Ok xs) ≡ Err t → at_most_64 (map f xs) ≡ Err t
  by_test true many h = let same : record {} ≡ t = cc in many_of_many f xs many ∙ ap Err same
  by_test false many h = absurd (cc)

-- further places make too many combinations, or few enough
pub many_more : (lists cs : List (List ℕ)) (ps : List ℕ) → are_some lists ≡ true → nat_lt 64 (length cs * length ps) ≡ true
    → at_most_64 (fold with_each (with_each cs ps) lists) ≡ Err (record {})
many_more lists cs ps some many =
    let long = length_with_each cs ps in
    let product = ltb-true 64 (length cs * length ps) many in
    let all = no_fewer lists (with_each cs ps) some (omega (arith, long, product)) in
    rw (lt-ltb 64 (length (fold with_each (with_each cs ps) lists)) all) refl

pub few_more : (cs : List (List ℕ)) (ps : List ℕ) → nat_lt 64 (length cs * length ps) ≡ false → nat_lt 64 (length (with_each cs ps)) ≡ false
few_more cs ps few = ap (nat_lt 64) (length_with_each cs ps) ∙ few

-- the first of the lists that are left
some_left : (lists : List (List ℕ)) (i : ℕ) (ps : List ℕ) → ps ≡ get_or lists i ps → i < length lists → are_some (drop i lists) ≡ true → are_some (drop (i + 1) lists) ≡ true
some_left lists i ps is within some =
    (and_parts (nat_lt 0 (length ps)) (are_some (drop (i + 1) lists)) (ap are_some (sym (walked lists i ps is within)) ∙ some)).1

-- how many combinations there would be
product_of : (cs : List (List ℕ)) (ps : List ℕ) (m n : ℕ) (b : Bool) → m ≡ length cs → n ≡ length ps → nat_lt 64 (m * n) ≡ b → nat_lt 64 (length cs * length ps) ≡ b
product_of cs ps m n b e f test = rw (← e, ← f) test

pub all_too_many : (lists cs : List (List ℕ)) (i : ℕ) (ps : List ℕ) (m n : ℕ) → ps ≡ get_or lists i ps → i < length lists → are_some (drop i lists) ≡ true
    → m ≡ length cs → n ≡ length ps → nat_lt 64 (m * n) ≡ true → at_most_64 (fold with_each cs (drop i lists)) ≡ Err (record {})
all_too_many lists cs i ps m n is within some e f many =
    ap (λ ls. at_most_64 (fold with_each cs ls)) (walked lists i ps is within)
    ∙ many_more (drop (i + 1) lists) cs ps (some_left lists i ps is within some) (product_of cs ps m n true e f many)

pub next_combinations : (lists cs next : List (List ℕ)) (i : ℕ) (ps : List ℕ) (m n : ℕ) → ps ≡ get_or lists i ps → i < length lists → are_some (drop i lists) ≡ true
    → m ≡ length cs → n ≡ length ps → nat_lt 64 (m * n) ≡ false → next ≡ with_each cs ps
    → (fold with_each next (drop (i + 1) lists) ≡ fold with_each cs (drop i lists)) × (are_some (drop (i + 1) lists) ≡ true) × (nat_lt 64 (length next) ≡ false)
next_combinations lists cs next i ps m n is within some e f few all = (
  ap (λ ds. fold with_each ds (drop (i + 1) lists)) all ∙ sym (ap (fold with_each cs) (walked lists i ps is within)),
  some_left lists i ps is within some,
  ap (λ ds. nat_lt 64 (length ds)) all ∙ few_more cs ps (product_of cs ps m n false e f few),
)
