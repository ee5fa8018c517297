-- What n-of is, of places that hold booleans.
use Rattle.std.proofs.Common.{◌≡◌, ℕ, suc, zero, ◌<◌, ◌≤◌, Bool, true, false, cond, nat_lt, nat_le, List, [], ◌∷◌, map, length, refl, ap, ◌∙◌, arith}
use Rattle.std.specs.Prelude.{Result, Ok, Err}
use Rattle.std.proofs.lemmas.Bool.Decides.{nat_tests}
use Rattle.xa_value.specs.declared.value.Value.{Value}
use Rattle.xa_value.specs.declared.value.Value.TheVariants as value
use Rattle.xa_value.specs.declared.data_type.DataType.TheVariants as data_type
use Rattle.xa_func.specs.declared.signature.Kind.TheVariants as kind
use Rattle.xa_func.specs.declared.fault.FuncFault.TheVariants.{Position}
use Rattle.xa_func.specs.Signature.{kind_of, Every}
use Rattle.xa_func.specs.Arguments.{booleans}
use Rattle.xa_func.specs.Logic.{n_places, n_among, true_count, given}

-- arguments that are booleans have as many booleans
pub length_given : (vs : List Value) → Every (kind.Value data_type.Boolean) (map kind_of vs) → length (given (booleans vs)) ≡ length vs
length_given [] typed = refl
length_given (value.Boolean b ∷ vs) typed = ap suc (length_given vs typed.1)
length_given (value.String x ∷ vs) typed = cc (typed.0)
length_given (value.Integer x ∷ vs) typed = cc (typed.0)
length_given (value.Date x ∷ vs) typed = cc (typed.0)
length_given (value.Time x ∷ vs) typed = cc (typed.0)
length_given (value.DateTime x ∷ vs) typed = cc (typed.0)
length_given (value.DayTimeDuration x ∷ vs) typed = cc (typed.0)
length_given (value.YearMonthDuration x ∷ vs) typed = cc (typed.0)
length_given (value.AnyUri x ∷ vs) typed = cc (typed.0)
length_given (value.HexBinary x ∷ vs) typed = cc (typed.0)
length_given (value.Base64Binary x ∷ vs) typed = cc (typed.0)

-- n of places of which the first is False, and enough are left
pub n_places_false : {F : Type 0} (n : ℕ) (rs : List (Result Bool F)) → n ≤ length rs → n_places n (Ok false ∷ rs) ≡ n_places n rs
n_places_false zero rs enough = refl
n_places_false (suc n) rs enough = let left : nat_lt (length rs) (suc n) ≡ false = grind (arith, nat_tests) in rw left refl

-- and too few are left
pub n_places_short : {F : Type 0} (n : ℕ) (rs : List (Result Bool F)) → length rs < n → n_places n (Ok false ∷ rs) ≡ Ok false
n_places_short zero rs short = absurd (omega arith)
n_places_short (suc n) rs short = let few : nat_lt (length rs) (suc n) ≡ true = grind (arith, nat_tests) in rw few refl

-- no more booleans are True than there are
true_count-le : (bs : List Bool) → true_count bs ≤ length (given bs)
true_count-le [] = omega arith
true_count-le (true ∷ bs) = let h = true_count-le bs in omega arith
true_count-le (false ∷ bs) = let h = true_count-le bs in omega arith

-- n of booleans: whether this many are True
n_places_given : (n : ℕ) (bs : List Bool) → n_places n (given bs) ≡ Ok (nat_le n (true_count bs))
n_places_given zero bs = let h : nat_le 0 (true_count bs) ≡ true = grind (arith, nat_tests) in rw h refl
n_places_given (suc n) [] = let h : nat_le (suc n) 0 ≡ false = grind (arith, nat_tests) in rw h refl
n_places_given (suc n) (true ∷ bs) =
    let h : nat_le n (true_count bs) ≡ nat_le (suc n) (suc (true_count bs)) = grind (arith, nat_tests) in
    n_places_given n bs ∙ ap Ok h
n_places_given (suc n) (false ∷ bs) = by_case (n_places_given (suc n) bs) (nat_lt (length (given bs)) (suc n)) refl where
  by_case : n_places (suc n) (given bs) ≡ Ok (nat_le (suc n) (true_count bs))
      → (short : Bool) → nat_lt (length (given bs)) (suc n) ≡ short
      → cond short (Ok false) (n_places (suc n) (given bs)) ≡ Ok (nat_le (suc n) (true_count bs))
  by_case rest true e =
      let some = true_count-le bs in
      let few : false ≡ nat_le (suc n) (true_count bs) = grind (arith, nat_tests) in
      ap Ok few
  by_case rest false e = rest

-- n of more places than there are is a fault, and of others as the places decide
pub n_among_short : {F : Type 0} (fault : F) (n : ℕ) (rs : List (Result Bool F)) → length rs < n → n_among fault n rs ≡ Err fault
unfolding n_among
n_among_short fault n rs short = grind (arith, nat_tests)

pub n_among_enough : {F : Type 0} (fault : F) (n : ℕ) (rs : List (Result Bool F)) → n ≤ length rs → n_among fault n rs ≡ n_places n rs
unfolding n_among
n_among_enough fault n rs enough = let few : nat_lt (length rs) n ≡ false = grind (arith, nat_tests) in rw few refl

pub n_among_given : (n : ℕ) (bs : List Bool) → n ≤ length (given bs) → n_among Position n (given bs) ≡ Ok (nat_le n (true_count bs))
n_among_given n bs enough = n_among_enough Position n (given bs) enough ∙ n_places_given n bs
