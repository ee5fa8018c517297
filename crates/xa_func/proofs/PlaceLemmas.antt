-- Arguments that fit, by their number and by each place.
use Rattle.std.proofs.Common.{◌≡◌, ℕ, suc, zero, ◌<◌, false, List, [], ◌∷◌, length, refl, sym, ap, arith}
use Rattle.std.specs.Prelude.{slice_get, ◌==◌, Some}
use Rattle.std.proofs.lemmas.Bool.Decides.{nat_tests}
use Rattle.xa_func.specs.declared.signature.Kind.{Kind}
use Rattle.xa_func.specs.declared.signature.Parameters.{Parameters}
use Rattle.xa_func.specs.declared.signature.Parameters.TheVariants.{One, Two, Three, AtLeast, OneAndMore}
use Rattle.xa_func.specs.Signature.{kind_at, Every, Fits, EachInPlace, IsByPlaces}

-- every argument is of the kind where each of them is
every_at : (k : Kind) (ks : List Kind) → Every k ks → (place : ℕ) → place < length ks → Some k ≡ slice_get ks place
every_at k [] every place within = absurd (omega arith)
every_at k (l ∷ ls) every zero within = ap Some (sym every.0)
every_at k (l ∷ ls) every (suc place) within = every_at k ls every.1 place (omega arith)

at_every : (k : Kind) (ks : List Kind) → ((place : ℕ) → place < length ks → Some k ≡ slice_get ks place) → Every k ks
at_every k [] placed = tt
at_every k (l ∷ ls) placed =
    let here : Some k ≡ Some l = placed zero (omega arith) in
    (cc, at_every k ls (λ place within. placed (suc place) (omega arith)))

-- the kinds of a list, and a list of as many that has them
same_places : (ks ls : List Kind) → length ls ≡ length ks → ((place : ℕ) → place < length ls → slice_get ks place ≡ slice_get ls place) → ls ≡ ks
same_places [] [] long placed = refl
same_places [] (l ∷ ls) long placed = absurd (omega arith)
same_places (k ∷ ks) [] long placed = absurd (omega arith)
same_places (k ∷ ks) (l ∷ ls) long placed =
    let here : Some k ≡ Some l = placed zero (omega arith) in
    let rest : ls ≡ ks = same_places ks ls (omega arith) (λ place within. placed (suc place) (omega arith)) in
    cc

-- arguments that fit are in their places
each_in_place : (parameters : Parameters) (ks : List Kind) → Fits parameters ks → EachInPlace parameters ks
each_in_place (One k) ks fits = record { counted = rw fits; placed = λ place within. ap (λ ls. slice_get ls place) (sym fits) }
each_in_place (Two k l) ks fits = record { counted = rw fits; placed = λ place within. ap (λ ls. slice_get ls place) (sym fits) }
each_in_place (Three k l m) ks fits = record { counted = rw fits; placed = λ place within. ap (λ ls. slice_get ls place) (sym fits) }
each_in_place (AtLeast least k) ks fits = record { counted = grind (arith, nat_tests, fits.0); placed = every_at k ks fits.1 }
each_in_place (OneAndMore k l) [] fits = absurd fits
each_in_place (OneAndMore k l) (m ∷ ms) fits = record { counted = grind (arith, nat_tests); placed = placed } where
  placed : (place : ℕ) → place < length (m ∷ ms) → kind_at (OneAndMore k l) place ≡ slice_get (m ∷ ms) place
  placed zero within = ap Some (sym fits.0)
  placed (suc place) within =
      let later : (suc place == 0) ≡ false = grind (arith, nat_tests) in
      rw later (every_at l ms fits.1 place (omega arith))

-- arguments in their places fit
fits_in_place : (parameters : Parameters) (ks : List Kind) → EachInPlace parameters ks → Fits parameters ks
fits_in_place (One k) ks each = same_places (k ∷ []) ks (grind (arith, nat_tests, each.counted)) each.placed
fits_in_place (Two k l) ks each = same_places (k ∷ l ∷ []) ks (grind (arith, nat_tests, each.counted)) each.placed
fits_in_place (Three k l m) ks each = same_places (k ∷ l ∷ m ∷ []) ks (grind (arith, nat_tests, each.counted)) each.placed
fits_in_place (AtLeast least k) ks each = (grind (arith, nat_tests, each.counted), at_every k ks each.placed)
fits_in_place (OneAndMore k l) [] each = absurd (grind (arith, nat_tests, each.counted))
fits_in_place (OneAndMore k l) (m ∷ ms) each = (first, at_every l ms later) where
  first : m ≡ k
  first = let here : Some k ≡ Some m = each.placed zero (omega arith) in cc

  later : (place : ℕ) → place < length ms → Some l ≡ slice_get ms place
  later place within =
      let after : (suc place == 0) ≡ false = grind (arith, nat_tests) in
      let here = each.placed (suc place) (omega arith) in
      rw after at here

pub by_places : (parameters : Parameters) → IsByPlaces parameters
by_places parameters = record { each = each_in_place parameters; whole = fits_in_place parameters }
