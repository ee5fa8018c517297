-- One more row in a loop over rows, and among those that show the places of the rows of sources.
use Rattle.std.proofs.Common.{◌≡◌, ℕ, suc, ◌+◌, ◌<◌, Bool, true, false, ◌&&◌, List, ◌∷◌, length, get_or, drop, unwrap_or, Option, Some, sym, ap, ◌∙◌, add-one, drop-cons}
use Rattle.xa_store.proofs.Common.{Row, SourcePlace}
use Rattle.xa_store.specs.keeping.Check.{are_consecutive, follows, is_next, place_told}

-- the rest of a list, from one that it has
pub rest_from : {X : Type 0} (xs : List X) (i : ℕ) (x : X) → x ≡ get_or xs i x → i < length xs → drop i xs ≡ x ∷ drop (i + 1) xs
rest_from xs i x is lt = rw add-one (drop-cons xs i x lt ∙ ap (λ y. y ∷ drop (suc i) xs) (sym is))

module _ (last : SourcePlace) (rows : List Row) (i : ℕ) (row : Row) (lt : i < length rows) (is : row ≡ get_or rows i row) where
  abbrev as_told : Option SourcePlace → Bool
  as_told told = is_next last told && are_consecutive (unwrap_or told last) (drop (i + 1) rows)

  counts_from : are_consecutive last (drop i rows) ≡ as_told (place_told row)
  counts_from = ap (are_consecutive last) (rest_from rows i row is lt)

  some_told : (place : SourcePlace) → place_told row ≡ Some place → are_consecutive last (drop i rows) ≡ (follows last place && are_consecutive place (drop (i + 1) rows))
  some_told place told = counts_from ∙ ap as_told told

  pub goes_on : (place : SourcePlace) → place_told row ≡ Some place → follows last place ≡ true → are_consecutive place (drop (i + 1) rows) ≡ are_consecutive last (drop i rows)
  goes_on place told on = sym (some_told place told ∙ ap (λ b. b && are_consecutive place (drop (i + 1) rows)) on)

  pub stops : (place : SourcePlace) → place_told row ≡ Some place → follows last place ≡ false → are_consecutive last (drop i rows) ≡ false
  stops place told off = some_told place told ∙ ap (λ b. b && are_consecutive place (drop (i + 1) rows)) off
