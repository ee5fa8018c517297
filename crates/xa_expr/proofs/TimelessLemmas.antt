-- What asks for no attribute of the clock, part by part.
use Rattle.std.proofs.Common.{◌≡◌, refl, Bool, true, false, ◌&&◌, List, [], ◌∷◌, ◌++◌}
use Rattle.std.specs.Prelude.{not}
use Rattle.std.proofs.lemmas.List.Folds.{list_all-append}
use Rattle.xa_expr.specs.declared.designator.Designator.{Designator}
use Rattle.xa_expr.specs.Designators.{AgreeOn}
use Rattle.xa_expr.specs.Evaluation.{Attributes}
use Rattle.xa_expr.specs.Timeless.{SameButForTheClock, is_timeless, names_the_clock}

-- of two lists of designators
pub timeless_both : (ds es : List Designator) → is_timeless (ds ++ es) ≡ (is_timeless ds && is_timeless es)
timeless_both ds es = list_all-append (λ d. not (names_the_clock d)) ds es

-- sources that differ in the clock's attributes alone agree on designators that name none
pub timeless_agree : (ds : List Designator) (a b : Attributes) → SameButForTheClock a b → is_timeless ds ≡ true → AgreeOn ds a b
timeless_agree [] a b same timeless = tt
timeless_agree (d ∷ ds) a b same timeless = by_case (names_the_clock d) refl timeless (timeless_agree ds a b same) where
  by_case : (clock : Bool) → names_the_clock d ≡ clock → (not clock && is_timeless ds) ≡ true → (is_timeless ds ≡ true → AgreeOn ds a b) → (a d ≡ b d) × AgreeOn ds a b
  by_case true is both rest = cc
  by_case false is both rest = (same d is, rest both)
