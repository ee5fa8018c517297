-- A look at some values and one at those behind them make that at all of them.
use Rattle.std.proofs.Common.{◌≡◌, Bool, true, false, cond, ◌||◌, List, [], ◌∷◌, ◌++◌, refl, ap, sym, ◌∙◌}
use Rattle.std.specs.List.{list_any}
use Rattle.xa_value.specs.declared.value.Value.{Value}
use Rattle.xa_value.specs.Order.{same}
use Rattle.xa_expr.specs.declared.looked.Looked.{Looked}
use Rattle.xa_expr.specs.declared.looked.Looked.TheVariants.{Nothing, Found, NotFound}
use Rattle.xa_expr.specs.Looked.{joined, looked}

pub joined_nothing : (a : Looked) → joined a Nothing ≡ a
joined_nothing Nothing = refl
joined_nothing Found = refl
joined_nothing NotFound = refl

joined_associates : (a b c : Looked) → joined (joined a b) c ≡ joined a (joined b c)
joined_associates Nothing b c = refl
joined_associates Found b c = refl
joined_associates NotFound Nothing c = refl
joined_associates NotFound Found c = refl
joined_associates NotFound NotFound Nothing = refl
joined_associates NotFound NotFound Found = refl
joined_associates NotFound NotFound NotFound = refl

-- one value, and others behind it
one_more : (sought v : Value) (vs : List Value) → looked sought (v ∷ vs) ≡ joined (looked sought (v ∷ [])) (looked sought vs)
one_more sought v [] = by_case (same sought v) where
  by_case : (b : Bool) → cond (b || false) Found NotFound ≡ joined (cond (b || false) Found NotFound) Nothing
  by_case true = refl
  by_case false = refl
one_more sought v (w ∷ vs) = by_case (same sought v) (list_any (same sought) (w ∷ vs)) where
  by_case : (b c : Bool) → cond (b || c) Found NotFound ≡ joined (cond (b || false) Found NotFound) (cond c Found NotFound)
  by_case true c = refl
  by_case false true = refl
  by_case false false = refl

looked_behind : (sought : Value) (first rest : List Value) → looked sought (first ++ rest) ≡ joined (looked sought first) (looked sought rest)
looked_behind sought [] rest = refl
looked_behind sought (v ∷ first) rest =
    one_more sought v (first ++ rest)
    ∙ ap (λ l. joined (looked sought (v ∷ [])) l) (looked_behind sought first rest)
    ∙ sym (joined_associates (looked sought (v ∷ [])) (looked sought first) (looked sought rest))
    ∙ ap (λ l. joined l (looked sought rest)) (sym (one_more sought v first))

-- and behind what was looked at before
pub joined_behind : (a : Looked) (sought : Value) (first rest : List Value)
    → joined (joined a (looked sought first)) (looked sought rest) ≡ joined a (looked sought (first ++ rest))
joined_behind a sought first rest =
    joined_associates a (looked sought first) (looked sought rest) ∙ ap (λ l. joined a l) (sym (looked_behind sought first rest))
