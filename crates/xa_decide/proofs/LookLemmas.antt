-- A look at the values of the request settles whether it goes on with those that are not in the request; and a look at items, one after another.
use Rattle.std.proofs.Common.{◌≡◌, ℕ, ◌+◌, ◌<◌, Bool, true, false, cond, List, [], ◌∷◌, ◌++◌, map, drop, length, get_or, refl, ap, sym, ◌∙◌, add-one, drop-cons}
use Rattle.std.specs.Prelude.{filter, Some, None, slice_get}
use Rattle.std.specs.List.{cons_option, filter_map, flat_map, list_any}
use Rattle.xa_value.specs.declared.value.Value.{Value}
use Rattle.xa_value.specs.Order.{same}
use Rattle.xa_bag.proofs.SetLemmas as list
use Rattle.xa_expr.specs.declared.looked.Looked.{Looked}
use Rattle.xa_expr.specs.declared.looked.Looked.TheVariants.{Nothing, Found, NotFound}
use Rattle.xa_expr.specs.Looked.{joined, looked}
use Rattle.xa_expr.proofs.LookedLemmas.{joined_behind}
use Rattle.xa_decide.specs.Context.{or_else}

-- what the looks come to, at the values of the request and at the others
abbrev pub or_look : Looked → Looked → Looked
or_look Nothing outside = outside
or_look Found outside = Found
or_look NotFound outside = NotFound

pub looked_or_outside : (sought : Value) (own others : List Value) → looked sought (or_else own others) ≡ or_look (looked sought own) (looked sought others)
looked_or_outside sought [] others = refl
looked_or_outside sought (v ∷ own) others = by_case (list_any (same sought) (v ∷ own)) where
  by_case : (b : Bool) → cond b Found NotFound ≡ or_look (cond b Found NotFound) (looked sought others)
  by_case true = refl
  by_case false = refl

-- ---- the items at places, and the values that each gives

-- those of the items that pass
pub passed : {X : Type 0} (passes : X → Bool) (values : X → List Value) (x : X) (xs : List X)
    → flat_map values (filter passes (x ∷ xs)) ≡ cond (passes x) (values x) [] ++ flat_map values (filter passes xs)
passed passes values x xs = by_case (passes x) where
  by_case : (b : Bool) → flat_map values (cond b (x ∷ filter passes xs) (filter passes xs)) ≡ cond b (values x) [] ++ flat_map values (filter passes xs)
  by_case true = refl
  by_case false = refl

-- the one of each item that passes
pub passed_one : {X : Type 0} (passes : X → Bool) (value : X → Value) (x : X) (xs : List X)
    → map value (filter passes (x ∷ xs)) ≡ cond (passes x) (value x ∷ []) [] ++ map value (filter passes xs)
passed_one passes value x xs = by_case (passes x) where
  by_case : (b : Bool) → map value (cond b (x ∷ filter passes xs) (filter passes xs)) ≡ cond b (value x ∷ []) [] ++ map value (filter passes xs)
  by_case true = refl
  by_case false = refl

walked : (places : List ℕ) (i : ℕ) → i < length places → drop i places ≡ get_or places i 0 ∷ drop (i + 1) places
walked places i below = rw add-one (drop-cons places i 0 below)

module _ {X : Type 0} (gives : X → List Value) (all : List X → List Value) (each : (x : X) (xs : List X) → all (x ∷ xs) ≡ gives x ++ all xs)
    (sought : Value) (items : List X) where
  -- the look so far, and one at the values of the items at the places
  abbrev pub look_on : Looked → List ℕ → Looked
  look_on so_far places = joined so_far (looked sought (all (filter_map (slice_get items) places)))

  one_item : (so_far : Looked) (place : ℕ) (rest : List ℕ) (item : X) → Some item ≡ slice_get items place
      → look_on (joined so_far (looked sought (gives item))) rest ≡ look_on so_far (place ∷ rest)
  one_item so_far place rest item got =
      joined_behind so_far sought (gives item) (all (filter_map (slice_get items) rest))
      ∙ ap (λ vs. joined so_far (looked sought vs)) (sym (each item (filter_map (slice_get items) rest)))
      ∙ ap (λ o. joined so_far (looked sought (all (cons_option o (filter_map (slice_get items) rest))))) got

  -- the item at the next place is looked at
  pub item_looked_at : (so_far found next : Looked) (places : List ℕ) (i : ℕ) (item : X) (whole : Looked) → i < length places
      → Some item ≡ slice_get items (get_or places i 0) → found ≡ looked sought (gives item) → next ≡ joined so_far found
      → look_on so_far (drop i places) ≡ whole → look_on next (drop (i + 1) places) ≡ whole
  item_looked_at so_far found next places i item whole below got here is before =
      ap (λ l. look_on l (drop (i + 1) places)) (is ∙ ap (λ l. joined so_far l) here)
      ∙ one_item so_far (get_or places i 0) (drop (i + 1) places) item got
      ∙ ap (λ ps. look_on so_far ps) (sym (walked places i below)) ∙ before

  -- there is none at the next place
  pub nothing_looked_at : (so_far next : Looked) (places : List ℕ) (i : ℕ) (whole : Looked) → i < length places
      → None ≡ slice_get items (get_or places i 0) → next ≡ so_far
      → look_on so_far (drop i places) ≡ whole → look_on next (drop (i + 1) places) ≡ whole
  nothing_looked_at so_far next places i whole below got is before =
      ap (λ l. look_on l (drop (i + 1) places)) is
      ∙ ap (λ o. joined so_far (looked sought (all (cons_option o (filter_map (slice_get items) (drop (i + 1) places)))))) got
      ∙ ap (λ ps. look_on so_far ps) (sym (walked places i below)) ∙ before

  -- the look so far, and one at the values of the items from one on
  abbrev pub look_from : Looked → ℕ → Looked
  look_from so_far i = joined so_far (looked sought (all (drop i items)))

  -- the next item is looked at
  pub next_looked_at : (so_far found next : Looked) (i : ℕ) (item : X) (whole : Looked) → i < length items
      → item ≡ get_or items i item → found ≡ looked sought (gives item) → next ≡ joined so_far found
      → look_from so_far i ≡ whole → look_from next (i + 1) ≡ whole
  next_looked_at so_far found next i item whole below at here is before =
      ap (λ l. look_from l (i + 1)) (is ∙ ap (λ l. joined so_far l) here)
      ∙ joined_behind so_far sought (gives item) (all (drop (i + 1) items))
      ∙ ap (λ vs. joined so_far (looked sought vs)) (sym (each item (drop (i + 1) items)))
      ∙ ap (λ xs. joined so_far (looked sought (all xs))) (sym (list.walked items i item at below)) ∙ before
