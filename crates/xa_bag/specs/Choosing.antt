-- Choices of a value for each argument, one after another, the last argument fastest: what the code goes by when it
-- takes the next of them. A choice is held as the values chosen, and for each the place behind it among the values of
-- its argument.
use Rattle.std.specs.Prelude.{◌≡◌, ℕ, suc, Bool, true, false, List, [], ◌∷◌, ◌++◌, map, flat_map, length, drop}
use Rattle.xa_value.specs.declared.value.Value.{Value}
use Rattle.xa_value.specs.Order.{type_of}
use Rattle.xa_bag.specs.declared.value_or_bag.ValueOrBag.{ValueOrBag}
use Rattle.xa_bag.specs.HigherOrder.{choices}
use Rattle.xa_bag.specs.ValueOrBag.{values_of, type_of_each}

-- the choices that take the first argument's values from a place on
abbrev pub choices_from : ℕ → List ValueOrBag → List (List Value)
choices_from place [] = []
choices_from place (argument ∷ arguments) =
    flat_map (λ v. map (λ vs. v ∷ vs) (choices arguments)) (drop place (values_of argument))

-- no choices, whatever the arguments
abbrev pub no_choices : List ValueOrBag → List (List Value)
no_choices arguments = []

-- the choices that are left when these values are chosen: with them all those that are left of the further arguments,
-- then, from the last of them to the first, those that take a later value of its argument
abbrev pub left : (List ValueOrBag → List (List Value)) → List Value → List ℕ → List ValueOrBag → List (List Value)
left further [] places arguments = further arguments
left further (v ∷ vs) [] arguments = []
left further (v ∷ vs) (place ∷ places) [] = []
left further (v ∷ vs) (place ∷ places) (argument ∷ arguments) =
    map (λ ws. v ∷ ws) (left further vs places arguments) ++ choices_from place (argument ∷ arguments)

-- each of the values is of the type of its argument, from the first on
abbrev pub AreChosen : List Value → List ℕ → List ValueOrBag → Type 0
AreChosen [] [] arguments = Unit {0}
AreChosen [] (place ∷ places) arguments = ⊥
AreChosen (v ∷ vs) [] arguments = ⊥
AreChosen (v ∷ vs) (place ∷ places) [] = ⊥
AreChosen (v ∷ vs) (place ∷ places) (argument ∷ arguments) =
    (type_of v ≡ type_of_each argument) × AreChosen vs places arguments

-- `AreChosen`, and there is one value for each argument
abbrev pub AreAllChosen : List Value → List ℕ → List ValueOrBag → Type 0
AreAllChosen vs places arguments = AreChosen vs places arguments × (length vs ≡ length arguments)

-- the choices from that of the values on, if one was found
abbrev pub from_found : Bool → List Value → List ℕ → List ValueOrBag → List (List Value)
from_found true vs places arguments = vs ∷ left no_choices vs places arguments
from_found false vs places arguments = []

-- the first of these choices was found, or there is none
abbrev pub Finds : List (List Value) → Bool → List Value → List ℕ → List ValueOrBag → Type 0
Finds whole found vs places arguments =
    (whole ≡ from_found found vs places arguments) × (found ≡ true → AreAllChosen vs places arguments)

-- a value of the next argument was chosen beside the values `vs`, that at the place, and nothing is lost of what is
-- left; or the argument has none there, and nothing changes
abbrev pub Chooses : ℕ → List ValueOrBag → List Value → List ℕ → Bool → List Value → List ℕ → Type 0
Chooses place arguments vs places true ws ends =
    AreChosen ws ends arguments × (length ws ≡ suc (length vs))
    × (left (choices_from place) vs places arguments ≡ left choices ws ends arguments)
    × (place ≡ 0 → left choices vs places arguments ≡ left choices ws ends arguments)
Chooses place arguments vs places false ws ends =
    (ws ≡ vs) × (ends ≡ places)
    × (left (choices_from place) vs places arguments ≡ left no_choices vs places arguments)
    × (place ≡ 0 → left choices vs places arguments ≡ [])
