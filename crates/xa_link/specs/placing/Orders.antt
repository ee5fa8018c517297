-- The orders in which documents are looked for, each kept for all patterns of its shape.
use Rattle.std.specs.Prelude.{◌≡◌, ℕ, ◌+◌, ◌*◌, ◌==◌, if◌then◌else◌, List, [], ◌∷◌, slice_get}
use Rattle.std.specs.Prelude.{Option, Some, None}
use Rattle.xa_policy.specs.declared.pattern.PatternPart.{PatternPart}
use Rattle.xa_policy.specs.declared.pattern.PatternPart.TheVariants.{Number, AnyNumber, AnyNumbers}
use Rattle.xa_link.specs.declared.active.Active.{Active}
use Rattle.xa_link.specs.placing.Order.{IsOrderIfAny}

-- the slot of the parts of a pattern, by their shape: patterns that have numbers at the same places, `*` at the same
-- and `+` at the same have one slot
abbrev pub slot : List PatternPart → ℕ
slot [] = 2
slot (Number m ∷ parts) = 2 * slot parts
slot (AnyNumber ∷ parts) = 2 * slot parts + 1
slot (AnyNumbers ∷ parts) = 3

-- the slot of a pattern; the first one, if there is none
abbrev pub slot_by : Option (List PatternPart) → ℕ
slot_by None = 0
slot_by (Some pattern) = slot pattern

-- more than the slots of patterns of as many parts
abbrev pub room_of : List PatternPart → ℕ
room_of [] = 4
room_of (part ∷ parts) = 2 * room_of parts

-- the order in a slot; an empty one past the last
abbrev pub order_or_empty : Option (List ℕ) → List ℕ
order_or_empty (Some order) = order
order_or_empty None = []

abbrev pub order_in : List (List ℕ) → ℕ → List ℕ
order_in orders slot = order_or_empty (slice_get orders slot)

-- each pattern's slot has an order for it, or none yet
abbrev pub AreOrders : List Active → List (List ℕ) → Type 0
AreOrders active orders =
    (pattern : Option (List PatternPart)) → IsOrderIfAny pattern active (order_in orders (slot_by pattern))

-- the order in each slot has stayed
abbrev pub SameOrders : List (List ℕ) → List (List ℕ) → Type 0
SameOrders orders after = (slot : ℕ) → order_in after slot ≡ order_in orders slot

-- the order in each slot has stayed, but in this one it is another
abbrev pub HasOrder : List (List ℕ) → ℕ → List ℕ → List (List ℕ) → Type 0
HasOrder orders slot order after =
    (other : ℕ) → order_in after other ≡ (if other == slot then order else order_in orders other)
