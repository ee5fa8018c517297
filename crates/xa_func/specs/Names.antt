-- All functions, and the one that a name names (XACML 3.0, core, appendix A.3).
use Rattle.std.specs.Prelude.{ℕ, List, [], ◌∷◌, ◌++◌, map, flat_map, find, Option}
use Rattle.xa_value.specs.Types.{all_types}
use Rattle.xa_func.specs.declared.func_id.FuncId.{FuncId}
use Rattle.xa_func.specs.declared.func_id.FuncId.TheVariants as function
use Rattle.xa_func.specs.declared.func_id.OrderedType.{OrderedType}
use Rattle.xa_func.specs.declared.func_id.OrderedType.TheVariants as ordered
use Rattle.xa_func.specs.declared.func_id.TextType.TheVariants as text
use Rattle.xa_func.specs.declared.func_id.PrintedType.{PrintedType}
use Rattle.xa_func.specs.declared.func_id.PrintedType.TheVariants as printed
use Rattle.xa_func.specs.declared.func_id.Arithmetic.TheVariants as arithmetic
use Rattle.xa_func.specs.declared.func_id.Comparison.TheVariants as comparison
use Rattle.xa_func.specs.declared.func_id.Logic.TheVariants as logic
use Rattle.xa_func.specs.declared.func_id.TextFunction.TheVariants as text_function
use Rattle.xa_func.specs.declared.func_id.TextPart.TheVariants as part
use Rattle.xa_func.specs.declared.func_id.Moved.TheVariants as moved
use Rattle.xa_func.specs.declared.func_id.Direction.TheVariants as direction
use Rattle.xa_func.specs.declared.func_id.BagFunction.TheVariants as bag
use Rattle.xa_func.specs.declared.func_id.HigherOrder.TheVariants as higher
use Rattle.xa_func.specs.Table.{names}

-- the types that have an order
abbrev pub ordered_types : List OrderedType
ordered_types = ordered.Integer ∷ ordered.String ∷ ordered.Time ∷ ordered.Date ∷ ordered.DateTime ∷ []

-- the types that are printed as a string
abbrev pub printed_types : List PrintedType
printed_types =
    printed.Boolean ∷ printed.Integer ∷ printed.Date ∷ printed.Time ∷ printed.DateTime ∷ printed.AnyUri
    ∷ printed.DayTimeDuration ∷ printed.YearMonthDuration ∷ []

-- all functions, a line or two for each family
abbrev pub all_functions : List FuncId
all_functions =
    map function.Equal all_types ++ flat_map (λ c. map (function.Compare c) ordered_types)
    (comparison.GreaterThan ∷ comparison.GreaterThanOrEqual ∷ comparison.LessThan ∷ comparison.LessThanOrEqual ∷ [])
    ++ map function.Arithmetic
    (arithmetic.Add ∷ arithmetic.Subtract ∷ arithmetic.Multiply ∷ arithmetic.Divide ∷ arithmetic.Mod ∷ [])
    ++ function.IntegerAbs
    ∷ map function.Logic (logic.Or ∷ logic.And ∷ logic.NOf ∷ logic.Not ∷ [])
    ++ map function.Text (text_function.NormalizeSpace ∷ text_function.Concatenate ∷ text_function.Substring ∷ [])
    ++ flat_map (λ p. map (function.Part p) (text.String ∷ text.AnyUri ∷ []))
    (part.StartsWith ∷ part.EndsWith ∷ part.Contains ∷ [])
    ++ map function.StringFrom printed_types ++ map function.FromString printed_types
    ++ flat_map (λ m. map (function.Move m) (direction.Add ∷ direction.Subtract ∷ []))
    (moved.DateTimeByDayTime ∷ moved.DateTimeByYearMonth ∷ moved.DateByYearMonth ∷ [])
    ++ function.TimeInRange
    ∷ flat_map (λ f. map (function.Bag f) all_types) (bag.OneAndOnly ∷ bag.BagSize ∷ bag.IsIn ∷ bag.Bag
    ∷ bag.Intersection ∷ bag.Union ∷ bag.AtLeastOneMemberOf ∷ bag.Subset ∷ bag.SetEquals ∷ [])
    ++ map function.HigherOrder
    (higher.AnyOf ∷ higher.AllOf ∷ higher.AnyOfAny ∷ higher.Map ∷ higher.AllOfAny ∷ higher.AllOfAll ∷ [])

-- the function that a name names; a name names one at most, so the order of the list is of no account
unfoldable pub function_named : List ℕ → Option FuncId
function_named name = find (names name) all_functions
