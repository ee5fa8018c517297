-- Matches and targets (XACML 3.0, core, sections 7.6 and 7.7).
use Rattle.std.specs.Prelude.{Bool, true, false, if◌then◌else◌, List, [], ◌∷◌, map, find, unwrap_or, Result, Ok, Err}
use Rattle.std.specs.List.{list_any}
use Rattle.xa_value.specs.declared.value.Value.{Value}
use Rattle.xa_value.specs.declared.value.Value.TheVariants as value
use Rattle.xa_func.specs.Application.{applied}
use Rattle.xa_bag.specs.ValueOrBag.{values_of}
use Rattle.xa_expr.specs.declared.fault.Fault.{Fault}
use Rattle.xa_expr.specs.declared.matching.Matching.{Matching}
use Rattle.xa_expr.specs.declared.matching.Matching.TheVariants as matching
use Rattle.xa_expr.specs.declared.target.AllOf.{AllOf}
use Rattle.xa_expr.specs.declared.target.AnyOf.{AnyOf}
use Rattle.xa_expr.specs.declared.target.Target.{Target}
use Rattle.xa_expr.specs.Evaluation.{Attributes, Outcome, attribute}
use Rattle.xa_expr.specs.Fault.{of_function}
use Rattle.xa_expr.specs.declared.match_.Match.{Match}

-- Match; of a single match the standard says True
abbrev pub is_match : Matching → Bool
is_match matching.Match = true
is_match _ = false

-- No match; of a single match the standard says False
abbrev pub is_no_match : Matching → Bool
is_no_match matching.NoMatch = true
is_no_match _ = false

-- Indeterminate, whatever its fault
abbrev pub is_indeterminate : Matching → Bool
is_indeterminate (matching.Indeterminate fault) = true
is_indeterminate _ = false

-- all values are Match (7.7, AllOf and Target): the first line that fits, Indeterminate being that of the first that is
abbrev pub all_match : List Matching → Matching
all_match values =
    if list_any is_no_match values then matching.NoMatch
    else unwrap_or (find is_indeterminate values) matching.Match

-- some value is Match (7.6; 7.7, AnyOf): the first line that fits, Indeterminate being that of the first that is
abbrev pub some_match : List Matching → Matching
some_match values =
    if list_any is_match values then matching.Match
    else unwrap_or (find is_indeterminate values) matching.NoMatch

-- what the function's result says of a match
abbrev pub matching_of : Result Value Fault → Matching
matching_of (Ok (value.Boolean true)) = matching.Match
matching_of (Ok _) = matching.NoMatch
matching_of (Err fault) = matching.Indeterminate fault

-- what a match's function says of the literal, its first argument, and a value of the bag, its second
abbrev pub answer : Match → Value → Matching
answer q v = matching_of (of_function (applied q.function (q.literal ∷ v ∷ [])))

-- a match on what its designator gives: Indeterminate at a fault, else whether the function gives True for some value
-- of the bag
abbrev pub match_on : Match → Outcome → Matching
match_on q (Err fault) = matching.Indeterminate fault
match_on q (Ok bag) = some_match (map (answer q) (values_of bag))

-- the value of a match (7.6)
abbrev pub match_value : Attributes → Match → Matching
match_value attributes q = match_on q (attribute attributes q.designator)

-- AllOf: all its matches are true
abbrev pub all_of_value : Attributes → AllOf → Matching
all_of_value attributes part = all_match (map (match_value attributes) part.matches)

-- AnyOf: one of its AllOf matches
abbrev pub any_of_value : Attributes → AnyOf → Matching
any_of_value attributes part = some_match (map (all_of_value attributes) part.all_of)

-- Target: all its AnyOf match, or there are none
abbrev pub target_value : Attributes → Target → Matching
target_value attributes target = all_match (map (any_of_value attributes) target.any_of)
