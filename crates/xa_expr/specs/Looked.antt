-- What a look at the values of a bag for one value comes to (XACML 3.0, core, section 7.6, if the function of a match
-- is an equality).
use Rattle.std.specs.Prelude.{Bool, true, false, if◌then◌else◌, List, [], ◌∷◌}
use Rattle.std.specs.List.{list_any}
use Rattle.xa_value.specs.declared.value.Value.{Value}
use Rattle.xa_value.specs.Order.{same}
use Rattle.xa_expr.specs.declared.fault.Fault.TheVariants.{MissingAttribute}
use Rattle.xa_expr.specs.declared.looked.Looked.{Looked}
use Rattle.xa_expr.specs.declared.looked.Looked.TheVariants.{Nothing, Found, NotFound}
use Rattle.xa_expr.specs.declared.matching.Matching.{Matching}
use Rattle.xa_expr.specs.declared.matching.Matching.TheVariants as matching

-- whether some value is the one that is sought, if there are any
abbrev pub looked : Value → List Value → Looked
looked sought [] = Nothing
looked sought (v ∷ vs) = if list_any (same sought) (v ∷ vs) then Found else NotFound

-- a look at some values, and one at others after them
abbrev pub joined : Looked → Looked → Looked
joined Nothing next = next
joined Found next = Found
joined NotFound Found = Found
joined NotFound next = NotFound

-- what a match by an equality is, by a look for its literal; whether there must be a value
abbrev pub match_by : Bool → Looked → Matching
match_by true Nothing = matching.Indeterminate MissingAttribute
match_by false Nothing = matching.NoMatch
match_by must Found = matching.Match
match_by must NotFound = matching.NoMatch
