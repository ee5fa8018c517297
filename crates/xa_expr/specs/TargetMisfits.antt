-- When a target is looked at, no wrong type is met: the function of each match is given what it takes, and gives a
-- boolean for it (XACML 3.0, core, sections 5.9, 7.3.5 and 7.6). The definition of a match's answer is total, so it
-- says No match of a value that is no boolean (`matching_of` of `specs/Target`): that line is only reached if the
-- value is False. So says clause `fits` of `Target::matching` of every target.
use Rattle.std.specs.Prelude.{◌≡◌, Bool, List, [], ◌∷◌, map, Ok}
use Rattle.std.specs.List.{AllByRecursion}
use Rattle.xa_value.specs.declared.value.Value.{Value}
use Rattle.xa_value.specs.declared.value.Value.TheVariants as value
use Rattle.xa_value.specs.Order.{type_of}
use Rattle.xa_func.specs.Application.{applied}
use Rattle.xa_func.specs.Signature.{TakesKinds, kind_of}
use Rattle.xa_expr.specs.declared.match_.Match.{Match}
use Rattle.xa_expr.specs.declared.target.AllOf.{AllOf}
use Rattle.xa_expr.specs.declared.target.AnyOf.{AnyOf}
use Rattle.xa_expr.specs.declared.target.Target.{Target}
use Rattle.xa_expr.specs.Evaluation.{Attributes}

-- a value of a match's bag is of the designator's type, the function takes the literal and the value, and what it
-- gives for them is True or False, or a fault
pub record Asks (m : Match) (v : Value) : Type 0 where
  pub of_type : type_of v ≡ m.designator.data_type
  pub taken : TakesKinds m.function (map kind_of (m.literal ∷ v ∷ []))
  pub gives : (w : Value) → applied m.function (m.literal ∷ v ∷ []) ≡ Ok w → (b : Bool) × (w ≡ value.Boolean b)

-- each value of a match's bag fits, as `Asks` says
abbrev pub MatchFits : Attributes → Match → Type 0
MatchFits source m = AllByRecursion (Asks m) (source m.designator)

-- each value fits that a match of an AllOf asks about
abbrev pub AllOfFits : Attributes → AllOf → Type 0
AllOfFits source part = AllByRecursion (MatchFits source) part.matches

-- each value fits that a match of an AnyOf asks about
abbrev pub AnyOfFits : Attributes → AnyOf → Type 0
AnyOfFits source part = AllByRecursion (AllOfFits source) part.all_of

-- each value fits that a match of a target asks about
abbrev pub TargetFits : Attributes → Target → Type 0
TargetFits source target = AllByRecursion (AnyOfFits source) target.any_of
