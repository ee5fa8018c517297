-- The designators that stand in checked expressions, in the definitions of variables and in targets: nothing else is
-- asked of the context (XACML 3.0, core, sections 5.29 and 7.3).
use Rattle.std.specs.Prelude.{◌≡◌, List, [], ◌∷◌}
use Rattle.std.specs.List.{flat_map}
use Rattle.xa_expr.specs.declared.designator.Designator.{Designator}
use Rattle.xa_expr.specs.declared.target.AllOf.{AllOf}
use Rattle.xa_expr.specs.declared.target.AnyOf.{AnyOf}
use Rattle.xa_expr.specs.declared.target.Target.{Target}
use Rattle.xa_expr.specs.declared.typed.Typed.{Typed, fold-Typed}
use Rattle.xa_expr.specs.declared.typed.Typed.TheOpen.{Typed-F}
use Rattle.xa_expr.specs.declared.variables.Definition.{Definition}
use Rattle.xa_expr.specs.Evaluation.{Attributes}
use Rattle.xa_expr.specs.declared.match_.Match.{Match}

-- the designators of each expression, by those of the expressions in it; a variable has none, since its definition has
-- them
abbrev pub designators_step : Typed-F (List Designator) → List Designator
designators_step (Typed-F.Literal v) = []
designators_step (Typed-F.Attribute d) = d ∷ []
designators_step (Typed-F.Variable place k) = []
designators_step (Typed-F.Apply f parts) = flat_map (λ ds. ds) parts
designators_step (Typed-F.HigherOrder h f parts) = flat_map (λ ds. ds) parts

abbrev pub designators : Typed → List Designator
designators = fold-Typed (List Designator) designators_step

-- the designators of all definitions of variables, used or not
abbrev pub designators_of_definitions : List Definition → List Designator
designators_of_definitions definitions = flat_map (λ d. designators d.expression) definitions

-- the one designator of a match
abbrev pub designators_of_match : Match → List Designator
designators_of_match q = q.designator ∷ []

-- the designators of an AllOf: one in each match
abbrev pub designators_of_all_of : AllOf → List Designator
designators_of_all_of part = flat_map designators_of_match part.matches

-- the designators of an AnyOf: one in each match
abbrev pub designators_of_any_of : AnyOf → List Designator
designators_of_any_of part = flat_map designators_of_all_of part.all_of

-- the designators of a target: one in each match
abbrev pub designators_of_target : Target → List Designator
designators_of_target target = flat_map designators_of_any_of target.any_of

-- two sources of attributes give each of these designators the same values
abbrev pub AgreeOn : List Designator → Attributes → Attributes → Type 0
AgreeOn [] a b = Unit {0}
AgreeOn (d ∷ ds) a b = (a d ≡ b d) × AgreeOn ds a b

-- what is made of a source of attributes rests on these designators alone: it is the same of any two that agree on them
abbrev pub RestsOn : {X : Type 0} → List Designator → (Attributes → X) → Type 0
RestsOn ds made = (a b : Attributes) → AgreeOn ds a b → made a ≡ made b
