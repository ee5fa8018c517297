-- The variables of a policy (XACML 3.0, core, sections 5.23 and 7.8).
use Rattle.std.specs.Prelude.{ℕ, Bool, bytes_eq, List, [], ◌∷◌, ◌++◌, map, Option, is_some}
use Rattle.std.specs.List.{position}
use Rattle.xa_func.specs.declared.signature.Kind.{Kind}
use Rattle.xa_expr.specs.declared.variables.Definition.{Definition}
use Rattle.xa_expr.specs.Typed.{IsTyped, kind_of_typed}

-- the kinds of variables, by their definitions
abbrev pub kinds : List Definition → List Kind
kinds definitions = map (λ d. kind_of_typed d.expression) definitions

-- each definition has its kind under those before it, these kinds being before all
abbrev pub AreTypedAfter : List Kind → List Definition → Type 0
AreTypedAfter before [] = Unit {0}
AreTypedAfter before (d ∷ ds) =
    IsTyped before d.expression × AreTypedAfter (before ++ kind_of_typed d.expression ∷ []) ds

abbrev pub AreTyped : List Definition → Type 0
AreTyped definitions = AreTypedAfter [] definitions

-- the place of the first definition of a name
abbrev pub place_named : List Definition → List ℕ → Option ℕ
place_named definitions name = position (λ d. bytes_eq d.name name) definitions

-- there is a variable of the name
abbrev pub is_defined : List Definition → List ℕ → Bool
is_defined definitions name = is_some (place_named definitions name)
