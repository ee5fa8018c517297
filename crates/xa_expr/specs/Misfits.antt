-- When a checked expression is evaluated, no wrong type is met: every function is given what it takes (XACML 3.0,
-- core, sections 5.27, 7.3.2, 7.3.5 and 7.4, appendix A.3). The definitions of values are total, so they answer
-- something for arguments of other kinds too, by words like `misfit`. Of an expression that a type check gives a
-- kind, none of these lines is ever reached: that is what `MeetsNoMisfit` says of one expression, and clause `fits`
-- of `Evaluator::value` of all.
use Rattle.std.specs.Prelude.{◌≡◌, ◌&&◌, IsTrue, List, [], ◌∷◌, ◌++◌, map}
use Rattle.std.specs.Prelude.{slice_get, Option, Some, None, Result, Ok, Err}
use Rattle.xa_value.specs.declared.value.Value.{Value}
use Rattle.xa_func.specs.declared.func_id.FuncId.{FuncId}
use Rattle.xa_func.specs.declared.signature.Kind.{Kind}
use Rattle.xa_func.specs.Application as func
use Rattle.xa_func.specs.Signature.{AcceptsKinds, TakesKinds, IsResult, kind_of, signature_of}
use Rattle.xa_func.specs.Table.{is_scalar}
use Rattle.xa_bag.specs.declared.value_or_bag.ValueOrBag.{ValueOrBag}
use Rattle.xa_bag.specs.Bag.{OfType}
use Rattle.xa_bag.specs.HigherOrder.{choices, collected}
use Rattle.xa_bag.specs.ValueOrBag.{kind_of_argument, type_of_each, values_of}
use Rattle.xa_expr.specs.declared.designator.Designator.{Designator}
use Rattle.xa_expr.specs.declared.fault.Fault.{Fault}
use Rattle.xa_expr.specs.declared.typed.Typed.{Typed, every-Typed, map-Typed}
use Rattle.xa_expr.specs.declared.typed.Typed.TheOpen.{Typed-F}
use Rattle.xa_expr.specs.declared.variables.Definition.{Definition}
use Rattle.xa_expr.specs.Evaluation.{Attributes, Outcome, outcome, outcomes}
use Rattle.xa_expr.specs.Typed.{higher_accepted}

-- every bag that a source of attributes has is of its designator's type
abbrev pub KeepsTypes : Attributes → Type 0
KeepsTypes source = (d : Designator) → OfType d.data_type (source d)

-- what is given is of the kind: a value of the type, or a bag of it, each value of which is of it (7.3.2)
abbrev pub IsOf : Kind → ValueOrBag → Type 0
IsOf k given = (kind_of_argument given ≡ k) × OfType (type_of_each given) (values_of given)

-- what an expression comes to is of the kind, or a fault
abbrev pub ComesTo : Kind → Outcome → Type 0
ComesTo k (Ok given) = IsOf k given
ComesTo k (Err fault) = Unit {0}

-- each outcome is of the kind at its place, or a fault, there being as many of both
abbrev pub EachComesTo : List Kind → List Outcome → Type 0
EachComesTo [] [] = Unit {0}
EachComesTo [] (r ∷ rs) = ⊥
EachComesTo (k ∷ ks) [] = ⊥
EachComesTo (k ∷ ks) (r ∷ rs) = ComesTo k r × EachComesTo ks rs

-- Arguments that come to these are what a function takes that takes arguments of such kinds: each is of the kind at
-- its place, or a fault. So this says it of each place by itself, as or, and and n-of need it, and of all together
-- if none is a fault.
pub record AreTaken (Takes : List Kind → Type 0) (rs : List Outcome) : Type 0 where
  pub kinds : List Kind
  pub taken : Takes kinds
  pub each : EachComesTo kinds rs

-- an inner function takes these values, and what it gives for them is what its signature says, or a fault
pub record Answers (f : FuncId) (vs : List Value) : Type 0 where
  pub taken : TakesKinds f (map kind_of vs)
  pub gives : (v : Value) → func.applied f vs ≡ Ok v → IsResult (signature_of f) v

abbrev pub AnswersEach : FuncId → List (List Value) → Type 0
AnswersEach f [] = Unit {0}
AnswersEach f (vs ∷ others) = Answers f vs × AnswersEach f others

-- an inner function answers each choice of a value of every argument, if none is a fault (A.3.12)
abbrev pub AnswersChoices : FuncId → Result (List ValueOrBag) Fault → Type 0
AnswersChoices f (Ok given) = AnswersEach f (choices given)
AnswersChoices f (Err fault) = Unit {0}

-- there is a result, and it is of the kind
abbrev pub IsThere : Option Outcome → Kind → Type 0
IsThere (Some r) k = ComesTo k r
IsThere None k = ⊥

-- an expression, by what those in it come to, is given what it takes, if the variables come to these. A literal and
-- an attribute take nothing
abbrev pub Fits : List Outcome → Typed-F Outcome → Type 0
Fits variables (Typed-F.Literal v) = Unit {0}
Fits variables (Typed-F.Attribute d) = Unit {0}
Fits variables (Typed-F.Variable place k) = IsThere (slice_get variables place) k
Fits variables (Typed-F.Apply f rs) = AreTaken (AcceptsKinds (signature_of f)) rs
Fits variables (Typed-F.HigherOrder h f rs) =
    AreTaken (λ ks. IsTrue (is_scalar f && higher_accepted h f ks)) rs × AnswersChoices f (collected rs)

-- an expression, and every expression in it, is given what it takes (`Fits`)
abbrev pub FitsThroughout : Attributes → List Outcome → Typed → Type 0
FitsThroughout source variables =
    every-Typed (λ part. Fits variables (map-Typed Typed Outcome (outcome source variables) part))

-- every expression in the definitions of variables is given what it takes, each under those before it, which come to
-- these
abbrev pub DefinitionsFit : Attributes → List Outcome → List Definition → Type 0
DefinitionsFit source before [] = Unit {0}
DefinitionsFit source before (d ∷ ds) =
    FitsThroughout source before d.expression
    × DefinitionsFit source (before ++ outcome source before d.expression ∷ []) ds

-- no wrong type is met when an expression is evaluated under definitions
pub record MeetsNoMisfit (source : Attributes) (definitions : List Definition) (expression : Typed) : Type 0 where
  pub variables : DefinitionsFit source [] definitions
  pub itself : FitsThroughout source (outcomes source definitions) expression
