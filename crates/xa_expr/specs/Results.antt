-- What was worked out of a policy's variables so far: the outcomes of the first definitions, in order (XACML 3.0,
-- core, section 7.8).
use Rattle.std.specs.Prelude.{◌≡◌, ℕ, suc, max, List, [], ◌∷◌, length, drop, Option, Some, None, Ok, Err}
use Rattle.xa_func.specs.declared.signature.Kind.{Kind}
use Rattle.xa_bag.specs.ValueOrBag.{kind_of_argument}
use Rattle.xa_expr.specs.declared.typed.Typed.{Typed, fold-Typed}
use Rattle.xa_expr.specs.declared.typed.Typed.TheOpen.{Typed-F}
use Rattle.xa_expr.specs.declared.variables.Definition.{Definition}
use Rattle.xa_expr.specs.Evaluation.{Attributes, Outcome, outcomes, outcomes_after}
use Rattle.xa_expr.specs.Variables.{kinds}

-- what an expression gives, if anything, is of the kind
abbrev pub IsOfKind : Kind → Outcome → Type 0
IsOfKind k (Ok given) = kind_of_argument given ≡ k
IsOfKind k (Err fault) = Unit {0}

-- what each expression gives, if anything, is of the kind at its place
abbrev pub AreOfKinds : List Kind → List Outcome → Type 0
AreOfKinds ks [] = Unit {0}
AreOfKinds [] (r ∷ rs) = ⊥
AreOfKinds (k ∷ ks) (r ∷ rs) = IsOfKind k r × AreOfKinds ks rs

-- the results are the outcomes of the first definitions, each of its kind: the other definitions after them give
-- those of all
pub record AreFirst (values_of : Attributes) (definitions : List Definition) (results : List Outcome) : Type 0 where
  pub value : outcomes_after values_of results (drop (length results) definitions) ≡ outcomes values_of definitions
  pub typed : AreOfKinds (kinds definitions) results

-- the greatest of numbers
abbrev pub greatest : List ℕ → ℕ
greatest [] = 0
greatest (n ∷ ns) = max n (greatest ns)

-- how many definitions, from the first, have all variables of an expression among them
abbrev pub reach_step : Typed-F ℕ → ℕ
reach_step (Typed-F.Literal v) = 0
reach_step (Typed-F.Attribute d) = 0
reach_step (Typed-F.Variable place k) = suc place
reach_step (Typed-F.Apply f ns) = greatest ns
reach_step (Typed-F.HigherOrder h f ns) = greatest ns

abbrev pub reach : Typed → ℕ
reach = fold-Typed ℕ reach_step

-- how many definitions there are up to one, if any
abbrev pub up_to : Option ℕ → ℕ
up_to None = 0
up_to (Some place) = suc place
