-- The arguments of a function, as checked expressions.
use Rattle.std.specs.Prelude.{◌≡◌, List, [], ◌∷◌, Some, Result, Ok, Err}
use Rattle.xa_value.specs.declared.value.Value.{Value}
use Rattle.xa_func.specs.declared.signature.Kind.{Kind}
use Rattle.xa_func.specs.declared.signature.Kind.TheVariants as kind
use Rattle.xa_expr.specs.declared.fault.Fault.{Fault}
use Rattle.xa_expr.specs.declared.typed.Typed.{Typed}
use Rattle.xa_expr.specs.Evaluation.{Outcome, value_in}
use Rattle.xa_expr.specs.Typed.{IsTyped}

-- each expression has its kind under variables of these kinds
abbrev pub AreTypedUnder : List Kind → List Typed → Type 0
AreTypedUnder variables [] = Unit {0}
AreTypedUnder variables (t ∷ ts) = IsTyped variables t × AreTypedUnder variables ts

-- the kind is a value's, and no bag's
abbrev pub IsValueKind : Kind → Type 0
IsValueKind (kind.Value t) = Unit {0}
IsValueKind (kind.Bag t) = ⊥

-- each kind is a value's, and no bag's
abbrev pub AreValueKinds : List Kind → Type 0
AreValueKinds [] = Unit {0}
AreValueKinds (k ∷ ks) = IsValueKind k × AreValueKinds ks

-- what an argument comes to that can only be a value
abbrev pub value_result : Outcome → Result Value Fault
value_result (Ok given) = Ok (value_in given)
value_result (Err fault) = Err fault
