-- No wrong type is met where a target is looked at: the function of each match takes its literal and each value of the bag, and gives a boolean.
use Rattle.std.proofs.Common.{◌≡◌, refl, sym, ap, ◌∙◌, Bool, true, false, ◌&&◌, List, [], ◌∷◌}
use Rattle.std.specs.Prelude.{Ok}
use Rattle.std.specs.List.{AllByRecursion}
use Rattle.std.proofs.lemmas.Bool.{and_parts}
use Rattle.xa_value.specs.declared.data_type.DataType.TheVariants as type
use Rattle.xa_value.specs.declared.value.Value.{Value}
use Rattle.xa_value.specs.declared.value.Value.TheVariants as value
use Rattle.xa_value.specs.Order.{type_of}
use Rattle.xa_value.specs.Types.{same_type}
use Rattle.xa_func.specs.Application.{applied}
use Rattle.xa_func.specs.Signature.{result_type_of, signature_of}
use Rattle.xa_func.specs.Table.{is_scalar}
use Rattle.xa_bag.specs.Bag.{OfType}
use Rattle.xa_expr.specs.declared.match_.Match.{Match}
use Rattle.xa_expr.specs.declared.target.Target.{Target}
use Rattle.xa_expr.specs.Evaluation.{Attributes}
use Rattle.xa_expr.specs.MatchTypes.{argument_kinds}
use Rattle.xa_expr.specs.Misfits.{KeepsTypes}
use Rattle.xa_expr.specs.TargetMisfits.{AllOfFits, AnyOfFits, Asks, MatchFits, TargetFits}
use Rattle.xa_expr.specs.Typed.{accepted}
use Rattle.xa_expr.proofs.GivenLemmas.{applied_type}
use Rattle.xa_expr.proofs.KindLemmas.{same_type_decides}
use Rattle.xa_expr.proofs.MatchLemmas.{takes_arguments}

-- a value of the type boolean is True or False
a_boolean : (v : Value) → type_of v ≡ type.Boolean → (b : Bool) × (v ≡ value.Boolean b)
a_boolean (value.Boolean b) e = (b, refl)
a_boolean (value.String t) e = absurd cc
a_boolean (value.Integer n) e = absurd cc
a_boolean (value.Date d) e = absurd cc
a_boolean (value.Time t) e = absurd cc
a_boolean (value.DateTime t) e = absurd cc
a_boolean (value.DayTimeDuration d) e = absurd cc
a_boolean (value.YearMonthDuration d) e = absurd cc
a_boolean (value.AnyUri t) e = absurd cc
a_boolean (value.HexBinary b) e = absurd cc
a_boolean (value.Base64Binary b) e = absurd cc

-- the function of a match gives booleans
gives_booleans : (m : Match) → result_type_of (signature_of m.function) ≡ type.Boolean
gives_booleans m =
    let asks = and_parts (is_scalar m.function) _ m.right in
    let gives = and_parts (accepted (signature_of m.function) (argument_kinds m.literal m.designator.data_type)) (same_type (result_type_of (signature_of m.function)) type.Boolean) asks.1 in
    (same_type_decides (result_type_of (signature_of m.function)) type.Boolean).0 gives.1

asks : (m : Match) (v : Value) → type_of v ≡ m.designator.data_type → Asks m v
asks m v of_type = record {
  of_type = of_type;
  taken = takes_arguments m v of_type;
  gives = λ w e. a_boolean w (applied_type m.function (m.literal ∷ v ∷ []) w e ∙ gives_booleans m);
}

asks_each : (m : Match) (vs : List Value) → OfType m.designator.data_type vs → AllByRecursion (Asks m) vs
asks_each m [] of_type = tt
asks_each m (v ∷ vs) of_type = (asks m v of_type.0, asks_each m vs of_type.1)

-- what holds of everything holds of all of some
each_of : {X : Type 0} (P : X → Type 0) → ((x : X) → P x) → (xs : List X) → AllByRecursion P xs
each_of P holds [] = tt
each_of P holds (x ∷ xs) = (holds x, each_of P holds xs)

pub target_fits : (source : Attributes) → KeepsTypes source → (target : Target) → TargetFits source target
target_fits source keeps target =
    each_of (AnyOfFits source) (λ part. each_of (AllOfFits source) (λ all. each_of (MatchFits source) (λ m. asks_each m (source m.designator) (keeps m.designator)) all.matches) part.all_of)
    target.any_of
