-- What a match's function takes, and what equality makes of a match.
use Rattle.std.proofs.Common.{◌≡◌, Bool, true, false, cond, ◌&&◌, ◌||◌, List, [], ◌∷◌, map, refl, ap, sym, subst, ◌∙◌}
use Rattle.std.specs.Prelude.{if◌then◌else◌, Ok, Err}
use Rattle.std.proofs.Props.{props}
use Rattle.std.proofs.lemmas.Bool.{true≢false}
use Rattle.std.specs.List.{list_any}
use Rattle.xa_value.specs.declared.data_type.DataType.{DataType}
use Rattle.xa_value.specs.declared.value.Value.{Value}
use Rattle.xa_value.specs.declared.value.Value.TheVariants as value
use Rattle.xa_value.specs.Order.{type_of, same}
use Rattle.xa_func.specs.declared.func_id.FuncId.{FuncId}
use Rattle.xa_func.specs.declared.func_id.FuncId.TheVariants as function
use Rattle.xa_func.specs.Application.{applied}
use Rattle.xa_func.specs.Signature.{TakesKinds, kind_of, signature_of}
use Rattle.xa_func.specs.Table.{is_scalar}
use Rattle.xa_bag.specs.declared.value_or_bag.ValueOrBag.TheVariants as given
use Rattle.xa_bag.specs.Bag.{bag_of}
use Rattle.xa_expr.specs.declared.check_error.CheckError.TheVariants.{WrongType}
use Rattle.xa_expr.specs.declared.designator.Designator.{Designator}
use Rattle.xa_expr.specs.declared.fault.Fault.TheVariants.{MissingAttribute}
use Rattle.xa_expr.specs.declared.looked.Looked.TheVariants.{Nothing, Found, NotFound}
use Rattle.xa_expr.specs.declared.matching.Matching.{Matching}
use Rattle.xa_expr.specs.declared.matching.Matching.TheVariants as matching
use Rattle.xa_expr.specs.Evaluation.{Attributes, is_empty}
use Rattle.xa_expr.specs.Fault.{of_function}
use Rattle.xa_expr.specs.Looked.{looked, match_by}
use Rattle.xa_expr.specs.declared.match_.Match.{Match}
use Rattle.xa_expr.specs.Match.{matched_where}
use Rattle.xa_expr.specs.MatchTypes.{argument_kinds, may_ask}
use Rattle.xa_expr.specs.Target.{answer, match_on, match_value, matching_of, some_match}
use Rattle.xa_expr.specs.Typed.{accepted}
use Rattle.xa_expr.proofs.KindLemmas.{accepts_of}

first_of : (a b : Bool) → (a && b) ≡ true → a ≡ true
first_of true b e = refl
first_of false b e = e

second_of : (a b : Bool) → (a && b) ≡ true → b ≡ true
second_of true b e = e
second_of false b e = cc

-- a match's function takes the literal and a value of the designator's type
pub takes_arguments : (m : Match) (v : Value) → type_of v ≡ m.designator.data_type → TakesKinds m.function (map kind_of (m.literal ∷ v ∷ []))
takes_arguments m v of_type =
    let scalar : is_scalar m.function ≡ true = first_of _ _ m.right in
    let accepts : accepted (signature_of m.function) (argument_kinds m.literal m.designator.data_type) ≡ true = first_of _ _ (second_of (is_scalar m.function) _ m.right) in
    (scalar, accepts_of (signature_of m.function) _ (ap (λ t. accepted (signature_of m.function) (argument_kinds m.literal t)) of_type ∙ accepts))

pub takes_given : (m : Match) (v : Value) (vs : List Value) → type_of v ≡ m.designator.data_type → vs ≡ m.literal ∷ v ∷ [] → TakesKinds m.function (map kind_of vs)
takes_given m v vs of_type given = subst (λ us. TakesKinds m.function (map kind_of us)) (sym given) (takes_arguments m v of_type)

-- a match that may not be made, and one that may
pub none_made : (f : FuncId) (literal : Value) (d : Designator) (b : Bool) (e : may_ask f (argument_kinds literal d.data_type) ≡ b)
    → b ≡ false → matched_where f literal d b e ≡ Err WrongType
none_made f literal d true e false_too = absurd (true≢false false_too)
none_made f literal d false e false_too = refl

pub made : (m : Match) (b : Bool) (e : may_ask m.function (argument_kinds m.literal m.designator.data_type) ≡ b) → matched_where m.function m.literal m.designator b e ≡ Ok m
made m true e =
    let once : (x y : may_ask m.function (argument_kinds m.literal m.designator.data_type) ≡ true) → x ≡ y = Prim.hlevel props in
    ap (λ right. Ok (record { function = m.function; literal = m.literal; designator = m.designator; right = right })) (once e m.right)
made m false e = absurd (true≢false (sym m.right ∙ e))

-- it matches, or it does not
abbrev matching_where : Bool → Matching
matching_where b = if b then matching.Match else matching.NoMatch

one_more : (b c : Bool) (rest : List Matching) → some_match rest ≡ matching_where c → some_match (matching_of (Ok (value.Boolean b)) ∷ rest) ≡ matching_where (b || c)
one_more true c rest so_far = refl
one_more false c rest so_far = so_far

answer_of_equal : (q : Match) (t : DataType) (v : Value) → q.function ≡ function.Equal t → answer q v ≡ matching_of (Ok (value.Boolean (same q.literal v)))
answer_of_equal q t v is = ap (λ f. matching_of (of_function (applied f (q.literal ∷ v ∷ [])))) is

-- a match of an equality matches where some value is the same as the literal
equal_answers : (q : Match) (t : DataType) (vs : List Value)
    → q.function ≡ function.Equal t → some_match (map (answer q) vs) ≡ (if list_any (same q.literal) vs then matching.Match else matching.NoMatch)
equal_answers q t [] is = refl
equal_answers q t (v ∷ vs) is =
    ap (λ m. some_match (m ∷ map (answer q) vs)) (answer_of_equal q t v is)
    ∙ one_more (same q.literal v) (list_any (same q.literal) vs) (map (answer q) vs) (equal_answers q t vs is)

-- so it is what a look for the literal says
found_on : (q : Match) (t : DataType) (vs : List Value) → q.function ≡ function.Equal t
    → match_on q (cond (is_empty vs && q.designator.must_be_present) (Err MissingAttribute) (Ok (given.Bag (bag_of q.designator.data_type vs))))
    ≡ match_by q.designator.must_be_present (looked q.literal vs)
found_on q t [] is = by_case q.designator.must_be_present where
  by_case : (must : Bool) → match_on q (cond must (Err MissingAttribute) (Ok (given.Bag (bag_of q.designator.data_type [])))) ≡ match_by must Nothing
  by_case true = refl
  by_case false = refl
found_on q t (v ∷ vs) is = equal_answers q t (v ∷ vs) is ∙ by_case (list_any (same q.literal) (v ∷ vs)) q.designator.must_be_present where
  by_case : (found must : Bool) → cond found matching.Match matching.NoMatch ≡ match_by must (cond found Found NotFound)
  by_case true must = refl
  by_case false must = refl

pub found_answers : (attributes : Attributes) (q : Match) (t : DataType)
    → q.function ≡ function.Equal t → match_by q.designator.must_be_present (looked q.literal (attributes q.designator)) ≡ match_value attributes q
found_answers attributes q t is = sym (found_on q t (attributes q.designator) is)
