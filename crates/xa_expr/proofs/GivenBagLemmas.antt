-- What bag functions and higher-order functions give is of the kinds that they say, for arguments of the kinds that they take.
use Rattle.std.proofs.Common.{◌≡◌, refl, ap, sym, ◌∙◌, subst, Bool, true, false, cond, List, [], ◌∷◌, ◌++◌, map}
use Rattle.std.specs.Prelude.{filter, flat_map, not, Result, Ok, Err}
use Rattle.xa_value.specs.declared.data_type.DataType.{DataType}
use Rattle.xa_value.specs.declared.data_type.DataType.TheVariants as type
use Rattle.xa_value.specs.declared.value.Value.{Value}
use Rattle.xa_value.specs.Order.{same, type_of}
use Rattle.xa_func.specs.declared.fault.FuncFault.{FuncFault}
use Rattle.xa_func.specs.declared.func_id.BagFunction.{BagFunction}
use Rattle.xa_func.specs.declared.func_id.BagFunction.TheVariants as bag
use Rattle.xa_func.specs.declared.func_id.FuncId.{FuncId}
use Rattle.xa_func.specs.declared.func_id.HigherOrder.{HigherOrder}
use Rattle.xa_func.specs.declared.func_id.HigherOrder.TheVariants as higher
use Rattle.xa_func.specs.declared.signature.Kind.{Kind}
use Rattle.xa_func.specs.declared.signature.Kind.TheVariants as kind
use Rattle.xa_func.specs.Application as func
use Rattle.xa_func.specs.Signature.{AcceptsKinds, Every, TakesKinds, bag_signature, kind_of, result_type_of, signature_of, type_of_kind}
use Rattle.xa_bag.specs.declared.fault.BagFault.{BagFault}
use Rattle.xa_bag.specs.declared.value_or_bag.ValueOrBag.{ValueOrBag}
use Rattle.xa_bag.specs.declared.value_or_bag.ValueOrBag.TheVariants as given
use Rattle.xa_bag.specs.Applying.{as_argument, as_bag_argument, as_boolean, bag_applied, boolean, higher_order_applied, kind_given, of_bag, of_bags, of_value_and_bag}
use Rattle.xa_bag.specs.Bag.{Contents, OfType, bag_of}
use Rattle.xa_bag.specs.HigherOrder.{as_bag, choices, collected, outcome, with_first}
use Rattle.xa_bag.specs.LogicAtOnce.{EachOfItsType}
use Rattle.xa_bag.specs.Sets.{all_values, distinct, one_and_only}
use Rattle.xa_bag.specs.ValueOrBag.{kind_of_argument, kind_of_each, type_of_each, values_of}
use Rattle.xa_expr.specs.Misfits.{AnswersEach, IsOf}
use Rattle.xa_expr.specs.Typed.{result_kind}
use Rattle.xa_expr.proofs.GivenLemmas.{applied_result, applied_type}

-- a value, a boolean and a bag, as what is given
pub value_is_of : (v : Value) (k : Kind) → kind_of v ≡ k → IsOf k (given.Value v)
value_is_of v k e = (e, (refl, tt))

given_is : (k : Kind) (g h : ValueOrBag) → g ≡ h → IsOf k g → IsOf k h
given_is k g h e is = subst (IsOf k) e is

abbrev Given : Type 0
Given = Result ValueOrBag (BagFault FuncFault)

there : ValueOrBag → Given
there g = Ok g

abbrev GivesOf : Kind → Given → Type 0
GivesOf k r = (g : ValueOrBag) → r ≡ Ok g → IsOf k g

gives_given : (k : Kind) (h : ValueOrBag) → IsOf k h → GivesOf k (Ok h)
gives_given k h is g e =
    let same : h ≡ g = cc in
    given_is k h g same is

gives_boolean : (b : Bool) → GivesOf (kind.Value type.Boolean) (Ok (boolean b))
gives_boolean b = gives_given (kind.Value type.Boolean) (boolean b) (refl, (refl, tt))

gives_as_boolean : (r : Result Bool (BagFault FuncFault)) → GivesOf (kind.Value type.Boolean) (as_boolean r)
gives_as_boolean (Ok b) = gives_boolean b
gives_as_boolean (Err e) = λ g is. cc

gives_bag : (t : DataType) (vs : List Value) → OfType t vs → GivesOf (kind.Bag t) (Ok (given.Bag (bag_of t vs)))
gives_bag t vs each = gives_given (kind.Bag t) (given.Bag (bag_of t vs)) (refl, each)

-- parts of lists of values of a type
pub of_type_both : (t : DataType) (vs ws : List Value) → OfType t vs → OfType t ws → OfType t (vs ++ ws)
of_type_both t [] ws each others = others
of_type_both t (v ∷ vs) ws each others = (each.0, of_type_both t vs ws each.1 others)

kept_first : (t : DataType) (b : Bool) (v : Value) (vs : List Value) → type_of v ≡ t → OfType t vs → OfType t (cond b (v ∷ vs) vs)
kept_first t true v vs here each = (here, each)
kept_first t false v vs here each = each

of_type_filter : (t : DataType) (p : Value → Bool) (vs : List Value) → OfType t vs → OfType t (filter p vs)
of_type_filter t p [] each = tt
of_type_filter t p (v ∷ vs) each = kept_first t (p v) v (filter p vs) each.0 (of_type_filter t p vs each.1)

of_type_distinct : (t : DataType) (vs : List Value) → OfType t vs → OfType t (distinct vs)
of_type_distinct t [] each = tt
of_type_distinct t (v ∷ vs) each = (each.0, of_type_filter t (λ w. not (same v w)) (distinct vs) (of_type_distinct t vs each.1))

-- the values of arguments of one kind
of_type_all : (k : Kind) (gs : List ValueOrBag) → EachOfItsType gs → Every k (map kind_of_argument gs) → OfType (type_of_kind k) (all_values gs)
of_type_all k [] each every = tt
of_type_all k (g ∷ gs) each every =
    of_type_both (type_of_kind k) (values_of g) (all_values gs) (subst (λ l. OfType (type_of_kind l) (values_of g)) every.0 each.0) (of_type_all k gs each.1 every.1)

-- the functions of one bag, of a value and a bag, and of two bags
one_kind : (t : DataType) (vs : List Value) → OfType t vs → GivesOf (kind.Value t) (as_argument (one_and_only vs))
one_kind t [] each = λ g is. cc
one_kind t (v ∷ []) each = gives_given (kind.Value t) (given.Value v) (value_is_of v (kind.Value t) (ap kind.Value each.0))
one_kind t (v ∷ w ∷ vs) each = λ g is. cc

of_bag_kind : (k : Kind) (t : DataType) (answer : Contents → Given) → ((b : Contents) → OfType t b.values → GivesOf k (answer b))
    → (gs : List ValueOrBag) → EachOfItsType gs → map kind_of_argument gs ≡ kind.Bag t ∷ [] → GivesOf k (of_bag answer gs)
of_bag_kind k t answer all (given.Bag b ∷ []) each takes =
    let same : b.data_type ≡ t = cc in
    all b (subst (λ u. OfType u b.values) same each.0)
of_bag_kind k t answer all _ each takes = λ g is. cc

of_value_and_bag_kind : (k : Kind) (answer : Value → Contents → Given) → ((v : Value) (b : Contents) → GivesOf k (answer v b)) → (gs : List ValueOrBag) → GivesOf k (of_value_and_bag answer gs)
of_value_and_bag_kind k answer all (given.Value v ∷ given.Bag b ∷ []) = all v b
of_value_and_bag_kind k answer all _ = λ g is. cc

of_bags_kind : (k : Kind) (t : DataType) (answer : Contents → Contents → Given) → ((a b : Contents) → a.data_type ≡ t → OfType a.data_type a.values → GivesOf k (answer a b))
    → (gs : List ValueOrBag) → EachOfItsType gs → map kind_of_argument gs ≡ kind.Bag t ∷ kind.Bag t ∷ [] → GivesOf k (of_bags answer gs)
of_bags_kind k t answer all (given.Bag a ∷ given.Bag b ∷ []) each takes =
    let same : a.data_type ≡ t = cc in
    all a b same each.0
of_bags_kind k t answer all _ each takes = λ g is. cc

pub bag_applied_kind : (f : BagFunction) (t : DataType) (gs : List ValueOrBag) → EachOfItsType gs → AcceptsKinds (bag_signature f t) (map kind_of_argument gs)
    → GivesOf (result_kind (bag_signature f t)) (bag_applied f t gs)
bag_applied_kind bag.OneAndOnly t gs each takes = of_bag_kind (kind.Value t) t _ (λ b values. one_kind t b.values values) gs each takes
bag_applied_kind bag.BagSize t gs each takes = of_bag_kind (kind.Value type.Integer) t _ (λ b values. gives_given (kind.Value type.Integer) _ (refl, (refl, tt))) gs each takes
bag_applied_kind bag.IsIn t gs each takes = of_value_and_bag_kind (kind.Value type.Boolean) _ (λ v b. gives_boolean _) gs
bag_applied_kind bag.Bag t gs each takes = gives_bag t (all_values gs) (of_type_all (kind.Value t) gs each takes.1)
bag_applied_kind bag.Intersection t gs each takes =
    of_bags_kind (kind.Bag t) t _ (λ a b same values. gives_given (kind.Bag t) _ (ap kind.Bag same, of_type_distinct a.data_type _ (of_type_filter a.data_type _ a.values values))) gs each takes
bag_applied_kind bag.Union t gs each takes = gives_bag t (distinct (all_values gs)) (of_type_distinct t (all_values gs) (of_type_all (kind.Bag t) gs each takes.1))
bag_applied_kind bag.AtLeastOneMemberOf t gs each takes = of_bags_kind (kind.Value type.Boolean) t _ (λ a b same values. gives_boolean _) gs each takes
bag_applied_kind bag.Subset t gs each takes = of_bags_kind (kind.Value type.Boolean) t _ (λ a b same values. gives_boolean _) gs each takes
bag_applied_kind bag.SetEquals t gs each takes = of_bags_kind (kind.Value type.Boolean) t _ (λ a b same values. gives_boolean _) gs each takes

-- what an inner function gives for each of the choices is of its type
with_first_type : (t : DataType) (v : Value) (r : Result (List Value) (BagFault FuncFault)) (ws : List Value) → type_of v ≡ t
    → ((us : List Value) → r ≡ Ok us → OfType t us) → with_first v r ≡ Ok ws → OfType t ws
with_first_type t v (Ok us) ws here others e =
    let same : v ∷ us ≡ ws = cc in
    subst (OfType t) same (here, others us refl)
with_first_type t v (Err x) ws here others e = cc

collected_type : (f : FuncId) (css : List (List Value)) (ws : List Value) → collected (map (λ vs. outcome (func.applied f vs)) css) ≡ Ok ws → OfType (result_type_of (signature_of f)) ws
collected_type f [] ws e =
    let same : [] ≡ ws = cc in
    subst (OfType (result_type_of (signature_of f))) same tt
collected_type f (vs ∷ css) ws e = by_case (func.applied f vs) refl (λ us is. collected_type f css us is) e where
  by_case : (r : Result Value FuncFault) → func.applied f vs ≡ r
      → ((us : List Value) → collected (map (λ others. outcome (func.applied f others)) css) ≡ Ok us → OfType (result_type_of (signature_of f)) us)
      → collected (outcome r ∷ map (λ others. outcome (func.applied f others)) css) ≡ Ok ws → OfType (result_type_of (signature_of f)) ws
  by_case (Ok v) at others same = with_first_type (result_type_of (signature_of f)) v _ ws (applied_type f vs v at) others same
  by_case (Err x) at others same = cc

as_bag_kind : (t : DataType) (r : Result (List Value) (BagFault FuncFault)) → ((ws : List Value) → r ≡ Ok ws → OfType t ws) → GivesOf (kind.Bag t) (as_bag_argument (as_bag t r))
as_bag_kind t (Ok ws) each = gives_bag t ws (each ws refl)
as_bag_kind t (Err e) each = λ g is. cc

of_two_bags : (k : Kind) (answer : Contents → Contents → Given) → ((a b : Contents) → GivesOf k (answer a b)) → (gs : List ValueOrBag) → GivesOf k (of_bags answer gs)
of_two_bags k answer all (given.Bag a ∷ given.Bag b ∷ []) = all a b
of_two_bags k answer all _ = λ g is. cc

pub higher_applied_kind : (h : HigherOrder) (f : FuncId) (gs : List ValueOrBag)
    → GivesOf (kind_given h (result_type_of (signature_of f))) (higher_order_applied h (result_type_of (signature_of f)) (func.applied f) gs)
higher_applied_kind higher.AnyOf f gs = gives_as_boolean _
higher_applied_kind higher.AllOf f gs = gives_as_boolean _
higher_applied_kind higher.AnyOfAny f gs = gives_as_boolean _
higher_applied_kind higher.Map f gs = as_bag_kind (result_type_of (signature_of f)) _ (λ ws e. collected_type f (choices gs) ws e)
higher_applied_kind higher.AllOfAny f gs = of_two_bags (kind.Value type.Boolean) _ (λ a b. gives_as_boolean _) gs
higher_applied_kind higher.AllOfAll f gs = of_two_bags (kind.Value type.Boolean) _ (λ a b. gives_as_boolean _) gs

-- of each choice of a value of every argument: the values are of the types of the arguments
abbrev AreOfKinds : List Kind → List (List Value) → Type 0
AreOfKinds ks [] = Unit {0}
AreOfKinds ks (vs ∷ css) = (map kind_of vs ≡ ks) × AreOfKinds ks css

both_of_kinds : (ks : List Kind) (css dss : List (List Value)) → AreOfKinds ks css → AreOfKinds ks dss → AreOfKinds ks (css ++ dss)
both_of_kinds ks [] dss each others = others
both_of_kinds ks (vs ∷ css) dss each others = (each.0, both_of_kinds ks css dss each.1 others)

with_value : (t : DataType) (ks : List Kind) (v : Value) → type_of v ≡ t → (css : List (List Value)) → AreOfKinds ks css → AreOfKinds (kind.Value t ∷ ks) (map (λ vs. v ∷ vs) css)
with_value t ks v here [] each = tt
with_value t ks v here (vs ∷ css) each = (ap (λ u. kind.Value u ∷ map kind_of vs) here ∙ ap (λ ls. kind.Value t ∷ ls) each.0, with_value t ks v here css each.1)

with_values : (t : DataType) (ks : List Kind) (ws : List Value) → OfType t ws → (css : List (List Value)) → AreOfKinds ks css
    → AreOfKinds (kind.Value t ∷ ks) (flat_map (λ v. map (λ vs. v ∷ vs) css) ws)
with_values t ks [] values css each = tt
with_values t ks (w ∷ ws) values css each =
    both_of_kinds (kind.Value t ∷ ks) (map (λ vs. w ∷ vs) css) (flat_map (λ v. map (λ vs. v ∷ vs) css) ws) (with_value t ks w values.0 css each) (with_values t ks ws values.1 css each)

choices_kinds : (gs : List ValueOrBag) → EachOfItsType gs → AreOfKinds (map kind_of_each gs) (choices gs)
choices_kinds [] each = (refl, tt)
choices_kinds (g ∷ gs) each = with_values (type_of_each g) (map kind_of_each gs) (values_of g) each.0 (choices gs) (choices_kinds gs each.1)

answers_each : (f : FuncId) (ks : List Kind) → TakesKinds f ks → (css : List (List Value)) → AreOfKinds ks css → AnswersEach f css
answers_each f ks takes [] each = tt
answers_each f ks takes (vs ∷ css) each = (record { taken = subst (TakesKinds f) (sym each.0) takes; gives = λ v e. applied_result f vs v e }, answers_each f ks takes css each.1)

-- an inner function answers each of the choices, where it takes such values
pub answers_choices : (f : FuncId) (gs : List ValueOrBag) → EachOfItsType gs → TakesKinds f (map kind_of_each gs) → AnswersEach f (choices gs)
answers_choices f gs each takes = answers_each f (map kind_of_each gs) takes (choices gs) (choices_kinds gs each)
