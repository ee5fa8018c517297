-- No wrong type is met where an expression is evaluated that has a kind under the kinds of its variables.
use Rattle.std.proofs.Common.{◌≡◌, refl, ap, sym, ◌∙◌, subst, ℕ, zero, suc, Bool, true, false, ◌&&◌, List, [], ◌∷◌, ◌++◌, map, slice_get, Option, Some, None, append_assoc, append-nil}
use Rattle.std.proofs.lemmas.Bool.{and_parts}
use Rattle.std.specs.Prelude.{if◌then◌else◌, Result, Ok, Err}
use Rattle.xa_value.specs.declared.data_type.DataType.TheVariants as type
use Rattle.xa_value.specs.declared.value.Value.{Value}
use Rattle.xa_func.specs.declared.fault.FuncFault.{FuncFault}
use Rattle.xa_func.specs.declared.func_id.FuncId.{FuncId}
use Rattle.xa_func.specs.declared.func_id.FuncId.TheVariants as function
use Rattle.xa_func.specs.declared.func_id.HigherOrder.{HigherOrder}
use Rattle.xa_func.specs.declared.func_id.Logic.TheVariants as logic
use Rattle.xa_func.specs.declared.signature.Kind.{Kind}
use Rattle.xa_func.specs.declared.signature.Kind.TheVariants as kind
use Rattle.xa_func.specs.Application as func
use Rattle.xa_func.specs.Signature.{AcceptsKinds, TakesKinds, kind_of, of_each, result_type_of, signature_of}
use Rattle.xa_func.specs.Table.{is_scalar}
use Rattle.xa_bag.specs.declared.fault.BagFault.{BagFault}
use Rattle.xa_bag.specs.declared.value_or_bag.ValueOrBag.{ValueOrBag}
use Rattle.xa_bag.specs.Applying.{as_argument, as_boolean, kind_given}
use Rattle.xa_bag.specs.HigherOrder.{collected, with_first}
use Rattle.xa_bag.specs.LogicAtOnce.{EachOfItsType}
use Rattle.xa_bag.specs.ValueOrBag.{kind_of_argument}
use Rattle.xa_expr.specs.declared.designator.Designator.{Designator}
use Rattle.xa_expr.specs.declared.fault.Fault.{Fault}
use Rattle.xa_expr.specs.declared.typed.Typed.{Typed}
use Rattle.xa_expr.specs.declared.typed.Typed.TheFolds.{every_made-Typed, fold-roll-Typed, ind-Typed, map-Typed}
use Rattle.xa_expr.specs.declared.typed.Typed.TheOpen.{Typed-F}
use Rattle.xa_expr.specs.declared.variables.Definition.{Definition}
use Rattle.xa_expr.specs.Evaluation.{Attributes, Outcome, applied, applied_to_values, attribute, higher_applied, is_empty, outcome, outcome_step, outcomes, outcomes_after, result_at, value_in}
use Rattle.xa_expr.specs.Fault.{of_bag_function, of_function}
use Rattle.xa_expr.specs.Misfits.{AnswersChoices, ComesTo, DefinitionsFit, EachComesTo, Fits, FitsThroughout, IsOf, IsThere, KeepsTypes, MeetsNoMisfit}
use Rattle.xa_expr.specs.Typed.{accepted, all_there, gives_boolean, has_bags, higher_accepted, kind_of_typed, kind_under, kind_where, put_first, result_kind, under_step, variable_kind, same_kind}
use Rattle.xa_expr.specs.Variables.{AreTyped, AreTypedAfter, kinds}
use Rattle.xa_expr.proofs.ArgumentLemmas.{kinds_of_each}
use Rattle.xa_expr.proofs.GivenLemmas.{applied_kind}
use Rattle.xa_expr.proofs.GivenBagLemmas.{answers_choices, bag_applied_kind, higher_applied_kind, value_is_of}
use Rattle.xa_expr.proofs.KindLemmas.{accepts_of, same_kind_decides}

-- ---- outcomes

comes_subst : (k l : Kind) (r : Outcome) → k ≡ l → ComesTo k r → ComesTo l r
comes_subst k l r e comes = subst (λ m. ComesTo m r) e comes

-- a boolean or a fault
boolean_comes : (r : Result Bool Fault) → ComesTo (kind.Value type.Boolean) (as_boolean r)
boolean_comes (Ok b) = (refl, (refl, tt))
boolean_comes (Err e) = tt

-- what functions give, as what an expression comes to
value_comes : (k : Kind) (r : Result Value FuncFault) → ((v : Value) → r ≡ Ok v → kind_of v ≡ k) → ComesTo k (as_argument (of_function r))
value_comes k (Ok v) each = value_is_of v k (each v refl)
value_comes k (Err e) each = tt

bag_comes : (k : Kind) (r : Result ValueOrBag (BagFault FuncFault)) → ((g : ValueOrBag) → r ≡ Ok g → IsOf k g) → ComesTo k (of_bag_function r)
bag_comes k (Ok g) each = each g refl
bag_comes k (Err e) each = tt

-- arguments of kinds that all came to something
abbrev AllGiven : List Kind → Result (List ValueOrBag) Fault → Type 0
AllGiven ks (Ok gs) = (map kind_of_argument gs ≡ ks) × EachOfItsType gs
AllGiven ks (Err e) = Unit {0}

first_given : (k : Kind) (ks : List Kind) (g : ValueOrBag) (r : Result (List ValueOrBag) Fault) → IsOf k g → AllGiven ks r → AllGiven (k ∷ ks) (with_first g r)
first_given k ks g (Ok gs) here others = (ap (λ l. l ∷ map kind_of_argument gs) here.0 ∙ ap (λ ls. k ∷ ls) others.0, (here.1, others.1))
first_given k ks g (Err e) here others = tt

all_given : (ks : List Kind) (rs : List Outcome) → EachComesTo ks rs → AllGiven ks (collected rs)
all_given [] [] each = (refl, tt)
all_given [] (r ∷ rs) each = absurd each
all_given (k ∷ ks) [] each = absurd each
all_given (k ∷ ks) (Ok g ∷ rs) each = first_given k ks g (collected rs) each.0 (all_given ks rs each.1)
all_given (k ∷ ks) (Err e ∷ rs) each = tt

-- what a function comes to on arguments of kinds that it takes
to_values : (f : FuncId) (rs : List Outcome) → ComesTo (result_kind (signature_of f)) (applied_to_values f rs)
to_values f rs = by_case (collected rs) refl where
  by_case : (r : Result (List ValueOrBag) Fault) → collected rs ≡ r → ComesTo (result_kind (signature_of f)) (applied_to_values f rs)
  by_case (Ok gs) at = rw at (value_comes (result_kind (signature_of f)) (func.applied f (map value_in gs)) (λ v e. applied_kind f (map value_in gs) v e))
  by_case (Err e) at = rw at tt

to_bags : (f : FuncId) (rs : List Outcome) (ks : List Kind) → AcceptsKinds (signature_of f) ks → EachComesTo ks rs → ComesTo (result_kind (signature_of f)) (applied f rs)
to_bags (function.Logic logic.Or) rs ks takes each = boolean_comes _
to_bags (function.Logic logic.And) rs ks takes each = boolean_comes _
to_bags (function.Logic logic.NOf) rs ks takes each = boolean_comes _
to_bags (function.Bag f t) rs ks takes each = by_case (collected rs) refl (all_given ks rs each) where
  by_case : (r : Result (List ValueOrBag) Fault) → collected rs ≡ r → AllGiven ks r → ComesTo (result_kind (signature_of (function.Bag f t))) (applied (function.Bag f t) rs)
  by_case (Ok gs) at all =
      rw at (bag_comes (result_kind (signature_of (function.Bag f t))) _ (bag_applied_kind f t gs all.1 (subst (AcceptsKinds (signature_of (function.Bag f t))) (sym all.0) takes)))
  by_case (Err e) at all = rw at tt
to_bags f rs ks takes each = to_values f rs

to_function : (h : HigherOrder) (f : FuncId) (rs : List Outcome) → ComesTo (kind_given h (result_type_of (signature_of f))) (higher_applied h f rs)
to_function h f rs = by_case (collected rs) refl where
  by_case : (r : Result (List ValueOrBag) Fault) → collected rs ≡ r → ComesTo (kind_given h (result_type_of (signature_of f))) (higher_applied h f rs)
  by_case (Ok gs) at = rw at (bag_comes (kind_given h (result_type_of (signature_of f))) _ (higher_applied_kind h f gs))
  by_case (Err e) at = rw at tt

-- ---- each expression comes to what its kind says

-- where there is a kind, the arguments are all there and pass
where_some : (passes : List Kind → Bool) (k l : Kind) (o : Option (List Kind)) → kind_where passes k o ≡ Some l → (ks : List Kind) × (o ≡ Some ks) × (passes ks ≡ true) × (k ≡ l)
where_some passes k l (Some ks) e = by_case (passes ks) refl e where
  by_case : (b : Bool) → passes ks ≡ b → (if b then Some k else None) ≡ Some l → (ls : List Kind) × (Some ks ≡ Some ls) × (passes ls ≡ true) × (k ≡ l)
  by_case true at same = (ks, refl, at, cc)
  by_case false at same = cc
where_some passes k l None e = cc

-- the variable at a place
variable_is : (o : Option Kind) (k l : Kind) → variable_kind o k ≡ Some l → (o ≡ Some k) × (k ≡ l)
variable_is (Some m) k l e = by_case (same_kind m k) refl e where
  by_case : (b : Bool) → same_kind m k ≡ b → (if b then Some k else None) ≡ Some l → (Some m ≡ Some k) × (k ≡ l)
  by_case true at same = (ap Some ((same_kind_decides m k).0 at), cc)
  by_case false at same = cc
variable_is None k l e = cc

result_there : (vs : List Kind) (rs : List Outcome) (place : ℕ) (k : Kind) → EachComesTo vs rs → slice_get vs place ≡ Some k → IsThere (slice_get rs place) k
result_there [] [] place k each e = cc
result_there [] (r ∷ rs) place k each e = absurd each
result_there (l ∷ vs) [] place k each e = absurd each
result_there (l ∷ vs) (r ∷ rs) zero k each e =
    let same : l ≡ k = cc in
    comes_subst l k r same each.0
result_there (l ∷ vs) (r ∷ rs) (suc place) k each e = result_there vs rs place k each.1 e

there_comes : (o : Option Outcome) (k : Kind) → IsThere o k → ComesTo k (result_at o)
there_comes (Some r) k there = there
there_comes None k there = absurd there

attribute_comes : (source : Attributes) (d : Designator) → KeepsTypes source → ComesTo (kind.Bag d.data_type) (attribute source d)
attribute_comes source d keeps = by_case (is_empty (source d) && d.must_be_present) refl where
  by_case : (b : Bool) → (is_empty (source d) && d.must_be_present) ≡ b → ComesTo (kind.Bag d.data_type) (attribute source d)
  by_case true at = rw at tt
  by_case false at = rw at (refl, keeps d)

-- an expression, where the variables come to these
abbrev Comes : Attributes → List Kind → List Outcome → Typed → Type 0
Comes source vs rs t = (k : Kind) → kind_under vs t ≡ Some k → ComesTo k (outcome source rs t)

abbrev AllCome : Attributes → List Kind → List Outcome → List Typed → Type 0
AllCome source vs rs [] = Unit {0}
AllCome source vs rs (t ∷ ts) = Comes source vs rs t × AllCome source vs rs ts

first_comes : (o : Option Kind) (r : Outcome) (os : List (Option Kind)) (rs : List Outcome) (ks : List Kind) → ((k : Kind) → o ≡ Some k → ComesTo k r)
    → ((ls : List Kind) → all_there os ≡ Some ls → EachComesTo ls rs) → all_there (o ∷ os) ≡ Some ks → EachComesTo ks (r ∷ rs)
first_comes (Some k) r os rs ks here others e = by_case (all_there os) refl e where
  by_case : (o : Option (List Kind)) → all_there os ≡ o → put_first k o ≡ Some ks → EachComesTo ks (r ∷ rs)
  by_case (Some ls) at same =
      let whole : k ∷ ls ≡ ks = cc in
      subst (λ ms. EachComesTo ms (r ∷ rs)) whole (here k refl, others ls at)
  by_case None at same = cc
first_comes None r os rs ks here others e = cc

parts_come : (source : Attributes) (vs : List Kind) (rs : List Outcome) (ts : List Typed) → AllCome source vs rs ts → (ks : List Kind)
    → all_there (map (kind_under vs) ts) ≡ Some ks → EachComesTo ks (map (outcome source rs) ts)
parts_come source vs rs [] each ks e =
    let none : [] ≡ ks = cc in
    subst (λ ls. EachComesTo ls []) none tt
parts_come source vs rs (t ∷ ts) each ks e =
    first_comes (kind_under vs t) (outcome source rs t) (map (kind_under vs) ts) (map (outcome source rs) ts) ks each.0 (λ ls is. parts_come source vs rs ts each.1 ls is) e

beside : (source : Attributes) (vs : List Kind) (rs : List Outcome) (ts : List ((t : Typed) × Comes source vs rs t)) → AllCome source vs rs (map (λ e. e.0) ts)
beside source vs rs [] = tt
beside source vs rs (t ∷ ts) = (t.1, beside source vs rs ts)

-- what an expression's layer comes to, by what its parts come to
layer_comes : (source : Attributes) (vs : List Kind) (rs : List Outcome) → KeepsTypes source → EachComesTo vs rs → (y : Typed-F ((t : Typed) × Comes source vs rs t)) (k : Kind)
    → under_step vs (map-Typed Typed (Option Kind) (kind_under vs) (map-Typed ((t : Typed) × Comes source vs rs t) Typed (λ e. e.0) y)) ≡ Some k
    → ComesTo k (outcome_step source rs (map-Typed Typed Outcome (outcome source rs) (map-Typed ((t : Typed) × Comes source vs rs t) Typed (λ e. e.0) y)))
layer_comes source vs rs keeps fit (Typed-F.Literal v) k e =
    let same : kind_of v ≡ k = cc in
    value_is_of v k same
layer_comes source vs rs keeps fit (Typed-F.Attribute d) k e =
    let same : kind.Bag d.data_type ≡ k = cc in
    comes_subst (kind.Bag d.data_type) k (attribute source d) same (attribute_comes source d keeps)
layer_comes source vs rs keeps fit (Typed-F.Variable place l) k e =
    let is = variable_is (slice_get vs place) l k e in
    there_comes (slice_get rs place) k (result_there vs rs place k fit (is.0 ∙ ap Some is.1))
layer_comes source vs rs keeps fit (Typed-F.Apply f ts) k e =
    let all = map (λ (t : (t : Typed) × Comes source vs rs t). t.0) ts in
    let passed = where_some (accepted (signature_of f)) (result_kind (signature_of f)) k (all_there (map (kind_under vs) all)) e in
    comes_subst (result_kind (signature_of f)) k (applied f (map (outcome source rs) all)) passed.3
    (to_bags f (map (outcome source rs) all) passed.0 (accepts_of (signature_of f) passed.0 passed.2) (parts_come source vs rs all (beside source vs rs ts) passed.0 passed.1))
layer_comes source vs rs keeps fit (Typed-F.HigherOrder h f ts) k e =
    let all = map (λ (t : (t : Typed) × Comes source vs rs t). t.0) ts in
    let passed = where_some (λ given. is_scalar f && higher_accepted h f given) (kind_given h (result_type_of (signature_of f))) k (all_there (map (kind_under vs) all)) e in
    comes_subst (kind_given h (result_type_of (signature_of f))) k (higher_applied h f (map (outcome source rs) all)) passed.3 (to_function h f (map (outcome source rs) all))

pub outcome_comes : (source : Attributes) (vs : List Kind) (rs : List Outcome) → KeepsTypes source → EachComesTo vs rs → (t : Typed) → Comes source vs rs t
outcome_comes source vs rs keeps fit = ind-Typed (Comes source vs rs) (λ x y is k e.
    let whole = sym (fold-roll-Typed (Option Kind) (under_step vs) x) ∙ e in
    let here = subst (λ z. under_step vs (map-Typed Typed (Option Kind) (kind_under vs) z) ≡ Some k → ComesTo k (outcome_step source rs (map-Typed Typed Outcome (outcome source rs) z)))
    is (layer_comes source vs rs keeps fit y k) in
    subst (ComesTo k) (sym (fold-roll-Typed Outcome (outcome_step source rs) x)) (here whole))

-- ---- each expression is given what it takes

all_come : (source : Attributes) (vs : List Kind) (rs : List Outcome) → ((t : Typed) → Comes source vs rs t) → (ts : List Typed) → AllCome source vs rs ts
all_come source vs rs each [] = tt
all_come source vs rs each (t ∷ ts) = (each t, all_come source vs rs each ts)

-- an inner function takes values of the types of the arguments
inner_takes : (h : HigherOrder) (f : FuncId) (ks : List Kind) → (is_scalar f && higher_accepted h f ks) ≡ true → TakesKinds f (map of_each ks)
inner_takes h f ks e =
    let scalar = and_parts (is_scalar f) (higher_accepted h f ks) e in
    let bags = and_parts (has_bags h ks && accepted (signature_of f) (map of_each ks)) (gives_boolean h f) scalar.1 in
    let taken = and_parts (has_bags h ks) (accepted (signature_of f) (map of_each ks)) bags.0 in
    (scalar.0, accepts_of (signature_of f) (map of_each ks) taken.1)

choices_fit : (h : HigherOrder) (f : FuncId) (ks : List Kind) (r : Result (List ValueOrBag) Fault) → (is_scalar f && higher_accepted h f ks) ≡ true → AllGiven ks r → AnswersChoices f r
choices_fit h f ks (Ok gs) takes all = answers_choices f gs all.1 (subst (TakesKinds f) (sym (kinds_of_each gs ∙ ap (map of_each) all.0)) (inner_takes h f ks takes))
choices_fit h f ks (Err e) takes all = tt

layer_fits : (source : Attributes) (vs : List Kind) (rs : List Outcome) → EachComesTo vs rs → ((t : Typed) → Comes source vs rs t) → (x : Typed-F Typed) (k : Kind)
    → under_step vs (map-Typed Typed (Option Kind) (kind_under vs) x) ≡ Some k → Fits rs (map-Typed Typed Outcome (outcome source rs) x)
layer_fits source vs rs fit comes (Typed-F.Literal v) k e = tt
layer_fits source vs rs fit comes (Typed-F.Attribute d) k e = tt
layer_fits source vs rs fit comes (Typed-F.Variable place l) k e = result_there vs rs place l fit (variable_is (slice_get vs place) l k e).0
layer_fits source vs rs fit comes (Typed-F.Apply f ts) k e =
    let passed = where_some (accepted (signature_of f)) (result_kind (signature_of f)) k (all_there (map (kind_under vs) ts)) e in
    record { kinds = passed.0; taken = accepts_of (signature_of f) passed.0 passed.2; each = parts_come source vs rs ts (all_come source vs rs comes ts) passed.0 passed.1 }
layer_fits source vs rs fit comes (Typed-F.HigherOrder h f ts) k e =
    let passed = where_some (λ given. is_scalar f && higher_accepted h f given) (kind_given h (result_type_of (signature_of f))) k (all_there (map (kind_under vs) ts)) e in
    let each = parts_come source vs rs ts (all_come source vs rs comes ts) passed.0 passed.1 in
    (record { kinds = passed.0; taken = passed.2; each = each }, choices_fit h f passed.0 (collected (map (outcome source rs) ts)) passed.2 (all_given passed.0 (map (outcome source rs) ts) each))

abbrev Whole : Attributes → List Kind → List Outcome → Typed → Type 0
Whole source vs rs t = (k : Kind) → kind_under vs t ≡ Some k → FitsThroughout source rs t

-- the parts, each beside what is known of it
abbrev Held : Attributes → List Outcome → Type 0
Held source rs = (t : Typed) × FitsThroughout source rs t

abbrev HeldParts : Attributes → List Outcome → List Typed → Type 0
HeldParts source rs ts = (us : List (Held source rs)) × (map (λ (u : Held source rs). u.0) us ≡ ts)

first_held : (source : Attributes) (rs : List Outcome) (o : Option Kind) (t : Typed) (os : List (Option Kind)) (ts : List Typed) (ks : List Kind)
    → ((k : Kind) → o ≡ Some k → FitsThroughout source rs t) → ((ls : List Kind) → all_there os ≡ Some ls → HeldParts source rs ts) → all_there (o ∷ os) ≡ Some ks → HeldParts source rs (t ∷ ts)
first_held source rs (Some k) t os ts ks here others e = by_case (all_there os) refl e where
  by_case : (o : Option (List Kind)) → all_there os ≡ o → put_first k o ≡ Some ks → HeldParts source rs (t ∷ ts)
  by_case (Some ls) at same =
      let rest = others ls at in
      ((t, here k refl) ∷ rest.0, ap (λ us. t ∷ us) rest.1)
  by_case None at same = cc
first_held source rs None t os ts ks here others e = cc

parts_held : (source : Attributes) (vs : List Kind) (rs : List Outcome) (ts : List ((t : Typed) × Whole source vs rs t)) (ks : List Kind)
    → all_there (map (kind_under vs) (map (λ e. e.0) ts)) ≡ Some ks → HeldParts source rs (map (λ e. e.0) ts)
parts_held source vs rs [] ks e = ([], refl)
parts_held source vs rs (t ∷ ts) ks e =
    first_held source rs (kind_under vs t.0) t.0 (map (kind_under vs) (map (λ u. u.0) ts)) (map (λ u. u.0) ts) ks t.1 (λ ls is. parts_held source vs rs ts ls is) e

layer_held : (source : Attributes) (vs : List Kind) (rs : List Outcome) (y : Typed-F ((t : Typed) × Whole source vs rs t)) (k : Kind)
    → under_step vs (map-Typed Typed (Option Kind) (kind_under vs) (map-Typed ((t : Typed) × Whole source vs rs t) Typed (λ e. e.0) y)) ≡ Some k
    → (z : Typed-F (Held source rs)) × (map-Typed (Held source rs) Typed (λ e. e.0) z ≡ map-Typed ((t : Typed) × Whole source vs rs t) Typed (λ e. e.0) y)
layer_held source vs rs (Typed-F.Literal v) k e = (Typed-F.Literal v, refl)
layer_held source vs rs (Typed-F.Attribute d) k e = (Typed-F.Attribute d, refl)
layer_held source vs rs (Typed-F.Variable place l) k e = (Typed-F.Variable place l, refl)
layer_held source vs rs (Typed-F.Apply f ts) k e =
    let all = map (λ (t : (t : Typed) × Whole source vs rs t). t.0) ts in
    let passed = where_some (accepted (signature_of f)) (result_kind (signature_of f)) k (all_there (map (kind_under vs) all)) e in
    let held = parts_held source vs rs ts passed.0 passed.1 in
    (Typed-F.Apply f held.0, ap (λ (us : List Typed). Typed-F.Apply f us) held.1)
layer_held source vs rs (Typed-F.HigherOrder h f ts) k e =
    let all = map (λ (t : (t : Typed) × Whole source vs rs t). t.0) ts in
    let passed = where_some (λ given. is_scalar f && higher_accepted h f given) (kind_given h (result_type_of (signature_of f))) k (all_there (map (kind_under vs) all)) e in
    let held = parts_held source vs rs ts passed.0 passed.1 in
    (Typed-F.HigherOrder h f held.0, ap (λ (us : List Typed). Typed-F.HigherOrder h f us) held.1)

pub expression_fits : (source : Attributes) (vs : List Kind) (rs : List Outcome) → EachComesTo vs rs → ((t : Typed) → Comes source vs rs t) → (t : Typed) → Whole source vs rs t
expression_fits source vs rs fit comes = ind-Typed (Whole source vs rs) (λ x y is k e.
    let whole = sym (fold-roll-Typed (Option Kind) (under_step vs) x) ∙ e in
    let held = layer_held source vs rs y k (subst (λ z. under_step vs (map-Typed Typed (Option Kind) (kind_under vs) z) ≡ Some k) (sym is) whole) in
    every_made-Typed (λ part. Fits rs (map-Typed Typed Outcome (outcome source rs) part)) x held.0 (held.1 ∙ is) (layer_fits source vs rs fit comes x k whole))

-- ---- and the definitions of variables

last_comes : (ks : List Kind) (rs : List Outcome) (k : Kind) (r : Outcome) → EachComesTo ks rs → ComesTo k r → EachComesTo (ks ++ k ∷ []) (rs ++ r ∷ [])
last_comes [] [] k r each here = (here, tt)
last_comes [] (s ∷ rs) k r each here = absurd each
last_comes (l ∷ ks) [] k r each here = absurd each
last_comes (l ∷ ks) (s ∷ rs) k r each here = (each.0, last_comes ks rs k r each.1 here)

record Defined (source : Attributes) (before : List Kind) (rs : List Outcome) (ds : List Definition) : Type 0 where
  pub fit : DefinitionsFit source rs ds
  pub come : EachComesTo (before ++ kinds ds) (outcomes_after source rs ds)

definitions_fit : (source : Attributes) → KeepsTypes source → (before : List Kind) (rs : List Outcome) → EachComesTo before rs → (ds : List Definition) → AreTypedAfter before ds
    → Defined source before rs ds
definitions_fit source keeps before rs fit [] typed = record { fit = tt; come = subst (λ ks. EachComesTo ks rs) (sym (append-nil before)) fit }
definitions_fit source keeps before rs fit (d ∷ ds) typed =
    let comes = outcome_comes source before rs keeps fit in
    let k = kind_of_typed d.expression in
    let rest = definitions_fit source keeps (before ++ k ∷ []) (rs ++ outcome source rs d.expression ∷ [])
    (last_comes before rs k (outcome source rs d.expression) fit (comes d.expression k typed.0)) ds typed.1 in
    record {
      fit = (expression_fits source before rs fit comes d.expression k typed.0, rest.fit);
      come = subst (λ ks. EachComesTo ks (outcomes_after source (rs ++ outcome source rs d.expression ∷ []) ds)) (append_assoc before (k ∷ []) (kinds ds)) rest.come;
    }

-- no wrong type is met
pub meets_no_misfit : (source : Attributes) (ds : List Definition) (t : Typed) (k : Kind) → AreTyped ds → kind_under (kinds ds) t ≡ Some k → KeepsTypes source → MeetsNoMisfit source ds t
meets_no_misfit source ds t k typed e keeps =
    let defined = definitions_fit source keeps [] [] tt ds typed in
    record { variables = defined.fit; itself = expression_fits source (kinds ds) (outcomes source ds) defined.come (outcome_comes source (kinds ds) (outcomes source ds) keeps defined.come) t k e }
