-- What arguments come to, collected one after another.
use Rattle.std.proofs.Common.{◌≡◌, refl, ap, sym, ◌∙◌, subst, ℕ, zero, suc, ◌<◌, arith, List, [], ◌∷◌, ◌++◌, map, length, get_or, append_assoc}
use Rattle.std.specs.Prelude.{Result, Ok, Err, IsErrAnd}
use Rattle.std.proofs.lemmas.List.{map-append}
use Rattle.xa_value.specs.declared.data_type.DataType.{DataType}
use Rattle.xa_value.specs.declared.value.Value.{Value}
use Rattle.xa_value.specs.declared.or_memory.OrMemory.{OrMemory}
use Rattle.xa_value.specs.Gives.{Gives}
use Rattle.xa_func.specs.declared.func_id.FuncId.{FuncId}
use Rattle.xa_func.specs.declared.func_id.FuncId.TheVariants as function
use Rattle.xa_func.specs.declared.func_id.Arithmetic.TheVariants as arithmetic
use Rattle.xa_func.specs.declared.func_id.Logic.TheVariants as logic
use Rattle.xa_func.specs.declared.func_id.TextFunction.TheVariants as text
use Rattle.xa_func.specs.declared.func_id.Moved.TheVariants as moved
use Rattle.xa_func.specs.declared.signature.Kind.{Kind}
use Rattle.xa_func.specs.declared.signature.Kind.TheVariants as kind
use Rattle.xa_func.specs.declared.signature.Parameters.TheVariants.{OneAndMore}
use Rattle.xa_func.specs.Application as func
use Rattle.xa_func.specs.Signature.{TakesKinds, Every, Fits, kind_of, of_each}
use Rattle.xa_bag.specs.declared.value_or_bag.ValueOrBag.{ValueOrBag}
use Rattle.xa_bag.specs.declared.value_or_bag.ValueOrBag.TheVariants as given
use Rattle.xa_bag.specs.Applying.{as_argument}
use Rattle.xa_bag.specs.HigherOrder.{collected, with_first}
use Rattle.xa_bag.specs.ValueOrBag.{kind_of_argument, kind_of_each}
use Rattle.xa_expr.specs.declared.fault.Fault.{Fault}
use Rattle.xa_expr.specs.Arguments.{AreValueKinds, IsValueKind, value_result}
use Rattle.xa_expr.specs.Evaluation.{Outcome, applied_to_values, value_in}
use Rattle.xa_expr.specs.Fault.{of_function}
use Rattle.xa_bag.proofs.JoiningLemmas.{fault_first, passed_on}

-- a fault of a part that is one of the whole was passed on
pub fault_passed : {X Y : Type 0} (e : OrMemory Fault) (r : Result Y (OrMemory Fault)) (here : Result X Fault) (whole : Result Y Fault)
    → ((f : Fault) → here ≡ Err f → whole ≡ Err f) → IsErrAnd r (λ d. d ≡ e) → Gives {X = X} (Err e) here → Gives r whole
fault_passed e r here whole through same gives = passed_on e r whole same (fault_first e here whole through gives)

-- those that are there, and one more
pub one_more : {X F : Type 0} (done : List X) (x : X) (rs : List (Result X F)) → collected (map Ok (done ++ x ∷ []) ++ rs) ≡ collected (map Ok done ++ Ok x ∷ rs)
one_more {X} {F} done x rs =
    let Put : X → Result X F = λ y. Ok y in
    ap (λ ss. collected (ss ++ rs)) (map-append Put done (x ∷ [])) ∙ ap collected (append_assoc (map Put done) (Ok x ∷ []) rs)

pub fault_after : {X F : Type 0} (done : List X) (f : F) (rs : List (Result X F)) → collected (map Ok done ++ Err f ∷ rs) ≡ Err f
fault_after [] f rs = refl
fault_after (x ∷ done) f rs = ap (with_first x) (fault_after done f rs)

pub all_there : {X F : Type 0} (done : List X) → collected {F = F} (map Ok done ++ []) ≡ Ok done
all_there [] = refl
all_there {X} {F} (x ∷ done) = ap (with_first x) (all_there {F = F} done)

-- the next of the arguments is a value
pub next_there : {A X F : Type 0} (v : A → Result X F) (done : List X) (x : X) (ts us : List A) (t : A) (whole : Result (List X) F)
    → ts ≡ t ∷ us → collected (map Ok done ++ map v ts) ≡ whole → v t ≡ Ok x → collected (map Ok (done ++ x ∷ []) ++ map v us) ≡ whole
next_there v done x ts us t whole walked so_far here =
    one_more done x (map v us) ∙ ap (λ r. collected (map Ok done ++ r ∷ map v us)) (sym here) ∙ ap (λ ss. collected (map Ok done ++ map v ss)) (sym walked) ∙ so_far

-- the next of the arguments is a fault
pub next_fault : {A X F : Type 0} (v : A → Result X F) (done : List X) (ts us : List A) (t : A) (whole : Result (List X) F)
    → ts ≡ t ∷ us → collected (map Ok done ++ map v ts) ≡ whole → (f : F) → v t ≡ Err f → whole ≡ Err f
next_fault v done ts us t whole walked so_far f here =
    sym so_far ∙ ap (λ ss. collected (map Ok done ++ map v ss)) walked ∙ ap (λ r. collected (map Ok done ++ r ∷ map v us)) here ∙ fault_after done f (map v us)

-- there are no more
pub no_more : {A X F : Type 0} (v : A → Result X F) (done : List X) (ts : List A) (whole : Result (List X) F)
    → ts ≡ [] → collected (map Ok done ++ map v ts) ≡ whole → whole ≡ Ok done
no_more v done ts whole none so_far = sym so_far ∙ ap (λ ss. collected (map Ok done ++ map v ss)) none ∙ all_there done

-- the kinds of those there, and of one more
pub kinds_next : {A X : Type 0} (p : X → Kind) (q : A → Kind) (done : List X) (x : X) (ts us : List A) (t : A) (whole : List Kind)
    → ts ≡ t ∷ us → map p done ++ map q ts ≡ whole → p x ≡ q t → map p (done ++ x ∷ []) ++ map q us ≡ whole
kinds_next p q done x ts us t whole walked so_far here =
    ap (λ ks. ks ++ map q us) (map-append p done (x ∷ [])) ∙ append_assoc (map p done) (p x ∷ []) (map q us)
    ∙ ap (λ k. map p done ++ k ∷ map q us) here ∙ ap (λ ss. map p done ++ map q ss) (sym walked) ∙ so_far

-- what a function of values gives, of values that are collected
abbrev pub applied_to : FuncId → Result (List Value) Fault → Outcome
applied_to f (Ok vs) = as_argument (of_function (func.applied f vs))
applied_to f (Err e) = Err e

pub applied_collected : (f : FuncId) (rs : List Outcome) → applied_to_values f rs ≡ applied_to f (collected (map value_result rs))
applied_collected f rs = by_case (collected rs) refl ∙ ap (applied_to f) (sym (values_collected rs)) where
  each : Result (List ValueOrBag) Fault → Result (List Value) Fault
  each (Ok gs) = Ok (map value_in gs)
  each (Err e) = Err e

  with_value : (g : ValueOrBag) (r : Result (List ValueOrBag) Fault) → with_first (value_in g) (each r) ≡ each (with_first g r)
  with_value g (Ok gs) = refl
  with_value g (Err e) = refl

  values_collected : (ss : List Outcome) → collected (map value_result ss) ≡ each (collected ss)
  values_collected [] = refl
  values_collected (Ok g ∷ ss) = ap (with_first (value_in g)) (values_collected ss) ∙ with_value g (collected ss)
  values_collected (Err e ∷ ss) = refl

  by_case : (r : Result (List ValueOrBag) Fault) → collected rs ≡ r → applied_to_values f rs ≡ applied_to f (each r)
  by_case (Ok gs) at = rw at refl
  by_case (Err e) at = rw at refl

-- the kinds of each of what is given
pub kinds_of_each : (gs : List ValueOrBag) → map kind_of_each gs ≡ map of_each (map kind_of_argument gs)
kinds_of_each [] = refl
kinds_of_each (g ∷ gs) = ap (λ ks. kind_of_each g ∷ ks) (kinds_of_each gs)

-- an argument of a value's kind is that value
pub value_kind : (g : ValueOrBag) (k : Kind) → IsValueKind k → kind_of_argument g ≡ k → kind_of (value_in g) ≡ k
value_kind (given.Value v) k is e = e
value_kind (given.Bag b) (kind.Value t) is e = cc
value_kind (given.Bag b) (kind.Bag t) is e = absurd is

-- an argument of a function of values is a value
every_value : (t : DataType) (ks : List Kind) → Every (kind.Value t) ks → AreValueKinds ks
every_value t [] every = tt
every_value t (k ∷ ks) every = (subst IsValueKind (sym every.0) tt, every_value t ks every.1)

values_and_more : (k : Kind) (t : DataType) (ks : List Kind) → IsValueKind k → Fits (OneAndMore k (kind.Value t)) ks → AreValueKinds ks
values_and_more k t [] is fits = absurd fits
values_and_more k t (l ∷ ks) is fits = (subst IsValueKind (sym fits.0) is, every_value t ks fits.1)

these : (ks ls : List Kind) → ks ≡ ls → AreValueKinds ls → AreValueKinds ks
these ks ls e values = subst AreValueKinds (sym e) values

pub scalar_values : (f : FuncId) (ks : List Kind) → TakesKinds f ks → AreValueKinds ks
scalar_values (function.Equal t) ks takes = these ks _ takes.1 (tt, (tt, tt))
scalar_values (function.Compare c t) ks takes = these ks _ takes.1 (tt, (tt, tt))
scalar_values (function.Arithmetic arithmetic.Add) ks takes = every_value _ ks takes.1.1
scalar_values (function.Arithmetic arithmetic.Multiply) ks takes = every_value _ ks takes.1.1
scalar_values (function.Arithmetic arithmetic.Subtract) ks takes = these ks _ takes.1 (tt, (tt, tt))
scalar_values (function.Arithmetic arithmetic.Divide) ks takes = these ks _ takes.1 (tt, (tt, tt))
scalar_values (function.Arithmetic arithmetic.Mod) ks takes = these ks _ takes.1 (tt, (tt, tt))
scalar_values function.IntegerAbs ks takes = these ks _ takes.1 (tt, tt)
scalar_values (function.Logic logic.Or) ks takes = every_value _ ks takes.1.1
scalar_values (function.Logic logic.And) ks takes = every_value _ ks takes.1.1
scalar_values (function.Logic logic.NOf) ks takes = values_and_more _ _ ks tt takes.1
scalar_values (function.Logic logic.Not) ks takes = these ks _ takes.1 (tt, tt)
scalar_values (function.Text text.NormalizeSpace) ks takes = these ks _ takes.1 (tt, tt)
scalar_values (function.Text text.Concatenate) ks takes = every_value _ ks takes.1.1
scalar_values (function.Text text.Substring) ks takes = these ks _ takes.1 (tt, (tt, (tt, tt)))
scalar_values (function.Part p t) ks takes = these ks _ takes.1 (tt, (tt, tt))
scalar_values (function.StringFrom t) ks takes = these ks _ takes.1 (tt, tt)
scalar_values (function.FromString t) ks takes = these ks _ takes.1 (tt, tt)
scalar_values (function.Move moved.DateTimeByDayTime d) ks takes = these ks _ takes.1 (tt, (tt, tt))
scalar_values (function.Move moved.DateTimeByYearMonth d) ks takes = these ks _ takes.1 (tt, (tt, tt))
scalar_values (function.Move moved.DateByYearMonth d) ks takes = these ks _ takes.1 (tt, (tt, tt))
scalar_values function.TimeInRange ks takes = these ks _ takes.1 (tt, (tt, (tt, tt)))
scalar_values (function.Bag f t) ks takes = cc (takes.0)
scalar_values (function.HigherOrder f) ks takes = cc (takes.0)

-- the kind of one argument is a value's
pub value_kind_at : {A : Type 0} (q : A → Kind) (ts : List A) (i : ℕ) (t : A) → AreValueKinds (map q ts) → t ≡ get_or ts i t → i < length ts → IsValueKind (q t)
value_kind_at q [] i t each is below = absurd (omega arith)
value_kind_at q (u ∷ ts) zero t each is below = subst (λ x. IsValueKind (q x)) (sym is) each.0
value_kind_at q (u ∷ ts) (suc i) t each is below = value_kind_at q ts i t each.1 is (omega arith)
