-- Variables are worked out one by one, each by those before it.
use Rattle.std.proofs.Common.{◌≡◌, refl, ap, sym, ◌∙◌, subst, ℕ, zero, suc, ◌+◌, ◌<◌, ◌≤◌, max, min, arith, Bool, true, false, nat_le, List, [], ◌∷◌, ◌++◌, map, length, get_or, take, drop, slice_get, append_assoc, append-nil, Some}
use Rattle.std.specs.Prelude.{Result, Ok, Err, IfOk}
use Rattle.std.proofs.lemmas.List.{drop_all, length-append}
use Rattle.std.proofs.lemmas.Bool.Decides.{nat_tests}
use Rattle.std.proofs.lemmas.Option.{slice_get-get_or}
use Rattle.xa_value.specs.declared.or_memory.OrMemory.{OrMemory}
use Rattle.xa_value.specs.Gives.{Gives, answered}
use Rattle.xa_value.proofs.GivesLemmas.{told_apart}
use Rattle.xa_func.specs.declared.signature.Kind.{Kind}
use Rattle.xa_bag.proofs.SetLemmas.{walked}
use Rattle.xa_bag.specs.declared.value_or_bag.ValueOrBag.{ValueOrBag}
use Rattle.xa_bag.specs.ValueOrBag.{kind_of_argument}
use Rattle.xa_expr.specs.declared.fault.Fault.{Fault}
use Rattle.xa_expr.specs.declared.typed.Typed.{Typed}
use Rattle.xa_expr.specs.declared.typed.Typed.TheFolds.{fold-roll-Typed, map-Typed, ind-Typed}
use Rattle.xa_expr.specs.declared.typed.Typed.TheOpen.{Typed-F}
use Rattle.xa_expr.specs.declared.variables.Definition.{Definition}
use Rattle.xa_expr.specs.Evaluation.{Attributes, Outcome, applied, higher_applied, outcome, outcome_step, outcomes_after, result_at, value_of}
use Rattle.xa_expr.specs.Results.{AreFirst, AreOfKinds, IsOfKind, greatest, reach, reach_step}
use Rattle.xa_expr.specs.Typed.{kind_of_typed, kind_under}
use Rattle.xa_expr.specs.Variables.{kinds, AreTypedAfter, AreTyped}

-- an expression comes to the same with more results than it reaches
abbrev Reached : Attributes → List Outcome → List Outcome → Typed → Type 0
Reached values_of rs more t = reach t ≤ length rs → outcome values_of rs t ≡ outcome values_of (rs ++ more) t

get_first : {X : Type 0} (firsts bs : List X) (place : ℕ) → place < length firsts → slice_get firsts place ≡ slice_get (firsts ++ bs) place
get_first [] bs place within = absurd (omega arith)
get_first (a ∷ firsts) bs zero within = refl
get_first (a ∷ firsts) bs (suc place) within = get_first firsts bs place (omega arith)

parts_reached : (values_of : Attributes) (rs more : List Outcome) (ts : List ((t : Typed) × Reached values_of rs more t))
    → greatest (map reach (map (λ e. e.0) ts)) ≤ length rs → map (outcome values_of rs) (map (λ e. e.0) ts) ≡ map (outcome values_of (rs ++ more)) (map (λ e. e.0) ts)
parts_reached values_of rs more [] within = refl
parts_reached values_of rs more (t ∷ ts) within =
    ap (λ r. r ∷ map (outcome values_of rs) (map (λ e. e.0) ts)) (t.1 (omega (arith, within)))
    ∙ ap (λ os. outcome values_of (rs ++ more) t.0 ∷ os) (parts_reached values_of rs more ts (omega (arith, within)))

layer_reached : (values_of : Attributes) (rs more : List Outcome) (y : Typed-F ((t : Typed) × Reached values_of rs more t))
    → reach_step (map-Typed Typed ℕ reach (map-Typed ((t : Typed) × Reached values_of rs more t) Typed (λ e. e.0) y)) ≤ length rs
    → outcome_step values_of rs (map-Typed Typed Outcome (outcome values_of rs) (map-Typed ((t : Typed) × Reached values_of rs more t) Typed (λ e. e.0) y))
    ≡ outcome_step values_of (rs ++ more) (map-Typed Typed Outcome (outcome values_of (rs ++ more)) (map-Typed ((t : Typed) × Reached values_of rs more t) Typed (λ e. e.0) y))
layer_reached values_of rs more (Typed-F.Literal v) within = refl
layer_reached values_of rs more (Typed-F.Attribute d) within = refl
layer_reached values_of rs more (Typed-F.Variable place k) within = ap result_at (get_first rs more place (omega (arith, within)))
layer_reached values_of rs more (Typed-F.Apply f ts) within = ap (applied f) (parts_reached values_of rs more ts within)
layer_reached values_of rs more (Typed-F.HigherOrder h f ts) within = ap (higher_applied h f) (parts_reached values_of rs more ts within)

reached : (values_of : Attributes) (rs more : List Outcome) (t : Typed) → Reached values_of rs more t
reached values_of rs more = ind-Typed (Reached values_of rs more) (λ x y is within.
    let whole = subst (λ n. n ≤ length rs) (fold-roll-Typed ℕ reach_step x) within in
    let here = subst (λ z. reach_step (map-Typed Typed ℕ reach z) ≤ length rs
    → outcome_step values_of rs (map-Typed Typed Outcome (outcome values_of rs) z) ≡ outcome_step values_of (rs ++ more) (map-Typed Typed Outcome (outcome values_of (rs ++ more)) z))
    is (layer_reached values_of rs more y) in
    fold-roll-Typed Outcome (outcome_step values_of rs) x ∙ here whole ∙ sym (fold-roll-Typed Outcome (outcome_step values_of (rs ++ more)) x))

-- more definitions put their outcomes behind
outcomes_extend : (values_of : Attributes) (before : List Outcome) (ds : List Definition) → (more : List Outcome) × (outcomes_after values_of before ds ≡ before ++ more)
outcomes_extend values_of before [] = ([], sym (append-nil before))
outcomes_extend values_of before (d ∷ ds) =
    let r = outcome values_of before d.expression in
    let rest = outcomes_extend values_of (before ++ r ∷ []) ds in
    (r ∷ rest.0, rest.1 ∙ append_assoc before (r ∷ []) rest.0)

-- with the results of the variables that it reaches an expression comes to what it comes to under all definitions
value_reached : (values_of : Attributes) (ds : List Definition) (rs : List Outcome) (t : Typed) → AreFirst values_of ds rs → reach t ≤ length rs
    → outcome values_of rs t ≡ value_of values_of ds t
value_reached values_of ds rs t right within =
    let all = outcomes_extend values_of rs (drop (length rs) ds) in
    reached values_of rs all.0 t within ∙ ap (λ os. outcome values_of os t) (sym all.1 ∙ right.value)

-- and with those of all variables
value_of_all : (values_of : Attributes) (ds : List Definition) (rs : List Outcome) (t : Typed) → AreFirst values_of ds rs → length ds ≤ length rs
    → outcome values_of rs t ≡ value_of values_of ds t
value_of_all values_of ds rs t right every =
    ap (λ os. outcome values_of os t) (ap (outcomes_after values_of rs) (sym (drop_all (length rs) ds every)) ∙ right.value)

-- after the variables that it reaches were worked out
pub value_worked : (values_of : Attributes) (ds : List Definition) (rs : List Outcome) (t : Typed) (old : ℕ) → AreFirst values_of ds rs
    → length rs ≡ max old (min (reach t) (length ds)) → outcome values_of rs t ≡ value_of values_of ds t
value_worked values_of ds rs t old right exact = by_case (nat_le (reach t) (length rs)) refl where
  by_case : (b : Bool) → nat_le (reach t) (length rs) ≡ b → outcome values_of rs t ≡ value_of values_of ds t
  by_case true enough = let within : reach t ≤ length rs = grind (arith, nat_tests, enough) in value_reached values_of ds rs t right within
  by_case false short = let more : length rs < reach t = grind (arith, nat_tests, short) in value_of_all values_of ds rs t right (omega (arith, exact, more))

-- a result at a place is of the kind there
kind_there : (ds : List Definition) (rs : List Outcome) (place : ℕ) (given : ValueOrBag) → AreOfKinds (kinds ds) rs → slice_get rs place ≡ Some (Ok given)
    → slice_get (kinds ds) place ≡ Some (kind_of_argument given)
kind_there ds [] place given typed there = cc
kind_there [] (r ∷ rs) place given typed there = absurd typed
kind_there (d ∷ ds) (r ∷ rs) zero given typed there =
    let same : r ≡ Ok given = cc in
    ap Some (sym (subst (IsOfKind (kind_of_typed d.expression)) same typed.0))
kind_there (d ∷ ds) (r ∷ rs) (suc place) given typed there = kind_there ds rs place given typed.1 there

pub kind_copied : (ds : List Definition) (rs : List Outcome) (place : ℕ) (o : Outcome) (r : Result ValueOrBag (OrMemory Fault)) → AreOfKinds (kinds ds) rs
    → place < length rs → o ≡ get_or rs place o → Gives r o → IfOk r (λ given. slice_get (kinds ds) place ≡ Some (kind_of_argument given))
kind_copied ds rs place o (Ok given) typed within is copied = kind_there ds rs place given typed (slice_get-get_or rs place o within ∙ ap Some (sym is ∙ copied))
kind_copied ds rs place o (Err e) typed within is copied = tt

-- the results are of the kinds of their own definitions
pub kinds_first : (ds : List Definition) (rs : List Outcome) → AreOfKinds (kinds ds) rs → AreOfKinds (kinds (take (length rs) ds)) rs
kinds_first ds [] typed = tt
kinds_first [] (r ∷ rs) typed = absurd typed
kinds_first (d ∷ ds) (r ∷ rs) typed = (typed.0, kinds_first ds rs typed.1)

-- what stands at a place, whatever would stand for it elsewhere
pub same_get : {X : Type 0} (xs : List X) (place : ℕ) (x : X) → place < length xs → get_or xs place x ≡ get_or xs place (get_or xs place x)
same_get [] place x within = absurd (omega arith)
same_get (y ∷ xs) zero x within = refl
same_get (y ∷ xs) (suc place) x within = same_get xs place x (omega arith)

-- a definition has its kind under those before it
typed_after : (before : List Kind) (ds : List Definition) (d : Definition) (place : ℕ) → AreTypedAfter before ds → d ≡ get_or ds place d → place < length ds
    → kind_under (before ++ kinds (take place ds)) d.expression ≡ Some (kind_of_typed d.expression)
typed_after before [] d place typed is within = absurd (omega arith)
typed_after before (a ∷ ds) d zero typed is within =
    ap (λ ks. kind_under ks d.expression) (append-nil before) ∙ subst (λ (e : Definition). kind_under before e.expression ≡ Some (kind_of_typed e.expression)) (sym is) typed.0
typed_after before (a ∷ ds) d (suc place) typed is within =
    ap (λ ks. kind_under ks d.expression) (sym (append_assoc before (kind_of_typed a.expression ∷ []) (kinds (take place ds))))
    ∙ typed_after (before ++ kind_of_typed a.expression ∷ []) ds d place typed.1 is (omega arith)

pub defined_typed : (ds : List Definition) (d : Definition) (place : ℕ) → AreTyped ds → d ≡ get_or ds place d → place < length ds
    → kind_under (kinds (take place ds)) d.expression ≡ Some (kind_of_typed d.expression)
defined_typed ds d place typed is within = typed_after [] ds d place typed is within

-- one more result
kinds_next : (ds : List Definition) (rs : List Outcome) (d : Definition) (r : Outcome) → AreOfKinds (kinds ds) rs → d ≡ get_or ds (length rs) d → length rs < length ds
    → IsOfKind (kind_of_typed d.expression) r → AreOfKinds (kinds ds) (rs ++ r ∷ [])
kinds_next [] rs d r typed is within here = absurd (omega arith)
kinds_next (a ∷ ds) [] d r typed is within here = (subst (λ (e : Definition). IsOfKind (kind_of_typed e.expression) r) is here, tt)
kinds_next (a ∷ ds) (s ∷ rs) d r typed is within here = (typed.0, kinds_next ds rs d r typed.1 is (omega arith) here)

first_next : (values_of : Attributes) (ds : List Definition) (rs : List Outcome) (d : Definition) (r : Outcome) → AreFirst values_of ds rs
    → d ≡ get_or ds (length rs) d → length rs < length ds → outcome values_of rs d.expression ≡ r → IsOfKind (kind_of_typed d.expression) r
    → AreFirst values_of ds (rs ++ r ∷ [])
first_next values_of ds rs d r right is within value here = record {
  value =
      ap (λ n. outcomes_after values_of (rs ++ r ∷ []) (drop n ds)) (length-append rs (r ∷ []))
      ∙ ap (λ q. outcomes_after values_of (rs ++ q ∷ []) (drop (length rs + 1) ds)) (sym value)
      ∙ ap (outcomes_after values_of rs) (sym (walked ds (length rs) d is within)) ∙ right.value;
  typed = kinds_next ds rs d r right.typed is within here;
}

-- and so where it is told apart from want of memory
pub apart_next : {E : Type 0} (values_of : Attributes) (ds : List Definition) (rs : List Outcome) (d : Definition) (given : Result ValueOrBag (OrMemory Fault)) (apart : Result Outcome E)
    → AreFirst values_of ds rs → d ≡ get_or ds (length rs) d → length rs < length ds → Gives given (outcome values_of rs d.expression)
    → IfOk given (λ g. kind_of_argument g ≡ kind_of_typed d.expression) → IfOk apart (λ answer. given ≡ answered answer)
    → IfOk apart (λ r. AreFirst values_of ds (rs ++ r ∷ []))
apart_next values_of ds rs d given (Ok (Ok v)) right is within gives typed same =
    let P : Result ValueOrBag (OrMemory Fault) → Type 0 = λ r. IfOk r (λ g. kind_of_argument g ≡ kind_of_typed d.expression) in
    first_next values_of ds rs d (Ok v) right is within (told_apart given (outcome values_of rs d.expression) (Ok v) same gives) (subst P same typed)
apart_next values_of ds rs d given (Ok (Err e)) right is within gives typed same =
    first_next values_of ds rs d (Err e) right is within (told_apart given (outcome values_of rs d.expression) (Err e) same gives) tt
apart_next values_of ds rs d given (Err e) right is within gives typed same = tt
