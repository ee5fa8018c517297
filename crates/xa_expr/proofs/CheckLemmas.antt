-- What the type check finds, step by step, is what its definition gives.
use Rattle.std.proofs.Common.{◌≡◌, ℕ, ◌+◌, Bool, true, false, ◌&&◌, List, [], ◌∷◌, ◌++◌, length, map, drop, ◌-◌, refl, sym, ap, subst, ◌∙◌, append-nil}
use Rattle.std.proofs.lemmas.List.{map-append}
use Rattle.std.specs.Prelude.{Option, Some, None, Result, Ok, Err, ◌↔◌, IsTrue, if◌then◌else◌, not}
use Rattle.std.proofs.lemmas.Bool.Decides.{Decides-and, same_from_decides}
use Rattle.std.proofs.lemmas.Bool.{and_from}
use Rattle.xa_value.specs.Gives.{◌>>=◌}
use Rattle.xa_func.specs.declared.func_id.FuncId.{FuncId}
use Rattle.xa_func.specs.declared.func_id.HigherOrder.{HigherOrder}
use Rattle.xa_func.specs.declared.signature.Kind.{Kind}
use Rattle.xa_func.specs.Signature.{of_each, signature_of, result_type_of, TakesKinds}
use Rattle.xa_func.specs.Table.{is_scalar}
use Rattle.xa_bag.specs.HigherOrder.{with_first, collected}
use Rattle.xa_bag.specs.Applying.{kind_given}
use Rattle.xa_expr.specs.declared.check_error.CheckError.{CheckError}
use Rattle.xa_expr.specs.declared.check_error.CheckError.TheVariants.{WrongCount, WrongType}
use Rattle.xa_expr.specs.declared.expr.Expr.{Expr}
use Rattle.xa_expr.specs.declared.typed.Typed.{Typed}
use Rattle.xa_expr.specs.declared.typed.Typed.TheVariants as typed
use Rattle.xa_expr.specs.declared.variables.Definition.{Definition}
use Rattle.xa_expr.specs.Typed.{kind_of_typed, kind_under, kind_where, result_kind, accepted, counted, higher_counted, higher_accepted, all_there, put_first}
use Rattle.xa_expr.specs.Typing.{judged, applied, higher_applied}
use Rattle.xa_expr.proofs.KindLemmas.{accepted_decides}
use Rattle.xa_expr.proofs.UnderLemmas.{under_apply, under_higher_order, kind_apply, kind_higher_order}

-- results that are all there are those, and a fault among them is what they come to
pub collected_done : {X E : Type 0} (xs : List X) → collected {F = E} (map Ok xs) ≡ Ok xs
collected_done [] = refl
collected_done (x ∷ xs) = ap (with_first x) (collected_done xs)

pub collected_fault : {X E : Type 0} (xs : List X) (e : E) (rs : List (Result X E)) → collected (map Ok xs ++ Err e ∷ rs) ≡ Err e
collected_fault [] e rs = refl
collected_fault (x ∷ xs) e rs = ap (with_first x) (collected_fault xs e rs)

pub collected_next : {X E : Type 0} (xs : List X) (x : X) (rs : List (Result X E)) → collected (map Ok (xs ++ x ∷ []) ++ rs) ≡ collected (map Ok xs ++ Ok x ∷ rs)
collected_next [] x rs = refl
collected_next (y ∷ xs) x rs = ap (with_first y) (collected_next xs x rs)

-- kinds that are all there, and one more
same_list : (ks ls : List Kind) → ◌≡◌ {A = Option (List Kind)} (Some ks) (Some ls) → ks ≡ ls
same_list ks ls e = cc

first_next : (j k : Kind) (next found : Option (List Kind)) (ks : List Kind) → put_first j found ≡ Some ks
    → ((ls : List Kind) → found ≡ Some ls → next ≡ Some (ls ++ k ∷ [])) → put_first j next ≡ Some (ks ++ k ∷ [])
first_next j k next None ks e step = cc
first_next j k next (Some ls) ks e step = ap (put_first j) (step ls refl) ∙ ap (λ all. Some (all ++ k ∷ [])) (same_list (j ∷ ls) ks e)

pub there_next : (os : List (Option Kind)) (ks : List Kind) (k : Kind) → all_there os ≡ Some ks → all_there (os ++ Some k ∷ []) ≡ Some (ks ++ k ∷ [])
there_next [] ks k e = ap (λ all. Some (all ++ k ∷ [])) (same_list [] ks e)
there_next (None ∷ os) ks k e = cc
there_next (Some j ∷ os) ks k e = first_next j k (all_there (os ++ Some k ∷ [])) (all_there os) ks e (λ ls at. there_next os ls k at)

map_map : {A B C : Type 0} (g : B → C) (f : A → B) (xs : List A) → map g (map f xs) ≡ map (λ x. g (f x)) xs
map_map g f [] = refl
map_map g f (x ∷ xs) = ap (λ ys. g (f x) ∷ ys) (map_map g f xs)

-- the same of the kinds under variables of checked expressions, as the check walks over the arguments
pub typed_next : (vs : List Kind) (ts : List Typed) (t : Typed)
    → all_there (map (kind_under vs) ts) ≡ Some (map kind_of_typed ts) → kind_under vs t ≡ Some (kind_of_typed t)
    → all_there (map (kind_under vs) (ts ++ t ∷ [])) ≡ Some (map kind_of_typed (ts ++ t ∷ []))
typed_next vs ts t so_far here =
    ap all_there (map-append (kind_under vs) ts (t ∷ [])) ∙ ap (λ o. all_there (map (kind_under vs) ts ++ o ∷ [])) here
    ∙ there_next (map (kind_under vs) ts) (map kind_of_typed ts) (kind_of_typed t) so_far ∙ ap Some (sym (map-append kind_of_typed ts (t ∷ [])))

-- what the arguments from a place on come to
abbrev pub rest_of : List Definition → ℕ → List Expr → List (Result Typed CheckError)
rest_of ds depth es = map (λ j. j.argument depth) (map (judged ds) es)

-- an argument that is checked stands behind those before it
pub value_next : (ds : List Definition) (depth : ℕ) (done : List Typed) (es : List Expr) (i : ℕ) (e : Expr) (t : Typed) (whole : Result (List Typed) CheckError)
    → drop i es ≡ e ∷ drop (i + 1) es → (judged ds e).argument depth ≡ Ok t → collected (map Ok done ++ rest_of ds depth (drop i es)) ≡ whole
    → collected (map Ok (done ++ t ∷ []) ++ rest_of ds depth (drop (i + 1) es)) ≡ whole
value_next ds depth done es i e t whole at here so_far =
    collected_next done t (rest_of ds depth (drop (i + 1) es))
    ∙ ap (λ r. collected (map Ok done ++ r ∷ rest_of ds depth (drop (i + 1) es))) (sym here)
    ∙ ap (λ rest. collected (map Ok done ++ rest_of ds depth rest)) (sym at) ∙ so_far

-- a fault is that of all arguments
pub fault_next : (ds : List Definition) (depth : ℕ) (done : List Typed) (es : List Expr) (i : ℕ) (e : Expr) (fault : CheckError) (whole : Result (List Typed) CheckError)
    → drop i es ≡ e ∷ drop (i + 1) es → (judged ds e).argument depth ≡ Err fault → collected (map Ok done ++ rest_of ds depth (drop i es)) ≡ whole
    → whole ≡ Err fault
fault_next ds depth done es i e fault whole at here so_far =
    sym so_far ∙ ap (λ rest. collected (map Ok done ++ rest_of ds depth rest)) at
    ∙ ap (λ r. collected (map Ok done ++ r ∷ rest_of ds depth (drop (i + 1) es))) here ∙ collected_fault done fault (rest_of ds depth (drop (i + 1) es))

-- where none is left, those done are all
pub value_done : (ds : List Definition) (depth : ℕ) (done : List Typed) (es : List Expr) (whole : Result (List Typed) CheckError)
    → es ≡ [] → collected (map Ok done ++ rest_of ds depth es) ≡ whole → whole ≡ Ok done
value_done ds depth done es whole none so_far =
    sym so_far ∙ ap (λ rest. collected (map Ok done ++ rest_of ds depth rest)) none ∙ ap collected (append-nil (map Ok done)) ∙ collected_done done

-- a function that takes what the arguments count as, each as a value
pub takes_is : (b : Bool) (f : FuncId) (ts : List Typed) → IsTrue b ↔ TakesKinds f (map (λ t. of_each (kind_of_typed t)) ts)
    → b ≡ (is_scalar f && accepted (signature_of f) (map of_each (map kind_of_typed ts)))
takes_is b f ts each =
    same_from_decides b (is_scalar f && accepted (signature_of f) (map of_each (map kind_of_typed ts)))
    (rw (← (map_map of_each kind_of_typed ts)) at each)
    (Decides-and (is_scalar f) (accepted (signature_of f) (map of_each (map kind_of_typed ts))) (λ e. e, λ e. e) (accepted_decides (signature_of f) (map of_each (map kind_of_typed ts))))

-- a function on arguments that have their kinds has its kind
some_where : (passes : List Kind → Bool) (k : Kind) (o : Option (List Kind)) (ks : List Kind) → o ≡ Some ks → passes ks ≡ true → kind_where passes k o ≡ Some k
some_where passes k o ks there pass = ap (kind_where passes k) there ∙ ap (λ (b : Bool). if b then Some k else None) pass

apply_at : (vs : List Kind) (f : FuncId) (ts : List Typed) (t : Typed) (right fit : Bool) → accepted (signature_of f) (map kind_of_typed ts) ≡ fit
    → all_there (map (kind_under vs) ts) ≡ Some (map kind_of_typed ts)
    → (if not right then Err WrongCount else if fit then Ok (typed.Apply f ts) else Err WrongType) ≡ Ok t → kind_under vs t ≡ Some (kind_of_typed t)
apply_at vs f ts t true true pass there e =
    let is : kind_under vs (typed.Apply f ts) ≡ Some (kind_of_typed (typed.Apply f ts)) =
    under_apply vs f ts ∙ some_where (accepted (signature_of f)) (result_kind (signature_of f)) (all_there (map (kind_under vs) ts)) (map kind_of_typed ts) there pass
    ∙ ap Some (sym (kind_apply f ts)) in
    let same : typed.Apply f ts ≡ t = cc in
    subst (λ u. kind_under vs u ≡ Some (kind_of_typed u)) same is
apply_at vs f ts t true false pass there e = cc
apply_at vs f ts t false fit pass there e = cc

pub apply_typed : (vs : List Kind) (f : FuncId) (ts : List Typed) (t : Typed) → all_there (map (kind_under vs) ts) ≡ Some (map kind_of_typed ts)
    → applied f ts ≡ Ok t → kind_under vs t ≡ Some (kind_of_typed t)
apply_typed vs f ts t there e = apply_at vs f ts t (counted (signature_of f) (length ts)) (accepted (signature_of f) (map kind_of_typed ts)) refl there e

-- and so has a higher-order function
higher_at : (vs : List Kind) (h : HigherOrder) (f : FuncId) (ts : List Typed) (t : Typed) (right fit : Bool) → is_scalar f ≡ true
    → higher_accepted h f (map kind_of_typed ts) ≡ fit → all_there (map (kind_under vs) ts) ≡ Some (map kind_of_typed ts)
    → (if not right then Err WrongCount else if fit then Ok (typed.HigherOrder h f ts) else Err WrongType) ≡ Ok t → kind_under vs t ≡ Some (kind_of_typed t)
higher_at vs h f ts t true true scalar pass there e =
    let both : (is_scalar f && higher_accepted h f (map kind_of_typed ts)) ≡ true = and_from (is_scalar f) (higher_accepted h f (map kind_of_typed ts)) scalar pass in
    let is : kind_under vs (typed.HigherOrder h f ts) ≡ Some (kind_of_typed (typed.HigherOrder h f ts)) =
    under_higher_order vs h f ts
    ∙ some_where (λ given. is_scalar f && higher_accepted h f given) (kind_given h (result_type_of (signature_of f))) (all_there (map (kind_under vs) ts)) (map kind_of_typed ts) there both
    ∙ ap Some (sym (kind_higher_order h f ts)) in
    let same : typed.HigherOrder h f ts ≡ t = cc in
    subst (λ u. kind_under vs u ≡ Some (kind_of_typed u)) same is
higher_at vs h f ts t true false scalar pass there e = cc
higher_at vs h f ts t false fit scalar pass there e = cc

pub higher_typed : (vs : List Kind) (h : HigherOrder) (f : FuncId) (ts : List Typed) (t : Typed) → is_scalar f ≡ true
    → all_there (map (kind_under vs) ts) ≡ Some (map kind_of_typed ts) → higher_applied h f ts ≡ Ok t → kind_under vs t ≡ Some (kind_of_typed t)
higher_typed vs h f ts t scalar there e =
    higher_at vs h f ts t (higher_counted h f (length ts)) (higher_accepted h f (map kind_of_typed ts)) scalar refl there e

-- a second step after a first that gave something, or did not
pub then_next : {A B E : Type 0} (a : Result A E) (x : A) (next : A → Result B E) → a ≡ Ok x → (a >>= next) ≡ next x
then_next a x next e = ap (λ r. r >>= next) e

pub then_fault : {A B E : Type 0} (a : Result A E) (fault : E) (next : A → Result B E) → a ≡ Err fault → (a >>= next) ≡ Err fault
then_fault a fault next e = ap (λ r. r >>= next) e
