-- The places of variables among their definitions.
use Rattle.std.proofs.Common.{◌≡◌, ℕ, suc, ◌+◌, ◌<◌, Bool, true, false, cond, List, [], ◌∷◌, ◌++◌, length, get_or, refl, sym, ap, subst, ◌∙◌, arith, add-one, add-zero, zero-add, append-nil, append_assoc}
use Rattle.std.specs.Prelude.{bytes_eq, Option, Some, None, is_some, Result, Ok, Err}
use Rattle.std.specs.List.{position_from}
use Rattle.std.specs.Option.{option_or, option_map}
use Rattle.std.proofs.lemmas.Iterator.Adapters.{position_from-zero}
use Rattle.std.proofs.lemmas.Option.{slice_get-map, slice_get-get_or}
use Rattle.std.proofs.lemmas.Slice.Eq.{bytes_eq-Decides}
use Rattle.xa_func.specs.declared.signature.Kind.{Kind}
use Rattle.xa_expr.specs.declared.check_error.CheckError.{CheckError}
use Rattle.xa_expr.specs.declared.check_error.CheckError.TheVariants.{UnknownVariable}
use Rattle.xa_expr.specs.declared.typed.Typed.{Typed}
use Rattle.xa_expr.specs.declared.typed.Typed.TheVariants as typed
use Rattle.xa_expr.specs.declared.variables.Definition.{Definition}
use Rattle.xa_expr.specs.Typed.{kind_of_typed, kind_under, variable_kind}
use Rattle.xa_expr.specs.Typing.{variable_from, variable_named}
use Rattle.xa_expr.specs.Variables.{kinds, AreTyped, AreTypedAfter, place_named, is_defined}
use Rattle.xa_expr.proofs.KindLemmas.{same_kind_decides}
use Rattle.xa_expr.proofs.UnderLemmas.{under_variable, kind_variable}

-- the definition has the name
abbrev has_name : List ℕ → Definition → Bool
has_name name d = bytes_eq d.name name

abbrev place_from : ℕ → List Definition → List ℕ → Option ℕ
place_from p ds name = position_from (has_name name) p ds

from_zero : (ds : List Definition) (name : List ℕ) → place_named ds name ≡ place_from 0 ds name
from_zero ds name = position_from-zero (has_name name) ds

-- the definition at the place is the one that the name names, counted from a place
record IsFound (p n : ℕ) (ds : List Definition) (e : Definition) (found : Result Typed CheckError) : Type 0 where
  pub after : ℕ
  pub is_after : n ≡ p + after
  pub within : after < length ds
  pub variable : found ≡ Ok (typed.Variable n (kind_of_typed (get_or ds after e).expression))

found_first : (d : Definition) (ds : List Definition) (p n : ℕ) (e : Definition) (rest : Option ℕ) (found : Result Typed CheckError) (first : Bool)
    → cond first (Some p) rest ≡ Some n → (rest ≡ Some n → IsFound (suc p) n ds e found)
    → IsFound p n (d ∷ ds) e (cond first (Ok (typed.Variable p (kind_of_typed d.expression))) found)
found_first d ds p n e rest found true at step =
    let same : p ≡ n = cc in
    record { after = 0; is_after = omega arith; within = omega arith; variable = ap (λ m. Ok (typed.Variable m (kind_of_typed d.expression))) same }
found_first d ds p n e rest found false at step =
    let later = step at in
    record { after = suc later.after; is_after = omega (arith, later.is_after); within = omega (arith, later.within); variable = later.variable }

found_from : (name : List ℕ) (ds : List Definition) (p n : ℕ) (e : Definition) → place_from p ds name ≡ Some n → IsFound p n ds e (variable_from p ds name)
found_from name [] p n e at = cc
found_from name (d ∷ ds) p n e at =
    found_first d ds p n e (place_from (p + 1) ds name) (variable_from (suc p) ds name) (has_name name d) at
    (λ later. found_from name ds (suc p) n e (rw add-one at later))

-- the variable of a name that has a place
pub variable_there : (ds : List Definition) (name : List ℕ) (n : ℕ) (d : Definition) → place_named ds name ≡ Some n → d ≡ get_or ds n d
    → variable_named ds name ≡ Ok (typed.Variable n (kind_of_typed d.expression))
variable_there ds name n d at is =
    let found = found_from name ds 0 n d (sym (from_zero ds name) ∙ at) in
    let same : found.after ≡ n = omega (arith, found.is_after) in
    found.variable ∙ ap (λ m. Ok (typed.Variable n (kind_of_typed (get_or ds m d).expression))) same
    ∙ ap (λ (e : Definition). Ok (typed.Variable n (kind_of_typed e.expression))) (sym is)

pub place_within : (ds : List Definition) (name : List ℕ) (n : ℕ) (d : Definition) → place_named ds name ≡ Some n → n < length ds
place_within ds name n d at =
    let found = found_from name ds 0 n d (sym (from_zero ds name) ∙ at) in
    omega (arith, found.is_after, found.within)

-- its kind is the kind of its definition
same_itself : (k : Kind) → variable_kind (Some k) k ≡ Some k
same_itself k = rw ((same_kind_decides k k).1 refl) refl

pub variable_typed : (ds : List Definition) (n : ℕ) (d : Definition) → n < length ds → d ≡ get_or ds n d
    → kind_under (kinds ds) (typed.Variable n (kind_of_typed d.expression)) ≡ Some (kind_of_typed (typed.Variable n (kind_of_typed d.expression)))
variable_typed ds n d within is =
    under_variable (kinds ds) n (kind_of_typed d.expression)
    ∙ ap (λ o. variable_kind o (kind_of_typed d.expression))
    (slice_get-map (λ (e : Definition). kind_of_typed e.expression) ds n ∙ ap (option_map (λ (e : Definition). kind_of_typed e.expression)) (slice_get-get_or ds n d within ∙ ap Some (sym is)))
    ∙ same_itself (kind_of_typed d.expression) ∙ ap Some (sym (kind_variable n (kind_of_typed d.expression)))

-- there is no variable of a name that has no place
unknown_first : (p : ℕ) (t : Typed) (rest : Option ℕ) (found : Result Typed CheckError) (first : Bool)
    → cond first (Some p) rest ≡ None → (rest ≡ None → found ≡ Err UnknownVariable) → cond first (Ok t) found ≡ Err UnknownVariable
unknown_first p t rest found true at step = cc
unknown_first p t rest found false at step = step at

unknown_from : (name : List ℕ) (ds : List Definition) (p : ℕ) → place_from p ds name ≡ None → variable_from p ds name ≡ Err UnknownVariable
unknown_from name [] p at = refl
unknown_from name (d ∷ ds) p at =
    unknown_first p (typed.Variable p (kind_of_typed d.expression)) (place_from (p + 1) ds name) (variable_from (suc p) ds name) (has_name name d) at
    (λ later. unknown_from name ds (suc p) (rw add-one at later))

pub variable_unknown : (ds : List Definition) (name : List ℕ) → place_named ds name ≡ None → variable_named ds name ≡ Err UnknownVariable
variable_unknown ds name at = unknown_from name ds 0 (sym (from_zero ds name) ∙ at)

-- a definition whose expression has its kind may stand at the end
typed_after : (before : List Kind) (ds : List Definition) (d : Definition) → AreTypedAfter before ds
    → kind_under (before ++ kinds ds) d.expression ≡ Some (kind_of_typed d.expression) → AreTypedAfter before (ds ++ d ∷ [])
typed_after before [] d so_far here = (subst (λ ks. kind_under ks d.expression ≡ Some (kind_of_typed d.expression)) (append-nil before) here, tt)
typed_after before (e ∷ ds) d so_far here = (
  so_far.0,
  typed_after (before ++ kind_of_typed e.expression ∷ []) ds d so_far.1
      (subst (λ ks. kind_under ks d.expression ≡ Some (kind_of_typed d.expression)) (sym (append_assoc before (kind_of_typed e.expression ∷ []) (kinds ds))) here),
)

pub typed_last : (ds : List Definition) (d : Definition) → AreTyped ds → kind_under (kinds ds) d.expression ≡ Some (kind_of_typed d.expression) → AreTyped (ds ++ d ∷ [])
typed_last ds d so_far here = typed_after [] ds d so_far here

-- the places with one more definition at the end
last_first : (p : ℕ) (n : ℕ) (x : Option ℕ) (rest next : Option ℕ) (first : Bool) → next ≡ option_or rest x
    → cond first (Some p) next ≡ option_or (cond first (Some p) rest) x
last_first p n x rest next true e = refl
last_first p n x rest next false e = e

place_last : (name : List ℕ) (ds : List Definition) (d : Definition) (p : ℕ)
    → place_from p (ds ++ d ∷ []) name ≡ option_or (place_from p ds name) (cond (has_name name d) (Some (p + length ds)) None)
place_last name [] d p = rw (add-zero p) refl
place_last name (e ∷ ds) d p =
    let same : p + 1 + length ds ≡ p + suc (length ds) = omega arith in
    last_first p p (cond (has_name name d) (Some (p + suc (length ds))) None) (place_from (p + 1) ds name) (place_from (p + 1) (ds ++ d ∷ []) name) (has_name name e)
    (place_last name ds d (p + 1) ∙ ap (λ m. option_or (place_from (p + 1) ds name) (cond (has_name name d) (Some m) None)) same)

none_or : (x : Option ℕ) → option_or x None ≡ x
none_or None = refl
none_or (Some n) = refl

no_place : (o : Option ℕ) → is_some o ≡ false → o ≡ None
no_place None e = refl
no_place (Some n) e = cc

next_at : (ds : List Definition) (d : Definition) (name : List ℕ) (old new : Option ℕ) (here : Bool) → bytes_eq d.name name ≡ here
    → old ≡ place_named ds name → is_defined ds d.name ≡ false → new ≡ cond here (Some (length ds)) old
    → new ≡ option_or (place_from 0 ds name) (cond here (Some (0 + length ds)) None)
next_at ds d name old new true here was other is =
    let same = (bytes_eq-Decides d.name name).0 here in
    let none = sym (from_zero ds name) ∙ ap (place_named ds) (sym same) ∙ no_place (place_named ds d.name) other in
    is ∙ ap Some (sym (zero-add (length ds))) ∙ ap (λ o. option_or o (Some (0 + length ds))) (sym none)
next_at ds d name old new false here was other is =
    is ∙ was ∙ from_zero ds name ∙ sym (none_or (place_from 0 ds name))

pub place_next : (ds : List Definition) (d : Definition) (name : List ℕ) (old new : Option ℕ)
    → old ≡ place_named ds name → is_defined ds d.name ≡ false → new ≡ cond (bytes_eq d.name name) (Some (length ds)) old
    → new ≡ place_named (ds ++ d ∷ []) name
place_next ds d name old new was other is =
    next_at ds d name old new (bytes_eq d.name name) refl was other is ∙ sym (place_last name ds d 0) ∙ sym (from_zero (ds ++ d ∷ []) name)
