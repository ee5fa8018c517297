-- The names of variables, with one more behind the others.
use Rattle.std.proofs.Common.{◌≡◌, ℕ, Bool, true, false, cond, List, [], ◌∷◌, ◌++◌, refl, ap, ◌∙◌}
use Rattle.std.specs.Prelude.{bytes_eq, ◌||◌}
use Rattle.xa_notation.specs.declared.written.WrittenVariable.{WrittenVariable}
use Rattle.xa_notation.specs.Shape.{is_taken}

first_or : (here first rest : Bool) → cond here true (first || rest) ≡ (first || cond here true rest)
first_or true true rest = refl
first_or true false rest = refl
first_or false first rest = refl

last_taken : (here : Bool) → cond here true false ≡ (here || false)
last_taken true = refl
last_taken false = refl

taken_last : (vs : List WrittenVariable) (v : WrittenVariable) (name : List ℕ) → cond (bytes_eq v.name name) true (is_taken vs name) ≡ is_taken (vs ++ v ∷ []) name
taken_last [] v name = last_taken (bytes_eq v.name name)
taken_last (w ∷ vs) v name =
    first_or (bytes_eq v.name name) (bytes_eq w.name name) (is_taken vs name) ∙ ap (λ b. bytes_eq w.name name || b) (taken_last vs v name)

-- the names that are taken, with one more
pub taken_next : (vs : List WrittenVariable) (v : WrittenVariable) (name : List ℕ) (old new : Bool)
    → old ≡ is_taken vs name → new ≡ cond (bytes_eq v.name name) true old → new ≡ is_taken (vs ++ v ∷ []) name
taken_next vs v name old new was is = is ∙ ap (cond (bytes_eq v.name name) true) was ∙ taken_last vs v name
