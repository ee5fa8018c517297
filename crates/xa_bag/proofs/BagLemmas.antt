-- Values of a type, put together and left out.
use Rattle.std.proofs.Common.{◌≡◌, ap, sym, ◌∙◌, subst, ℕ, suc, zero, ◌-◌, ◌<◌, ◌≤◌, arith, List, [], ◌∷◌, ◌++◌, length, get_or, take, drop, drop-cons}
use Rattle.std.proofs.lemmas.List.{take_rest}
use Rattle.xa_value.specs.declared.data_type.DataType.{DataType}
use Rattle.xa_value.specs.declared.value.Value.{Value}
use Rattle.xa_value.specs.Order.{type_of}
use Rattle.xa_func.specs.declared.signature.Kind.{Kind}
use Rattle.xa_func.specs.declared.signature.Kind.TheVariants as kind
use Rattle.xa_func.specs.Signature.{kind_of}
use Rattle.xa_bag.specs.Bag.{OfType}

-- one more value of the type
pub of_type_push : (t : DataType) (vs : List Value) (v : Value) → OfType t vs → type_of v ≡ t → OfType t (vs ++ v ∷ [])
of_type_push t [] v typed here = (here, tt)
of_type_push t (w ∷ vs) v typed here = (typed.0, of_type_push t vs v typed.1 here)

-- the type of one of them
pub of_type_at : (t : DataType) (vs : List Value) (i : ℕ) (v : Value) → OfType t vs → v ≡ get_or vs i v → i < length vs → type_of v ≡ t
of_type_at t [] i v typed is within = absurd (omega arith)
of_type_at t (w ∷ vs) zero v typed is within = ap type_of is ∙ typed.0
of_type_at t (w ∷ vs) (suc i) v typed is within = of_type_at t vs i v typed.1 is (omega arith)

-- a list is its first and the rest
pub first_rest : {X : Type 0} (xs : List X) (x : X) → x ≡ get_or xs 0 x → 1 ≤ length xs → xs ≡ x ∷ take (length xs - 1) (drop 1 xs)
first_rest xs x is some = drop-cons xs 0 x (omega arith) ∙ ap (λ y. y ∷ drop 1 xs) (sym is) ∙ ap (λ ys. x ∷ ys) (sym (take_rest xs 1))

-- what the function takes, with a value of the type in its place
pub can_take : (can : List Kind → Type 0) (before after : List Kind) (v : Value) (t : DataType)
    → type_of v ≡ t → can (before ++ kind.Value t ∷ after) → can (before ++ kind_of v ∷ after)
can_take can before after v t type may = let P : DataType → Type 0 = λ s. can (before ++ kind.Value s ∷ after) in subst P (sym type) may
