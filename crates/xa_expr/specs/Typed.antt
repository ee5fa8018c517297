-- The kind of a checked expression, and what makes it right under variables (XACML 3.0, core, appendix A.3).
use Rattle.std.specs.Prelude.{◌≡◌, ℕ, suc, Bool, true, false, ◌&&◌, ◌==◌, nat_le, if◌then◌else◌}
use Rattle.std.specs.Prelude.{List, [], ◌∷◌, map, length, slice_get, Option, Some, None}
use Rattle.std.specs.List.{list_all}
use Rattle.xa_value.specs.declared.data_type.DataType.TheVariants as type
use Rattle.xa_value.specs.Types.{same_type}
use Rattle.xa_func.specs.declared.func_id.FuncId.{FuncId}
use Rattle.xa_func.specs.declared.func_id.HigherOrder.{HigherOrder}
use Rattle.xa_func.specs.declared.func_id.HigherOrder.TheVariants as higher
use Rattle.xa_func.specs.declared.signature.Kind.{Kind}
use Rattle.xa_func.specs.declared.signature.Kind.TheVariants as kind
use Rattle.xa_func.specs.declared.signature.Parameters.{Parameters}
use Rattle.xa_func.specs.declared.signature.Parameters.TheVariants.{One, Two, Three, AtLeast, OneAndMore}
use Rattle.xa_func.specs.declared.signature.Signature.{Signature}
use Rattle.xa_func.specs.declared.signature.Signature.TheVariants as signature
use Rattle.xa_func.specs.Signature.{kind_of, of_each, takes, signature_of, result_type_of}
use Rattle.xa_func.specs.Table.{is_scalar}
use Rattle.xa_bag.specs.Applying.{kind_given}
use Rattle.xa_expr.specs.declared.typed.Typed.{Typed, out-Typed, fold-Typed}
use Rattle.xa_expr.specs.declared.typed.Typed.TheOpen.{Typed-F}

-- the kind of what a function of the signature gives; one that takes a function counts as one that gives a boolean
abbrev pub result_kind : Signature → Kind
result_kind (signature.FirstOrder parameters k) = k
result_kind (signature.HigherOrder f) = kind.Value type.Boolean

-- the kind of what a checked expression gives: a value or a bag, of a type
abbrev pub kind_at : {X : Type 0} → Typed-F X → Kind
kind_at (Typed-F.Literal v) = kind_of v
kind_at (Typed-F.Attribute d) = kind.Bag d.data_type
kind_at (Typed-F.Variable place k) = k
kind_at (Typed-F.Apply f ks) = result_kind (signature_of f)
kind_at (Typed-F.HigherOrder h f ks) = kind_given h (result_type_of (signature_of f))

abbrev pub kind_of_typed : Typed → Kind
kind_of_typed t = kind_at (out-Typed t)

-- two kinds are one
abbrev pub same_kind : Kind → Kind → Bool
same_kind (kind.Value t) (kind.Value u) = same_type t u
same_kind (kind.Bag t) (kind.Bag u) = same_type t u
same_kind _ _ = false

-- the kinds are those, one by one
abbrev pub same_kinds : List Kind → List Kind → Bool
same_kinds [] [] = true
same_kinds (k ∷ ks) (l ∷ ls) = same_kind k l && same_kinds ks ls
same_kinds _ _ = false

-- every argument is of the kind that belongs at its place: the test of `Fits` of xa_func/specs/Signature, and below
-- `accepted` that of `AcceptsKinds`; `accepts` of src/checking answers by both
abbrev pub fits : Parameters → List Kind → Bool
fits (One k) ks = same_kinds ks (k ∷ [])
fits (Two k l) ks = same_kinds ks (k ∷ l ∷ [])
fits (Three k l m) ks = same_kinds ks (k ∷ l ∷ m ∷ [])
fits (AtLeast least k) ks = nat_le least (length ks) && list_all (same_kind k) ks
fits (OneAndMore k l) [] = false
fits (OneAndMore k l) (m ∷ ms) = same_kind m k && list_all (same_kind l) ms

-- a function of the signature takes this many arguments; none takes a function here
abbrev pub counted : Signature → ℕ → Bool
counted (signature.FirstOrder parameters k) n = takes parameters n
counted (signature.HigherOrder f) n = false

-- a function of the signature takes arguments of these kinds; none takes a function here
abbrev pub accepted : Signature → List Kind → Bool
accepted (signature.FirstOrder parameters k) ks = fits parameters ks
accepted (signature.HigherOrder f) ks = false

-- how many of the kinds are bags'
abbrev pub bag_count : List Kind → ℕ
bag_count [] = 0
bag_count (kind.Bag t ∷ ks) = suc (bag_count ks)
bag_count (kind.Value t ∷ ks) = bag_count ks

-- the number of arguments that a higher-order function takes after its inner one: what that one takes, but two for
-- all-of-any and all-of-all
abbrev pub higher_counted : HigherOrder → FuncId → ℕ → Bool
higher_counted higher.AllOfAny f n = n == 2
higher_counted higher.AllOfAll f n = n == 2
higher_counted _ f n = counted (signature_of f) n

-- the kinds are those of two bags
abbrev pub are_two_bags : List Kind → Bool
are_two_bags (kind.Bag t ∷ kind.Bag u ∷ []) = true
are_two_bags _ = false

-- the arguments that are to be bags are: of any-of, all-of and map one, of any-of-any any, of all-of-any and all-of-all
-- both
abbrev pub has_bags : HigherOrder → List Kind → Bool
has_bags higher.AnyOf ks = bag_count ks == 1
has_bags higher.AllOf ks = bag_count ks == 1
has_bags higher.Map ks = bag_count ks == 1
has_bags higher.AnyOfAny ks = true
has_bags higher.AllOfAny ks = are_two_bags ks
has_bags higher.AllOfAll ks = are_two_bags ks

-- the inner function gives a boolean; that of map gives any value
abbrev pub gives_boolean : HigherOrder → FuncId → Bool
gives_boolean higher.Map f = true
gives_boolean _ f = same_type (result_type_of (signature_of f)) type.Boolean

-- the arguments after the inner function are what the higher-order function takes (A.3.12)
abbrev pub higher_accepted : HigherOrder → FuncId → List Kind → Bool
higher_accepted h f ks = has_bags h ks && accepted (signature_of f) (map of_each ks) && gives_boolean h f

-- a kind before others, if they are there
abbrev pub put_first : Kind → Option (List Kind) → Option (List Kind)
put_first k (Some ks) = Some (k ∷ ks)
put_first k None = None

-- all kinds, if each is there
abbrev pub all_there : List (Option Kind) → Option (List Kind)
all_there [] = Some []
all_there (Some k ∷ ks) = put_first k (all_there ks)
all_there (None ∷ ks) = None

-- the kind, if the arguments are all there and pass
abbrev pub kind_where : (List Kind → Bool) → Kind → Option (List Kind) → Option Kind
kind_where passes k (Some ks) = if passes ks then Some k else None
kind_where passes k None = None

-- a variable's kind, if the definition at its place has that
abbrev pub variable_kind : Option Kind → Kind → Option Kind
variable_kind (Some l) k = if same_kind l k then Some k else None
variable_kind None k = None

-- the kind that a checked expression has under variables of these kinds, or none: every function takes the arguments
-- that it has, and every variable is there and of the kind that was found
abbrev pub under_step : List Kind → Typed-F (Option Kind) → Option Kind
under_step variables (Typed-F.Literal v) = Some (kind_of v)
under_step variables (Typed-F.Attribute d) = Some (kind.Bag d.data_type)
under_step variables (Typed-F.Variable place k) = variable_kind (slice_get variables place) k
under_step variables (Typed-F.Apply f ks) =
    kind_where (accepted (signature_of f)) (result_kind (signature_of f)) (all_there ks)
under_step variables (Typed-F.HigherOrder h f ks) =
    kind_where (λ given. is_scalar f && higher_accepted h f given)
    (kind_given h (result_type_of (signature_of f))) (all_there ks)

abbrev pub kind_under : List Kind → Typed → Option Kind
kind_under variables = fold-Typed (Option Kind) (under_step variables)

-- the expression has its kind under variables of these kinds
abbrev pub IsTyped : List Kind → Typed → Type 0
IsTyped variables t = kind_under variables t ≡ Some (kind_of_typed t)
