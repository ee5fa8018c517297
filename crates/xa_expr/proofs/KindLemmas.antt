-- The tests on kinds hold exactly where the facts on kinds do that xa_func states.
use Rattle.std.proofs.Common.{◌≡◌, ℕ, Bool, true, List, [], ◌∷◌, get_or, length, refl, sym, ap, ◌∙◌}
use Rattle.std.specs.Prelude.{◌&&◌, nat_le, ◌↔◌, IsTrue}
use Rattle.std.specs.Bool.{Decides}
use Rattle.std.specs.List.{list_all}
use Rattle.std.proofs.lemmas.Bool.{eqb-true, eq-eqb, leb-true, le-leb}
use Rattle.std.proofs.lemmas.Bool.Decides.{Decides-and, Decides-like, same_from_decides}
use Rattle.xa_value.specs.declared.data_type.DataType.{DataType}
use Rattle.xa_value.specs.declared.data_type.DataType.TheVariants.{String, Boolean, Integer, Date, Time, DateTime, DayTimeDuration, YearMonthDuration, AnyUri, HexBinary, Base64Binary}
use Rattle.xa_value.specs.Types.{all_types, place_of, same_type}
use Rattle.xa_func.specs.declared.signature.Kind.{Kind}
use Rattle.xa_func.specs.declared.signature.Kind.TheVariants as kind
use Rattle.xa_func.specs.declared.signature.Parameters.{Parameters}
use Rattle.xa_func.specs.declared.signature.Parameters.TheVariants.{One, Two, Three, AtLeast, OneAndMore}
use Rattle.xa_func.specs.declared.signature.Signature.{Signature}
use Rattle.xa_func.specs.declared.signature.Signature.TheVariants as signature
use Rattle.xa_func.specs.Signature.{Every, Fits, AcceptsKinds}
use Rattle.xa_expr.specs.Typed.{same_kind, same_kinds, fits, accepted}

-- the type at a place
type_at : ℕ → DataType
type_at n = get_or all_types n String

placed : (t : DataType) → type_at (place_of t) ≡ t
unfolding type_at
placed String = refl
placed Boolean = refl
placed Integer = refl
placed Date = refl
placed Time = refl
placed DateTime = refl
placed DayTimeDuration = refl
placed YearMonthDuration = refl
placed AnyUri = refl
placed HexBinary = refl
placed Base64Binary = refl

-- types at one place are one type
pub same_type_decides : (t u : DataType) → Decides (same_type t u) (t ≡ u)
same_type_decides t u =
    (λ e. sym (placed t) ∙ ap type_at (eqb-true (place_of t) (place_of u) e) ∙ placed u, λ e. eq-eqb (place_of t) (place_of u) (ap place_of e))

pub same_kind_decides : (k l : Kind) → Decides (same_kind k l) (k ≡ l)
same_kind_decides (kind.Value t) (kind.Value u) = Decides-like (same_type t u) (λ e. cc) (λ e. cc) (same_type_decides t u)
same_kind_decides (kind.Bag t) (kind.Bag u) = Decides-like (same_type t u) (λ e. cc) (λ e. cc) (same_type_decides t u)
same_kind_decides (kind.Value t) (kind.Bag u) = (λ e. cc, λ e. cc)
same_kind_decides (kind.Bag t) (kind.Value u) = (λ e. cc, λ e. cc)

pub same_kinds_decides : (ks ls : List Kind) → Decides (same_kinds ks ls) (ks ≡ ls)
same_kinds_decides [] [] = (λ e. refl, λ e. refl)
same_kinds_decides (k ∷ ks) [] = (λ e. cc, λ e. cc)
same_kinds_decides [] (l ∷ ls) = (λ e. cc, λ e. cc)
same_kinds_decides (k ∷ ks) (l ∷ ls) =
    Decides-like (same_kind k l && same_kinds ks ls) (λ e. cc) (λ e. (cc, cc)) (Decides-and (same_kind k l) (same_kinds ks ls) (same_kind_decides k l) (same_kinds_decides ks ls))

pub every_decides : (k : Kind) (ks : List Kind) → Decides (list_all (same_kind k) ks) (Every k ks)
every_decides k [] = (λ e. tt, λ e. refl)
every_decides k (l ∷ ls) =
    Decides-and (same_kind k l) (list_all (same_kind k) ls) (Decides-like (same_kind k l) (λ e. sym e) (λ e. sym e) (same_kind_decides k l)) (every_decides k ls)

-- the test on parameters is the statement on them
pub fits_decides : (parameters : Parameters) (ks : List Kind) → Decides (fits parameters ks) (Fits parameters ks)
fits_decides (One k) ks = same_kinds_decides ks (k ∷ [])
fits_decides (Two k l) ks = same_kinds_decides ks (k ∷ l ∷ [])
fits_decides (Three k l m) ks = same_kinds_decides ks (k ∷ l ∷ m ∷ [])
fits_decides (AtLeast least k) ks =
    Decides-and (nat_le least (length ks)) (list_all (same_kind k) ks) (leb-true least (length ks), le-leb least (length ks)) (every_decides k ks)
fits_decides (OneAndMore k l) [] = (λ e. cc, λ e. absurd e)
fits_decides (OneAndMore k l) (m ∷ ms) = Decides-and (same_kind m k) (list_all (same_kind l) ms) (same_kind_decides m k) (every_decides l ms)

-- arguments are accepted exactly where the signature accepts their kinds
pub accepted_decides : (s : Signature) (ks : List Kind) → Decides (accepted s ks) (AcceptsKinds s ks)
accepted_decides (signature.FirstOrder parameters k) ks = fits_decides parameters ks
accepted_decides (signature.HigherOrder f) ks = (λ e. cc, λ e. absurd e)

-- what a call says that accepts arguments
pub accepts_is : (b : Bool) (s : Signature) (ks : List Kind) → IsTrue b ↔ AcceptsKinds s ks → b ≡ accepted s ks
accepts_is b s ks each = same_from_decides b (accepted s ks) (each.0, each.1) (accepted_decides s ks)

-- accepted arguments are those that the signature accepts
pub accepts_of : (s : Signature) (ks : List Kind) → accepted s ks ≡ true → AcceptsKinds s ks
accepts_of s ks e = (accepted_decides s ks).0 e
