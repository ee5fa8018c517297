-- The orders of names, of digests and of documents' keys: total, and only equal keys tie.
use Rattle.std.proofs.Common.{◌≡◌, refl, rules}
use Rattle.std.specs.Cmp.{IsTotalOrder}
use Rattle.std.specs.Cmp.Lexicographic.{nat_list_cmp_total}
use Rattle.std.specs.Cmp.Rules.{comparing}
use Rattle.std.specs.declared.cmp.Ordering.{Ordering}
use Rattle.std.specs.declared.cmp.Ordering.TheVariants.{Less, Equal, Greater}
use Rattle.std.specs.FinMap.{IsAntisymmetric, nat_cmp-IsAntisymmetric, slice_cmp-IsAntisymmetric}
use Rattle.std.specs.Ordering.{ordering_then}
use Rattle.xa_policy.specs.declared.reference.DocumentKind.{DocumentKind}
use Rattle.xa_policy.specs.declared.reference.DocumentKind.TheVariants.{Policy, PolicySet}
use Rattle.xa_policy.specs.DocumentKey.{compare_keys, place_of_kind}
use Rattle.xa_records.specs.DomainState.{compare_bytes}

pub bytes_total : IsTotalOrder compare_bytes
bytes_total = nat_list_cmp_total

pub bytes_exact : IsAntisymmetric compare_bytes
bytes_exact = slice_cmp-IsAntisymmetric nat_cmp-IsAntisymmetric

pub keys_total : IsTotalOrder compare_keys
keys_total = search (comparing, rules)

both_tie : (a b : Ordering) → ordering_then a b ≡ Equal → (a ≡ Equal) × (b ≡ Equal)
both_tie Less b e = absurd (cc)
both_tie Equal b e = (refl, e)
both_tie Greater b e = absurd (cc)

one_kind : (a b : DocumentKind) → place_of_kind a ≡ place_of_kind b → a ≡ b
one_kind Policy Policy e = refl
one_kind Policy PolicySet e = cc
one_kind PolicySet Policy e = cc
one_kind PolicySet PolicySet e = refl

pub keys_exact : IsAntisymmetric compare_keys
keys_exact x y e =
    let outer = both_tie _ _ e in
    let inner = both_tie _ _ outer.0 in
    let kind : x.kind ≡ y.kind = one_kind _ _ (nat_cmp-IsAntisymmetric _ _ inner.0) in
    let id : x.id ≡ y.id = slice_cmp-IsAntisymmetric nat_cmp-IsAntisymmetric _ _ inner.1 in
    let version : x.version ≡ y.version = slice_cmp-IsAntisymmetric nat_cmp-IsAntisymmetric _ _ outer.1 in
    λ i. record { kind = kind i; id = id i; version = version i }
