-- A kind, an id and a version have one place.
use Rattle.std.proofs.Common.{◌≡◌, ℕ, ◌<◌, ◌≤◌, Bool, true, false, ◌⊎◌, inl, inr, List, length, get_or, Some, refl, sym, ap, ◌∙◌, arith}
use Rattle.std.specs.Prelude.{◌&&◌, slice_get}
use Rattle.std.proofs.lemmas.Bool.{cases_lt}
use Rattle.std.proofs.lemmas.List.Quantifiers.{position-Some}
use Rattle.std.proofs.lemmas.Option.{get_or_from_slice_get}
use Rattle.xa_policy.specs.declared.reference.Reference.{Reference}
use Rattle.xa_link.specs.declared.active.Active.{Active}
use Rattle.xa_link.specs.Resolution.{IsOfOneVersion, OnePlaceForEachVersion, fits, none_later, resolve}

-- a test that a reference makes does not tell documents of one version apart
stands_for : List Active → Reference → Active → Bool
stands_for active reference document = fits reference document && none_later active reference document

same_test : (active : List Active) (reference : Reference) (a b : Active) → IsOfOneVersion a b → stands_for active reference a ≡ stands_for active reference b
unfolding stands_for
same_test active reference a b same = rw (same.kind, same.id, same.version) refl

-- none of one version stands before the place that is resolved
none_before : (active : List Active) (reference : Reference) (i k : ℕ) (a b : Active) → resolve active reference ≡ Some k
    → slice_get active i ≡ Some a → slice_get active k ≡ Some b → IsOfOneVersion a b → k ≤ i
unfolding stands_for
none_before active reference i k a b resolves at_i at_k same = by_order (cases_lt i k)
  where
    found : (k < length active) × (stands_for active reference (get_or active k a) ≡ true) × ((j : ℕ) → j < k → stands_for active reference (get_or active j a) ≡ false)
    found = position-Some (stands_for active reference) active k a resolves

    by_order : (i < k) ⊎ (k ≤ i) → k ≤ i
    by_order (inr not_before) = not_before
    by_order (inl before) =
        let passes : stands_for active reference b ≡ true = sym (ap (stands_for active reference) (get_or_from_slice_get active k b a at_k)) ∙ found.1 in
        let fails : stands_for active reference a ≡ false = sym (ap (stands_for active reference) (get_or_from_slice_get active i a a at_i)) ∙ found.2 i before in
        absurd (let f : true ≡ false = sym passes ∙ sym (same_test active reference a b same) ∙ fails in cc)

pub one_place : OnePlaceForEachVersion
one_place active first second i k a b first_is second_is at_i at_k same =
    let not_before : k ≤ i = none_before active second i k a b second_is at_i at_k same in
    let not_behind : i ≤ k = none_before active first k i b a first_is at_k at_i (record { kind = sym same.kind; id = sym same.id; version = sym same.version }) in
    omega (arith, not_before, not_behind)
