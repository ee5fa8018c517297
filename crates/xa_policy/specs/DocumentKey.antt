-- The keys of documents, their order, and the names of kinds.
use Rattle.std.specs.Prelude.{ℕ, Bool, true, false, List, Option, Some, None, bytes_eq, codes, if◌then◌else◌}
use Rattle.std.specs.Cmp.Lexicographic.{slice_cmp}
use Rattle.std.specs.Ordering.{nat_cmp, on, then_cmp}
use Rattle.std.specs.declared.cmp.Ordering.{Ordering}
use Rattle.xa_policy.specs.declared.document_key.DocumentKey.{DocumentKey}
use Rattle.xa_policy.specs.declared.reference.DocumentKind.{DocumentKind}
use Rattle.xa_policy.specs.declared.reference.DocumentKind.TheVariants.{Policy, PolicySet}
use Rattle.xa_policy.specs.Version.{compare_versions}

-- whether two kinds are the same
abbrev pub same_kind : DocumentKind → DocumentKind → Bool
same_kind Policy Policy = true
same_kind Policy PolicySet = false
same_kind PolicySet Policy = false
same_kind PolicySet PolicySet = true

-- policies stand before policy sets
abbrev pub place_of_kind : DocumentKind → ℕ
place_of_kind Policy = 0
place_of_kind PolicySet = 1

-- the name of a kind, in listings and in paths
unfoldable pub name_of_kind : DocumentKind → List ℕ
name_of_kind Policy = codes "policy"
name_of_kind PolicySet = codes "policyset"

-- the kind of that name
abbrev pub kind_named : List ℕ → Option DocumentKind
kind_named name =
    if bytes_eq name (name_of_kind Policy) then Some Policy
    else if bytes_eq name (name_of_kind PolicySet) then Some PolicySet else None

-- the order of documents' keys: by the kind, then by the bytes of the id, and then by the numbers of the version
abbrev pub compare_keys : DocumentKey → DocumentKey → Ordering
compare_keys =
    then_cmp (then_cmp (on (λ k. place_of_kind k.kind) nat_cmp) (on (λ k. k.id) (slice_cmp nat_cmp)))
    (on (λ k. k.version) compare_versions)
