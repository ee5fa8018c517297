-- The orders in which documents are looked for.
use Rattle.std.specs.Prelude.{◌≡◌, ℕ, ◌<◌, true, not, if◌then◌else◌}
use Rattle.std.specs.Prelude.{List, [], ◌∷◌, length, nat_eq, slice_get, Option, Some, None}
use Rattle.std.specs.Cmp.Lexicographic.{slice_cmp}
use Rattle.std.specs.List.{list_any}
use Rattle.std.specs.List.Sorted.{IsSorted}
use Rattle.std.specs.Option.{option_cmp}
use Rattle.std.specs.Ordering.{flip_args, nat_cmp, on, ordering_then, then_cmp}
use Rattle.std.specs.declared.cmp.Ordering.{Ordering}
use Rattle.std.specs.declared.cmp.Ordering.TheVariants.{Less, Equal, Greater}
use Rattle.xa_policy.specs.declared.pattern.PatternPart.{PatternPart}
use Rattle.xa_policy.specs.declared.reference.DocumentKind.{DocumentKind}
use Rattle.xa_policy.specs.DocumentKey.{place_of_kind}
use Rattle.xa_policy.specs.declared.reference.Reference.{Reference}
use Rattle.xa_policy.specs.Version.{compare_versions}
use Rattle.xa_link.specs.declared.active.Active.{Active}
use Rattle.xa_link.specs.placing.Seen.{seen_by, wanted_by}
use Rattle.xa_link.specs.Resolution.{not_after, not_before}

-- a kind, by its place among kinds, and an id
pub record Name : Type 0 where
  pub rank : ℕ
  pub id : List ℕ

abbrev pub name : DocumentKind → List ℕ → Name
name kind id = record { rank = place_of_kind kind; id = id }

abbrev pub name_of : Active → Name
name_of document = name document.kind document.id

-- the order of names: by kind and id
abbrev pub compare_names : Name → Name → Ordering
compare_names = then_cmp (on (λ n. n.rank) nat_cmp) (on (λ n. n.id) (slice_cmp nat_cmp))

-- what a pattern tells documents apart by, but for how new their versions are
pub record Group : Type 0 where
  pub version : List ℕ
  pub name : Name

-- the group of a document
abbrev pub group_of : Option (List PatternPart) → Active → Group
group_of pattern document = record { version = seen_by pattern document.version; name = name_of document }

-- the group in which all documents are that fit, and none that doesn't but for the reference's bounds
abbrev pub group_wanted : Reference → Group
group_wanted reference =
    record { version = wanted_by reference.version; name = name reference.kind reference.id }

-- the order of groups
abbrev pub compare_groups : Group → Group → Ordering
compare_groups = then_cmp (on (λ g. g.version) (slice_cmp nat_cmp)) (on (λ g. g.name) compare_names)

-- the order of documents for a pattern: by their groups, and then by version
abbrev pub compare_documents : Option (List PatternPart) → Active → Active → Ordering
compare_documents pattern = then_cmp (on (group_of pattern) compare_groups) (on (λ d. d.version) compare_versions)

-- the order of places: the greater document comes first, and of like ones the first
abbrev pub compare_places : Option (List PatternPart) → List Active → ℕ → ℕ → Ordering
compare_places pattern active =
    then_cmp (flip_args (on (slice_get active) (option_cmp (compare_documents pattern)))) nat_cmp

-- how what a pattern sees of two documents compares
abbrev pub compare_seen_found : Option (List PatternPart) → Option Active → Option Active → Ordering
compare_seen_found pattern = option_cmp (on (λ d. seen_by pattern d.version) (slice_cmp nat_cmp))

-- the places of all documents, in the order of `compare_places`
pub record IsOrder (pattern : Option (List PatternPart)) (active : List Active) (order : List ℕ) : Type 0 where
  pub all : (place : ℕ) → place < length active → list_any (nat_eq place) order ≡ true
  pub sorted : IsSorted (compare_places pattern active) order

-- an order of the places, or none yet
abbrev pub IsOrderIfAny : Option (List PatternPart) → List Active → List ℕ → Type 0
IsOrderIfAny pattern active [] = Unit {0}
IsOrderIfAny pattern active (first ∷ rest) = IsOrder pattern active (first ∷ rest)

-- where a version stands to those within a reference's bounds, the newest being the first
abbrev pub by_bounds : Reference → List ℕ → Ordering
by_bounds reference v =
    if not (not_after reference.latest v) then Less
    else if not (not_before reference.earliest v) then Greater else Equal

-- where a document stands to those that fit, in the order for the reference's pattern
abbrev pub standing_of : Reference → Active → Ordering
standing_of reference document =
    ordering_then (compare_groups (group_wanted reference) (group_of reference.version document))
    (by_bounds reference document.version)

-- where the document at a place stands to those that fit: after all of them, if there is none
abbrev pub standing : Reference → Option Active → Ordering
standing reference None = Greater
standing reference (Some document) = standing_of reference document
