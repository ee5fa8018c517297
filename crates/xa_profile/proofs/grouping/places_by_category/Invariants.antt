use Rattle.std.proofs.Common.{take}
use Rattle.std.specs.BTreeMap.{get_by}
use Rattle.std.specs.Cmp.Lexicographic.{slice_cmp}
use Rattle.std.specs.Ordering.{nat_cmp}
use Rattle.xa_profile.specs.Individuals.{categories}
use Rattle.xa_profile.proofs.GroupLemmas.{IsGrouped}
use Rattle.xa_profile.proofs.grouping.places_by_category.Given as goal

-- the objects so far are grouped
abbrev pub invariant-loop-place : goal.invariant-loop-place
invariant-loop-place l = IsGrouped l.objects l.place (categories (take l.place l.objects)) l.groups.items (λ q. get_by (λ k. slice_cmp nat_cmp q k.now) l.numbers)
