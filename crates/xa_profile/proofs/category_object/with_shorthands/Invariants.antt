use Rattle.std.proofs.Common.{◌≡◌, drop}
use Rattle.xa_profile.specs.parsing.Tree.{view}
use Rattle.xa_profile.specs.Request.{under_shorthands}
use Rattle.xa_profile.specs.parsing.Json.{behind}
use Rattle.xa_profile.proofs.category_object.with_shorthands.Given as goal

-- what was read, and then what stands under the shorthands that are left
abbrev pub invariant-loop-category : goal.invariant-loop-category
invariant-loop-category l =
    behind l.objects (under_shorthands (drop l.category-index l.shorthands) (view l.value)) ≡ behind l.fn.objects (under_shorthands l.shorthands (view l.value))
