use Rattle.std.proofs.Common.{◌≡◌, map, drop}
use Rattle.std.specs.Prelude.{bytes_eq}
use Rattle.std.specs.List.{list_any}
use Rattle.xa_profile.specs.declared.category_object.CategoryObject.{CategoryObject}
use Rattle.xa_profile.proofs.distinct.has_category.Given as goal

-- one of the objects is of the category where one of those that are left is
abbrev pub invariant-loop-object : goal.invariant-loop-object
invariant-loop-object l =
    list_any (bytes_eq l.category) (map (λ (object : CategoryObject). object.category) (drop l.object-index l.objects))
    ≡ list_any (bytes_eq l.category) (map (λ (object : CategoryObject). object.category) l.objects)
