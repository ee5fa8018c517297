-- Objects under shorthands, one shorthand after another.
use Rattle.std.proofs.Common.{◌≡◌, ℕ, ◌+◌, ◌<◌, List, [], length, get_or, drop, ap, sym, subst, ◌∙◌}
use Rattle.std.specs.Prelude.{Option, Some, None, Ok}
use Rattle.serde_json.specs.Data.{Data}
use Rattle.serde_json.specs.Find.{get}
use Rattle.xa_value.specs.Category.{shorthand_of, all_categories}
use Rattle.xa_value.specs.declared.category.Category.{Category}
use Rattle.xa_profile.specs.declared.category_object.CategoryObject.{CategoryObject}
use Rattle.xa_profile.specs.declared.member.Member.TheVariants as member
use Rattle.xa_profile.specs.Json.{each, items_if_any, at}
use Rattle.xa_profile.specs.Request.{category_object, under_shorthands, all_objects}
use Rattle.xa_profile.specs.parsing.Json.{behind}
use Rattle.xa_profile.proofs.JsonLemmas.{behind_next, behind_none}
use Rattle.xa_profile.proofs.ListLemmas.{walked_at}

pub shorthands_next : (items next : List CategoryObject) (cs : List Category) (i : ℕ) (e : Category) (d : Data) (m : Option Data)
    → i < length cs → m ≡ get (shorthand_of (get_or cs i e)) d → behind items (each (category_object (Some (get_or cs i e))) (items_if_any m)) ≡ Ok next
    → behind next (under_shorthands (drop (i + 1) cs) d) ≡ behind items (under_shorthands (drop i cs) d)
shorthands_next items next cs i e d m within is_member objects =
    behind_next items next (each (category_object (Some (get_or cs i e))) (items_if_any (get (shorthand_of (get_or cs i e)) d))) (under_shorthands (drop (i + 1) cs) d)
    (subst (λ n. behind items (each (category_object (Some (get_or cs i e))) (items_if_any n)) ≡ Ok next) is_member objects)
    ∙ sym (ap (λ ds. behind items (under_shorthands ds d)) (walked_at cs i e within))

-- all objects: those of a member, and then those under all shorthands
pub all_objects_are : (none next : List CategoryObject) (d : Data) (m : Option Data) → none ≡ [] → m ≡ at member.Category d
    → behind none (each (category_object None) (items_if_any m)) ≡ Ok next
    → behind next (under_shorthands all_categories d) ≡ all_objects d
unfolding all_objects
all_objects_are none next d m is_none is_member objects =
    behind_next [] next (each (category_object None) (items_if_any (at member.Category d))) (under_shorthands all_categories d)
    (subst (λ n. behind [] (each (category_object None) (items_if_any n)) ≡ Ok next) is_member
    (subst (λ items. behind items (each (category_object None) (items_if_any m)) ≡ Ok next) is_none objects))
    ∙ behind_none (all_objects d)
