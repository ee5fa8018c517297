use Rattle.std.proofs.Common.{◌≡◌, map, drop, ◌++◌}
use Rattle.xa_profile.specs.Response.{attribute_data, included_attributes}
use Rattle.xa_profile.proofs.included.included_attributes.Given as goal

-- those that were found, and then those among the attributes that are left
abbrev pub invariant-loop-attribute : goal.invariant-loop-attribute
invariant-loop-attribute l =
    map (λ a. attribute_data a.now) l.found.items ++ map attribute_data (included_attributes (drop l.attribute-index l.attributes)) ≡ map attribute_data (included_attributes l.attributes)
