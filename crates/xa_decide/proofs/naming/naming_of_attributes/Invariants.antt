use Rattle.std.proofs.Common.{◌≡◌, drop}
use Rattle.std.specs.Prelude.{None, filter}
use Rattle.std.specs.List.{flat_map}
use Rattle.xa_value.specs.declared.data_type.DataType.TheVariants as type
use Rattle.xa_decide.specs.Context.{is_named}
use Rattle.xa_decide.specs.indexing.Naming.{both, said, said_by}
use Rattle.xa_decide.proofs.naming.naming_of_attributes.Given as goal

-- what is said so far, and by the attributes that are left
abbrev pub invariant-loop-attribute : goal.invariant-loop-attribute
invariant-loop-attribute l =
    both (said_by l.naming) (said (flat_map (λ a. a.values.values) (filter (is_named l.id type.String None) (drop l.attribute-index l.attributes))))
    ≡ said (flat_map (λ a. a.values.values) (filter (is_named l.id type.String None) l.attributes))
