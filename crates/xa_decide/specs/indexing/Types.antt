-- That the values of a request are of their types.
use Rattle.std.specs.List.{All}
use Rattle.xa_bag.specs.Bag.{OfType}
use Rattle.xa_profile.specs.declared.attribute.Attribute.{Attribute}
use Rattle.xa_profile.specs.declared.category_object.CategoryObject.{CategoryObject}

-- the values of an attribute are of its type
abbrev pub IsOfType : Attribute → Type 0
IsOfType a = OfType a.values.data_type a.values.values

-- the values of each attribute of a Category object are of its type
abbrev pub IsOfTypes : CategoryObject → Type 0
IsOfTypes o = All IsOfType o.attributes
