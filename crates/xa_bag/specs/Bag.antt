-- What a bag holds (XACML 3.0, core, section 7.3.2).
use Rattle.std.specs.Prelude.{◌≡◌, List, [], ◌∷◌}
use Rattle.xa_value.specs.declared.data_type.DataType.{DataType}
use Rattle.xa_value.specs.declared.value.Value.{Value}
use Rattle.xa_value.specs.Order.{type_of}

-- a data type, and values
pub record Contents : Type 0 where
  pub data_type : DataType
  pub values : List Value

-- the bag of the values
abbrev pub bag_of : DataType → List Value → Contents
bag_of t vs = record { data_type = t; values = vs }

-- every value is of the type
abbrev pub OfType : DataType → List Value → Type 0
OfType t [] = Unit {0}
OfType t (v ∷ vs) = (type_of v ≡ t) × OfType t vs
