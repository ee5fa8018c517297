-- What names the entity of a Category object: none, one or several values of the attribute that names it.
use Rattle.std.specs.Prelude.{ℕ, List, [], ◌∷◌, Option, Some, None}
use Rattle.xa_value.specs.declared.value.Value.{Value}
use Rattle.xa_profile.specs.declared.category_object.CategoryObject.{CategoryObject}
use Rattle.xa_decide.specs.declared.naming.Naming.{Naming}
use Rattle.xa_decide.specs.declared.naming.Naming.TheVariants.{Nobody, One, Several}
use Rattle.xa_decide.specs.Context.{category_of, naming_id_of, object_values, strings_of, text_of}

-- what values say: nothing, one text, or several things
pub data Said : Type 0 where
  none : Said
  one : List ℕ → Said
  several : Said

abbrev pub said : List Value → Said
said [] = none
said (v ∷ []) = one (text_of v)
said (v ∷ w ∷ vs) = several

-- what some values say with others after them
abbrev pub both : Said → Said → Said
both none b = b
both (one text) none = one text
both (one text) (one other) = several
both (one text) several = several
both several b = several

-- the one text that values say, if there is one
abbrev pub text_said : Said → List ℕ
text_said none = []
text_said (one text) = text
text_said several = []

-- what values say, as the code keeps it
abbrev pub said_by : Naming → Said
said_by Nobody = none
said_by (One text) = one text.now
said_by Several = several

-- the values of an object's naming attribute, which its category decides
abbrev pub values_with : Option (List ℕ) → CategoryObject → List Value
values_with None o = []
values_with (Some id) o = object_values (strings_of o.category id) o

abbrev pub naming_values : CategoryObject → List Value
naming_values o = values_with (naming_id_of (category_of o.category)) o
