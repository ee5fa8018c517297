-- What asks for no attribute of the clock (XACML 3.0, core, appendix B.7).
use Rattle.std.specs.Prelude.{◌≡◌, ℕ, Bool, false, ◌&&◌, ◌||◌, not, bytes_eq, codes, List}
use Rattle.std.specs.List.{list_all}
use Rattle.xa_value.specs.declared.category.Category.TheVariants.{Environment}
use Rattle.xa_value.specs.declared.data_type.DataType.{DataType}
use Rattle.xa_value.specs.declared.data_type.DataType.TheVariants as type
use Rattle.xa_value.specs.Category.{uri_of}
use Rattle.xa_expr.specs.declared.designator.Designator.{Designator}
use Rattle.xa_expr.specs.Evaluation.{Attributes}

-- the id is that of the attribute that the clock gives as a value of that type
unfoldable pub is_clock_id : DataType → List ℕ → Bool
is_clock_id type.Time id = bytes_eq id (codes "urn:oasis:names:tc:xacml:1.0:environment:current-time")
is_clock_id type.Date id = bytes_eq id (codes "urn:oasis:names:tc:xacml:1.0:environment:current-date")
is_clock_id type.DateTime id = bytes_eq id (codes "urn:oasis:names:tc:xacml:1.0:environment:current-dateTime")
is_clock_id _ id = false

-- the id is that of an attribute that the clock gives as a value of some type
unfoldable pub is_some_clock_id : List ℕ → Bool
is_some_clock_id id = is_clock_id type.Time id || (is_clock_id type.Date id || is_clock_id type.DateTime id)

-- the designator names an attribute that the clock gives, whatever its issuer and its type
unfoldable pub names_the_clock : Designator → Bool
names_the_clock d = bytes_eq d.category (uri_of Environment) && is_some_clock_id d.attribute_id

-- no designator names an attribute that the clock gives
abbrev pub is_timeless : List Designator → Bool
is_timeless designators = list_all (λ d. not (names_the_clock d)) designators

-- two sources of attributes differ in the clock's attributes alone, as at two moments
abbrev pub SameButForTheClock : Attributes → Attributes → Type 0
SameButForTheClock a b = (d : Designator) → names_the_clock d ≡ false → a d ≡ b d
