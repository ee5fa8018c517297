-- The keys by which attributes, Category objects and rows of the source are found.
use Rattle.std.specs.Prelude.{ℕ, ◌+◌, List, [], ◌∷◌, Option, Some, None}
use denote.Ref.{Bor}
use Rattle.xa_value.specs.declared.data_type.DataType.{DataType}
use Rattle.xa_value.specs.declared.value.Value.{Value}
use Rattle.xa_value.specs.Order.{type_of}
use Rattle.xa_value.specs.Types.{place_of}
use Rattle.xa_profile.specs.declared.attribute.Attribute.{Attribute}
use Rattle.xa_profile.specs.declared.category_object.CategoryObject.{CategoryObject}
use Rattle.xa_decide.specs.declared.source_row.SourceRow.{SourceRow}
use Rattle.xa_decide.specs.indexing.Index.{Sought, sought}

-- the key of a row's category, entity, id and type
abbrev pub row_key : List ℕ → List ℕ → List ℕ → DataType → Sought
row_key category entity id t = sought (place_of t) category entity id []

-- `row_key` with the row's issuer, if it has one; the key without an issuer has another number than any that has one
abbrev pub issued_row_key : List ℕ → List ℕ → List ℕ → DataType → Option (List ℕ) → Sought
issued_row_key category entity id t None = row_key category entity id t
issued_row_key category entity id t (Some issuer) = sought (11 + place_of t) category entity id issuer

-- the key of an attribute's id and type: that of a row of no category and no entity
abbrev pub name_key : List ℕ → DataType → Sought
name_key id t = row_key [] [] id t

-- `name_key` with the attribute's issuer, if it has one
abbrev pub issuer_key : List ℕ → DataType → Option (List ℕ) → Sought
issuer_key id t issuer = issued_row_key [] [] id t issuer

-- the key that nobody asks for: its number is past those of all types
abbrev pub unsought : Sought
unsought = sought 22 [] [] [] []

-- the key of an attribute that has values; one without values isn't to be found
abbrev pub if_valued : List Value → Sought → Sought
if_valued [] key = unsought
if_valued (v ∷ vs) key = key

abbrev pub name_key_of : Attribute → Sought
name_key_of a = if_valued a.values.values (name_key a.id a.values.data_type)

abbrev pub issuer_key_of : Attribute → Sought
issuer_key_of a = if_valued a.values.values (issuer_key a.id a.values.data_type a.issuer)

-- the key of a category
abbrev pub category_key : List ℕ → Sought
category_key category = sought 0 category [] [] []

abbrev pub object_key_of : Bor CategoryObject → Sought
object_key_of o = category_key o.now.category

abbrev pub row_key_of : SourceRow → Sought
row_key_of row = row_key row.category row.entity row.attribute_id (type_of row.value)

abbrev pub issued_row_key_of : SourceRow → Sought
issued_row_key_of row = issued_row_key row.category row.entity row.attribute_id (type_of row.value) row.issuer
