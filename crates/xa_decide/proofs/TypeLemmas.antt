-- The values that a designator has in the context of a decision are of its data type.
use Rattle.std.proofs.Common.{◌≡◌, refl, subst, ℕ, Bool, true, false, cond, List, [], ◌∷◌, ◌++◌, map}
use Rattle.std.specs.Prelude.{ℤ, ◌&&◌, bytes_eq, filter, is_none, None}
use Rattle.std.specs.List.{All, flat_map}
use Rattle.std.proofs.lemmas.Bool.{and_parts}
use Rattle.std.proofs.lemmas.List.Elements.{All-head, All-tail}
use Rattle.xa_value.specs.declared.category.Category.TheVariants.{Environment}
use Rattle.xa_value.specs.declared.data_type.DataType.{DataType}
use Rattle.xa_value.specs.declared.data_type.DataType.TheVariants as type
use Rattle.xa_value.specs.declared.value.Value.{Value}
use Rattle.xa_value.specs.Category.{uri_of}
use Rattle.xa_value.specs.Order.{type_of}
use Rattle.xa_value.specs.Types.{same_type}
use Rattle.xa_bag.specs.Bag.{OfType}
use Rattle.xa_expr.specs.declared.designator.Designator.{Designator}
use Rattle.xa_expr.specs.Misfits.{KeepsTypes}
use Rattle.xa_expr.specs.Timeless.{is_clock_id}
use Rattle.xa_expr.proofs.KindLemmas.{same_type_decides}
use Rattle.xa_profile.specs.declared.attribute.Attribute.{Attribute}
use Rattle.xa_profile.specs.declared.category_object.CategoryObject.{CategoryObject}
use Rattle.xa_decide.specs.declared.source_row.SourceRow.{SourceRow}
use Rattle.xa_decide.specs.Context.{AskContext, clock_value, clock_value_in, entity, if_any, is_named_by, is_row, moment_as, object_values, or_else, outside_values, request_values, source_values, values_of}
use Rattle.xa_decide.specs.indexing.Types.{IsOfType, IsOfTypes}

-- ---- the request

both_of_type : (t : DataType) (vs ws : List Value) → OfType t vs → OfType t ws → OfType t (vs ++ ws)
both_of_type t [] ws some others = others
both_of_type t (v ∷ vs) ws some others = (some.0, both_of_type t vs ws some.1 others)

-- the values of the items that pass
each_of_type : {X : Type 0} (P : X → Type 0) (t : DataType) (passes : X → Bool) (values : X → List Value) → ((x : X) → passes x ≡ true → P x → OfType t (values x))
    → (xs : List X) → All P xs → OfType t (flat_map values (filter passes xs))
each_of_type P t passes values each [] all = tt
each_of_type P t passes values each (x ∷ xs) all = by_case (passes x) refl (each_of_type P t passes values each xs (All-tail P x xs all)) where
  by_case : (b : Bool) → passes x ≡ b → OfType t (flat_map values (filter passes xs)) → OfType t (flat_map values (cond b (x ∷ filter passes xs) (filter passes xs)))
  by_case true e rest = both_of_type t (values x) (flat_map values (filter passes xs)) (each x e (All-head P x xs all)) rest
  by_case false e rest = rest

named_type : (d : Designator) (a : Attribute) → is_named_by d a ≡ true → a.values.data_type ≡ d.data_type
named_type d a e =
    let more = and_parts (bytes_eq a.id d.attribute_id) _ e in
    (same_type_decides a.values.data_type d.data_type).0 (and_parts (same_type a.values.data_type d.data_type) _ more.1).0

object_of_type : (d : Designator) (o : CategoryObject) → IsOfTypes o → OfType d.data_type (object_values d o)
object_of_type d o all =
    each_of_type IsOfType d.data_type (is_named_by d) (λ a. a.values.values) (λ a e typed. subst (λ t. OfType t a.values.values) (named_type d a e) typed) o.attributes all

request_of_type : (objects : List CategoryObject) (d : Designator) → All IsOfTypes objects → OfType d.data_type (request_values objects d)
unfolding request_values
request_of_type objects d all =
    each_of_type IsOfTypes d.data_type (λ o. bytes_eq o.category d.category) (object_values d) (λ o e typed. object_of_type d o typed) objects all

-- ---- the source

row_type : (entity : List ℕ) (d : Designator) (row : SourceRow) → is_row entity d row ≡ true → type_of row.value ≡ d.data_type
row_type entity d row e =
    let by_entity = and_parts (bytes_eq row.category d.category) _ e in
    let by_id = and_parts (bytes_eq row.entity entity) _ by_entity.1 in
    let by_type = and_parts (bytes_eq row.attribute_id d.attribute_id) _ by_id.1 in
    (same_type_decides (type_of row.value) d.data_type).0 (and_parts (same_type (type_of row.value) d.data_type) _ by_type.1).0

rows_of_type : (rows : List SourceRow) (entity : List ℕ) (d : Designator) → OfType d.data_type (map (λ row. row.value) (filter (is_row entity d) rows))
rows_of_type [] entity d = tt
rows_of_type (row ∷ rows) entity d = by_case (is_row entity d row) refl (rows_of_type rows entity d) where
  by_case : (b : Bool) → is_row entity d row ≡ b → OfType d.data_type (map (λ (row : SourceRow). row.value) (filter (is_row entity d) rows))
      → OfType d.data_type (map (λ (row : SourceRow). row.value) (cond b (row ∷ filter (is_row entity d) rows) (filter (is_row entity d) rows)))
  by_case true e rest = (row_type entity d row e, rest)
  by_case false e rest = rest

source_of_type : (rows : List SourceRow) (entity : List ℕ) (d : Designator) → OfType d.data_type (source_values rows entity d)
unfolding source_values
source_of_type = rows_of_type

-- ---- the clock

moment_of_type : (moment : ℤ) (t : DataType) → OfType t (if_any (moment_as moment t))
moment_of_type moment type.Time = (refl, tt)
moment_of_type moment type.Date = (refl, tt)
moment_of_type moment type.DateTime = (refl, tt)
moment_of_type moment type.String = tt
moment_of_type moment type.Boolean = tt
moment_of_type moment type.Integer = tt
moment_of_type moment type.DayTimeDuration = tt
moment_of_type moment type.YearMonthDuration = tt
moment_of_type moment type.AnyUri = tt
moment_of_type moment type.HexBinary = tt
moment_of_type moment type.Base64Binary = tt

clock_of_type : (moment : ℤ) (d : Designator) → OfType d.data_type (if_any (clock_value_in moment d))
clock_of_type moment d = by_category (is_none d.issuer && bytes_eq d.category (uri_of Environment)) where
  by_id : (b : Bool) → OfType d.data_type (if_any (cond b (moment_as moment d.data_type) None))
  by_id true = moment_of_type moment d.data_type
  by_id false = tt

  by_category : (b : Bool) → OfType d.data_type (if_any (cond b (clock_value moment d.attribute_id d.data_type) None))
  by_category true = by_id (is_clock_id d.data_type d.attribute_id)
  by_category false = tt

-- ---- all of them

first_of_type : (t : DataType) (vs ws : List Value) → OfType t vs → OfType t ws → OfType t (or_else vs ws)
first_of_type t [] ws some others = others
first_of_type t (v ∷ vs) ws some others = some

outside_of_type : (c : AskContext) (d : Designator) → OfType d.data_type (outside_values c d)
unfolding outside_values
outside_of_type c d =
    first_of_type d.data_type (if_any (clock_value_in c.moment d)) _ (clock_of_type c.moment d) (source_of_type c.source (entity c.objects d.category) d)

pub keeps_types : (c : AskContext) → All IsOfTypes c.objects → KeepsTypes (values_of c)
unfolding values_of
keeps_types c all d = first_of_type d.data_type (request_values c.objects d) _ (request_of_type c.objects d all) (outside_of_type c d)
