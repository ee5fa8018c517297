-- What is of the id, the type and so on that are sought has their key.
use Rattle.std.proofs.Common.{◌≡◌, ℕ, ◌+◌, Bool, true, false, cond, List, [], ◌∷◌, ◌++◌, map, refl, ap, sym, subst, ◌∙◌}
use denote.Ref.{Bor}
use Rattle.std.specs.Prelude.{◌&&◌, bytes_eq, filter, Option, Some, None, is_some, option_map, slice_get}
use Rattle.std.specs.List.{cons_option, filter_map, flat_map}
use Rattle.std.proofs.lemmas.Option.{slice_get-map}
use Rattle.std.specs.Ordering.{is_eq}
use Rattle.std.proofs.lemmas.Bool.{and_parts, eqb-true, true≢false}
use Rattle.std.proofs.lemmas.Cmp.{tied_itself}
use Rattle.std.proofs.lemmas.Slice.Eq.{bytes_eq-Decides}
use Rattle.xa_value.specs.declared.data_type.DataType.{DataType}
use Rattle.xa_value.specs.declared.value.Value.{Value}
use Rattle.xa_value.specs.Order.{type_of}
use Rattle.xa_value.specs.Types.{place_of}
use Rattle.xa_value.specs.Types.{same_type}
use Rattle.xa_expr.specs.declared.designator.Designator.{Designator}
use Rattle.xa_expr.proofs.KindLemmas.{same_type_decides}
use Rattle.xa_profile.specs.declared.attribute.Attribute.{Attribute}
use Rattle.xa_profile.specs.declared.category_object.CategoryObject.{CategoryObject}
use Rattle.xa_decide.proofs.IndexLemmas.{compare_total, filter_within}
use Rattle.xa_decide.specs.Context.{is_issuer, is_named, is_named_by, is_row}
use Rattle.xa_decide.specs.declared.source_row.SourceRow.{SourceRow}
use Rattle.xa_decide.specs.indexing.Index.{Sought, compare_keys, sought, with_key}
use Rattle.xa_decide.specs.indexing.Keys.{category_key, if_valued, issued_row_key, issued_row_key_of, issuer_key, issuer_key_of, name_key, name_key_of, object_key_of, row_key, row_key_of}

pub same_text : (a b : List ℕ) → bytes_eq a b ≡ true → a ≡ b
same_text a b e = (bytes_eq-Decides a b).0 e

-- those that pass are all among those of the key
among : {X : Type 0} (p : X → Bool) (key_of : X → Sought) (key : Sought) → ((x : X) → p x ≡ true → key_of x ≡ key)
    → (xs : List X) → filter p (with_key key_of key xs) ≡ filter p xs
among p key_of key keyed xs =
    filter_within p (λ x. is_eq (compare_keys (key_of x) key))
    (λ x e. subst (λ k. is_eq (compare_keys k key) ≡ true) (sym (keyed x e)) (ap is_eq (tied_itself compare_total key))) xs

-- and so among any that have the same ones of the key
kept_among : {X : Type 0} (p : X → Bool) (key_of : X → Sought) (key : Sought) → ((x : X) → p x ≡ true → key_of x ≡ key)
    → (found xs : List X) → with_key key_of key found ≡ with_key key_of key xs → filter p found ≡ filter p xs
kept_among p key_of key keyed found xs e = sym (among p key_of key keyed found) ∙ ap (λ ys. filter p ys) e ∙ among p key_of key keyed xs

-- ---- attributes

named_parts : (id : List ℕ) (t : DataType) (issuer : Option (List ℕ)) (a : Attribute) → is_named id t issuer a ≡ true
    → (a.id ≡ id) × (place_of a.values.data_type ≡ place_of t) × (is_issuer issuer a.issuer ≡ true)
named_parts id t issuer a e =
    let both = and_parts (bytes_eq a.id id) _ e in
    let more = and_parts (same_type a.values.data_type t) _ both.1 in (
      same_text a.id id both.0,
      eqb-true (place_of a.values.data_type) (place_of t) more.0,
      more.1,
    )

-- an attribute that has values
abbrev valued : List Value → Bool
valued [] = false
valued (v ∷ vs) = true

valued_key : (vs : List Value) (key : Sought) → valued vs ≡ true → if_valued vs key ≡ key
valued_key [] key e = absurd (true≢false (sym e))
valued_key (v ∷ vs) key e = refl

-- one without gives nothing
without_empty : (p : Attribute → Bool) (xs : List Attribute)
    → flat_map (λ a. a.values.values) (filter (λ a. p a && valued a.values.values) xs) ≡ flat_map (λ a. a.values.values) (filter p xs)
without_empty p [] = refl
without_empty p (x ∷ xs) = by_case (p x) x.values.values refl (without_empty p xs) where
  by_case : (b : Bool) (vs : List Value) → x.values.values ≡ vs
      → flat_map (λ a. a.values.values) (filter (λ a. p a && valued a.values.values) xs) ≡ flat_map (λ a. a.values.values) (filter p xs)
      → flat_map (λ a. a.values.values) (cond (b && valued vs) (x ∷ filter (λ a. p a && valued a.values.values) xs) (filter (λ a. p a && valued a.values.values) xs))
      ≡ flat_map (λ a. a.values.values) (cond b (x ∷ filter p xs) (filter p xs))
  by_case false vs e rest = rest
  by_case true [] e rest = rest ∙ ap (λ vs. vs ++ flat_map (λ a. a.values.values) (filter p xs)) (sym e)
  by_case true (v ∷ vs) e rest = ap (λ us. x.values.values ++ us) rest

-- so what has the same attributes of the key gives the same values
values_kept : (p : Attribute → Bool) (key_of : Attribute → Sought) (key : Sought) → ((a : Attribute) → p a ≡ true → key_of a ≡ if_valued a.values.values key)
    → (found all : List Attribute) → with_key key_of key found ≡ with_key key_of key all
    → flat_map (λ a. a.values.values) (filter p found) ≡ flat_map (λ a. a.values.values) (filter p all)
values_kept p key_of key keyed found all e =
    sym (without_empty p found)
    ∙ ap (λ xs. flat_map (λ a. a.values.values) xs) (kept_among (λ a. p a && valued a.values.values) key_of key by_key found all e) ∙ without_empty p all where
      by_key : (a : Attribute) → (p a && valued a.values.values) ≡ true → key_of a ≡ key
      by_key a h = let both = and_parts (p a) (valued a.values.values) h in keyed a both.0 ∙ valued_key a.values.values key both.1

named_name : (id : List ℕ) (t : DataType) (issuer : Option (List ℕ)) (a : Attribute) → is_named id t issuer a ≡ true → name_key a.id a.values.data_type ≡ name_key id t
named_name id t issuer a e = let parts = named_parts id t issuer a e in cc

same_issuer : (issuer : List ℕ) (own : Option (List ℕ)) → is_issuer (Some issuer) own ≡ true → own ≡ Some issuer
same_issuer issuer None e = absurd (true≢false (sym e))
same_issuer issuer (Some own) e = ap Some (same_text own issuer e)

issued_name : (id : List ℕ) (t : DataType) (issuer : List ℕ) (a : Attribute) → is_named id t (Some issuer) a ≡ true
    → issuer_key a.id a.values.data_type a.issuer ≡ issuer_key id t (Some issuer)
issued_name id t issuer a e =
    let parts = named_parts id t (Some issuer) a e in
    ap (λ o. issuer_key a.id a.values.data_type o) (same_issuer issuer a.issuer parts.2)
    ∙ ap (λ n. sought (11 + n) [] [] a.id issuer) parts.1 ∙ ap (λ i. sought (11 + place_of t) [] [] i issuer) parts.0

name_found : (id : List ℕ) (t : DataType) (issuer : Option (List ℕ)) (all found : List Attribute) → issuer ≡ None
    → with_key name_key_of (issuer_key id t issuer) found ≡ with_key name_key_of (issuer_key id t issuer) all
    → flat_map (λ a. a.values.values) (filter (is_named id t issuer) found) ≡ flat_map (λ a. a.values.values) (filter (is_named id t issuer) all)
name_found id t issuer all found none e =
    values_kept (is_named id t issuer) name_key_of (name_key id t) (λ a h. ap (λ k. if_valued a.values.values k) (named_name id t issuer a h)) found all
    (subst (λ o. with_key name_key_of (issuer_key id t o) found ≡ with_key name_key_of (issuer_key id t o) all) none e)

issuer_found : (id : List ℕ) (t : DataType) (issuer : Option (List ℕ)) (all found : List Attribute) → is_some issuer ≡ true
    → with_key issuer_key_of (issuer_key id t issuer) found ≡ with_key issuer_key_of (issuer_key id t issuer) all
    → flat_map (λ a. a.values.values) (filter (is_named id t issuer) found) ≡ flat_map (λ a. a.values.values) (filter (is_named id t issuer) all)
issuer_found id t None all found some e = absurd (true≢false (sym some))
issuer_found id t (Some issuer) all found some e =
    values_kept (is_named id t (Some issuer)) issuer_key_of (issuer_key id t (Some issuer)) (λ a h. ap (λ k. if_valued a.values.values k) (issued_name id t issuer a h)) found all e

-- those that a designator names
pub named_found : (d : Designator) (all found : List Attribute) → d.issuer ≡ None
    → with_key name_key_of (issuer_key d.attribute_id d.data_type d.issuer) found ≡ with_key name_key_of (issuer_key d.attribute_id d.data_type d.issuer) all
    → flat_map (λ a. a.values.values) (filter (is_named_by d) found) ≡ flat_map (λ a. a.values.values) (filter (is_named_by d) all)
named_found d all found none e = name_found d.attribute_id d.data_type d.issuer all found none e

pub issued_found : (d : Designator) (all found : List Attribute) → is_some d.issuer ≡ true
    → with_key issuer_key_of (issuer_key d.attribute_id d.data_type d.issuer) found ≡ with_key issuer_key_of (issuer_key d.attribute_id d.data_type d.issuer) all
    → flat_map (λ a. a.values.values) (filter (is_named_by d) found) ≡ flat_map (λ a. a.values.values) (filter (is_named_by d) all)
issued_found d all found some e = issuer_found d.attribute_id d.data_type d.issuer all found some e

-- ---- rows

row_parts : (entity : List ℕ) (d : Designator) (row : SourceRow) → is_row entity d row ≡ true
    → (row.category ≡ d.category) × (row.entity ≡ entity) × (row.attribute_id ≡ d.attribute_id) × (type_of row.value ≡ d.data_type)
    × (is_issuer d.issuer row.issuer ≡ true)
row_parts entity d row e =
    let by_category = and_parts (bytes_eq row.category d.category) _ e in
    let by_entity = and_parts (bytes_eq row.entity entity) _ by_category.1 in
    let by_id = and_parts (bytes_eq row.attribute_id d.attribute_id) _ by_entity.1 in
    let by_type = and_parts (same_type (type_of row.value) d.data_type) _ by_id.1 in (
      same_text row.category d.category by_category.0,
      same_text row.entity entity by_entity.0,
      same_text row.attribute_id d.attribute_id by_id.0,
      (same_type_decides (type_of row.value) d.data_type).0 by_type.0,
      by_type.1,
    )

row_keyed : (entity : List ℕ) (d : Designator) (row : SourceRow) → is_row entity d row ≡ true
    → row_key_of row ≡ row_key d.category entity d.attribute_id d.data_type
row_keyed entity d row e =
    let parts = row_parts entity d row e in
    let one = parts.0 in
    let two = parts.1 in
    let three = parts.2 in
    let type = parts.3 in cc

own_issuer : (named own : Option (List ℕ)) → is_some named ≡ true → is_issuer named own ≡ true → own ≡ named
own_issuer None own some e = absurd (true≢false (sym some))
own_issuer (Some issuer) own some e = same_issuer issuer own e

issued_row_keyed : (entity : List ℕ) (d : Designator) (row : SourceRow) → is_some d.issuer ≡ true → is_row entity d row ≡ true
    → issued_row_key_of row ≡ issued_row_key d.category entity d.attribute_id d.data_type d.issuer
issued_row_keyed entity d row some e =
    let parts = row_parts entity d row e in
    ap (λ c. issued_row_key c row.entity row.attribute_id (type_of row.value) row.issuer) parts.0
    ∙ ap (λ n. issued_row_key d.category n row.attribute_id (type_of row.value) row.issuer) parts.1
    ∙ ap (λ i. issued_row_key d.category entity i (type_of row.value) row.issuer) parts.2
    ∙ ap (λ t. issued_row_key d.category entity d.attribute_id t row.issuer) parts.3
    ∙ ap (λ o. issued_row_key d.category entity d.attribute_id d.data_type o) (own_issuer d.issuer row.issuer some parts.4)

pub rows_found : (entity : List ℕ) (d : Designator) (rows found : List SourceRow) → d.issuer ≡ None
    → with_key row_key_of (issued_row_key d.category entity d.attribute_id d.data_type d.issuer) found
    ≡ with_key row_key_of (issued_row_key d.category entity d.attribute_id d.data_type d.issuer) rows
    → filter (is_row entity d) found ≡ filter (is_row entity d) rows
rows_found entity d rows found none e =
    kept_among (is_row entity d) row_key_of (row_key d.category entity d.attribute_id d.data_type) (row_keyed entity d) found rows
    (subst (λ o. with_key row_key_of (issued_row_key d.category entity d.attribute_id d.data_type o) found
    ≡ with_key row_key_of (issued_row_key d.category entity d.attribute_id d.data_type o) rows) none e)

pub issued_rows_found : (entity : List ℕ) (d : Designator) (rows found : List SourceRow) → is_some d.issuer ≡ true
    → with_key issued_row_key_of (issued_row_key d.category entity d.attribute_id d.data_type d.issuer) found
    ≡ with_key issued_row_key_of (issued_row_key d.category entity d.attribute_id d.data_type d.issuer) rows
    → filter (is_row entity d) found ≡ filter (is_row entity d) rows
issued_rows_found entity d rows found some e =
    kept_among (is_row entity d) issued_row_key_of (issued_row_key d.category entity d.attribute_id d.data_type d.issuer)
    (λ row h. issued_row_keyed entity d row some h) found rows e

-- ---- Category objects

pub found_map : {A B : Type 0} (f : A → B) (xs : List A) (ps : List ℕ) → filter_map (slice_get (map f xs)) ps ≡ map f (filter_map (slice_get xs) ps)
found_map f xs [] = refl
found_map {A = A} f xs (p ∷ ps) = ap (λ o. cons_option o (filter_map (slice_get (map f xs)) ps)) (slice_get-map f xs p) ∙ by_case (slice_get xs p) (found_map f xs ps) where
  by_case : (o : Option A) → filter_map (slice_get (map f xs)) ps ≡ map f (filter_map (slice_get xs) ps)
      → cons_option (option_map f o) (filter_map (slice_get (map f xs)) ps) ≡ map f (cons_option o (filter_map (slice_get xs) ps))
  by_case None e = e
  by_case (Some x) e = ap (λ ys. f x ∷ ys) e

filter_map_both : {A B : Type 0} (f : A → B) (p : B → Bool) (xs : List A) → filter p (map f xs) ≡ map f (filter (λ x. p (f x)) xs)
filter_map_both f p [] = refl
filter_map_both f p (x ∷ xs) = ap (λ ys. cond (p (f x)) (f x ∷ ys) ys) (filter_map_both f p xs) ∙ by_case (p (f x)) where
  by_case : (b : Bool) → cond b (f x ∷ map f (filter (λ y. p (f y)) xs)) (map f (filter (λ y. p (f y)) xs)) ≡ map f (cond b (x ∷ filter (λ y. p (f y)) xs) (filter (λ y. p (f y)) xs))
  by_case true = refl
  by_case false = refl

abbrev pub of_category : List ℕ → CategoryObject → Bool
of_category category o = bytes_eq o.category category

among_objects : (category : List ℕ) (objects : List (Bor CategoryObject)) (places : List ℕ)
    → with_key object_key_of (category_key category) (filter_map (slice_get objects) places) ≡ with_key object_key_of (category_key category) objects
    → filter (of_category category) (filter_map (slice_get (map (λ o. o.now) objects)) places) ≡ filter (of_category category) (map (λ o. o.now) objects)
among_objects category objects places e =
    ap (λ xs. filter (of_category category) xs) (found_map (λ o. o.now) objects places)
    ∙ filter_map_both (λ o. o.now) (of_category category) (filter_map (slice_get objects) places)
    ∙ ap (λ xs. map (λ o. o.now) xs)
    (kept_among (λ o. of_category category o.now) object_key_of (category_key category) (λ o h. ap (λ c. category_key c) (same_text o.now.category category h))
    (filter_map (slice_get objects) places) objects e)
    ∙ sym (filter_map_both (λ o. o.now) (of_category category) objects)

pub objects_found : (category : List ℕ) (key : Sought) (objects : List (Bor CategoryObject)) (all : List CategoryObject) (places : List ℕ)
    → key ≡ category_key category → map (λ o. o.now) objects ≡ all → with_key object_key_of key (filter_map (slice_get objects) places) ≡ with_key object_key_of key objects
    → filter (of_category category) (filter_map (slice_get all) places) ≡ filter (of_category category) all
objects_found category key objects all places e f g =
    subst (λ os. filter (of_category category) (filter_map (slice_get os) places) ≡ filter (of_category category) os) f
    (among_objects category objects places
    (subst (λ k. with_key object_key_of k (filter_map (slice_get objects) places) ≡ with_key object_key_of k objects) e g))

pub object_got : (objects : List (Bor CategoryObject)) (place : ℕ) → option_map (λ o. o.now) (slice_get objects place) ≡ slice_get (map (λ o. o.now) objects) place
object_got objects place = sym (slice_get-map (λ o. o.now) objects place)
