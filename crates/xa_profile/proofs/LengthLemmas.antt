-- What is counted for a part of a result is no more than its bytes.
use Rattle.std.proofs.Common.{◌≡◌, ◌≢◌, ◌≤◌, ℕ, ◌+◌, ◌-◌, ◌/◌, ◌%◌, Bool, true, false, List, [], ◌∷◌, ◌++◌, length, map, filter, refl, sym, subst, arith}
use Rattle.std.specs.Prelude.{Option, Some, None, slice_get, nat_lt, ◌||◌, cond}
use Rattle.std.specs.Char.{digit_char}
use Rattle.std.specs.List.{cons_option, list_any}
use Rattle.std.proofs.lemmas.Bool.{true≢false}
use Rattle.std.proofs.lemmas.List.{length-append}
use Rattle.json.specs.Print.{escape, escape_byte, escape_letter, quoted}
use Rattle.base64.specs.Engines.{standard}
use Rattle.base64.specs.Rfc4648.{encode_symbols}
use Rattle.base64.proofs.RoundTrip.{length-encode_symbols}
use Rattle.hex.specs.Hex.{encode_with, upper_digits}
use Rattle.serde_json.specs.Data.{Data, string, object, Members, no_members, member}
use Rattle.serde_json.specs.View.{items_of}
use Rattle.serde_json.specs.Written.{comma_if, compact_text, items_text, members_text}
use Rattle.xa_func.specs.declared.status.Status.{Status}
use Rattle.xa_func.specs.declared.status.Status.TheVariants as status
use Rattle.xa_func.specs.Status.{uri_of as uri_of_status}
use Rattle.xa_policy.specs.declared.document_key.DocumentKey.{DocumentKey}
use Rattle.xa_policy.specs.declared.duty.AttributeAssignment.{AttributeAssignment}
use Rattle.xa_policy.specs.declared.duty.Duty.{Duty}
use Rattle.xa_policy.specs.declared.reference.DocumentKind.{DocumentKind}
use Rattle.xa_policy.specs.declared.reference.DocumentKind.TheVariants.{Policy, PolicySet}
use Rattle.xa_policy.specs.DocumentKey.{same_kind}
use Rattle.xa_policy.specs.Version.{version_text}
use Rattle.xa_profile.specs.declared.attribute.Attribute.{Attribute}
use Rattle.xa_profile.specs.declared.category_object.CategoryObject.{CategoryObject}
use Rattle.xa_profile.specs.declared.member.Member.{Member}
use Rattle.xa_profile.specs.declared.member.Member.TheVariants as name
use Rattle.xa_profile.specs.declared.response.ResultObject.{ResultObject}
use Rattle.xa_profile.specs.Member.{name_of}
use Rattle.xa_profile.specs.Response.{assignment_data, attribute_data, category_data, duty_data, has_included, identifier_data, identifiers_data, if_included, included_attributes, included_objects, listing, of_kind, only, response_body, response_data, decision_text, result_data, status_data, type_data, value_data, values_data, with, with_identifiers_if_any, with_items_if_any, with_text_if_any}
use Rattle.xa_value.specs.Binary.{base64_text, hex_text}
use Rattle.xa_value.specs.Order.{type_of}
use Rattle.xa_value.specs.Types.{namespace, name_of as name_of_type}
use Rattle.xa_value.specs.declared.data_type.DataType.{DataType}
use Rattle.xa_value.specs.declared.value.Value.{Value}
use Rattle.xa_value.specs.declared.value.Value.TheVariants as value
use Rattle.xa_profile.specs.writing.Lengths.{bytes_of, bytes_of_all, bytes_of_assignment, bytes_of_attribute, bytes_of_duty, bytes_of_key, bytes_of_object, bytes_of_object_if_any, bytes_of_result, bytes_of_text, bytes_of_text_if_any, bytes_of_value}

-- ---- texts

some_byte : (x : ℕ) → 1 ≤ length (escape_byte x)
unfolding escape_byte
some_byte x = by_cases (nat_lt 0 (escape_letter x)) (nat_lt x 32) where
  by_cases : (a b : Bool) → 1 ≤ length (cond a (92 ∷ escape_letter x ∷ []) (cond b (92 ∷ 117 ∷ 48 ∷ 48 ∷ digit_char (x / 16) ∷ digit_char (x % 16) ∷ []) (x ∷ [])))
  by_cases true b = omega arith
  by_cases false true = omega arith
  by_cases false false = omega arith

-- a byte, and those behind it
pub escape_first : (x : ℕ) (text : List ℕ) → bytes_of_text (x ∷ text) ≡ length (escape_byte x) + bytes_of_text text
escape_first x text = length-append (escape_byte x) (escape text)

-- escapes add to a text
pub no_shorter : (text : List ℕ) → length text ≤ bytes_of_text text
no_shorter [] = omega arith
no_shorter (x ∷ text) = let first = escape_first x text in let here = some_byte x in let rest = no_shorter text in omega (arith, first, here, rest)

quoted_takes : (text : List ℕ) → length (quoted text) ≡ bytes_of_text text + 2
quoted_takes text = let e = length-append (escape text) (34 ∷ []) in omega (arith, e)

-- ---- members

member_takes : (later : Bool) (k : List ℕ) (d : Data) (ms : Members)
    → length (members_text later (member k d ms)) ≡ length (comma_if later) + (bytes_of_text k + 3 + (bytes_of d + length (members_text true ms)))
member_takes later k d ms =
    let a = length-append (comma_if later) (quoted k ++ 58 ∷ (compact_text d ++ members_text true ms)) in
    let b = length-append (quoted k) (58 ∷ (compact_text d ++ members_text true ms)) in
    let c = length-append (compact_text d) (members_text true ms) in
    let e = quoted_takes k in
    omega (arith, a, b, c, e)

-- a comma more or less
no_comma : (later : Bool) (ms : Members) → length (members_text false ms) ≤ length (members_text later ms)
no_comma false ms = omega arith
no_comma true no_members = omega arith
no_comma true (member k d ms) = let a = member_takes false k d ms in let b = member_takes true k d ms in omega (arith, a, b)

one_comma : (later : Bool) (ms : Members) → length (members_text later ms) ≤ length (members_text true ms)
one_comma false ms = no_comma true ms
one_comma true ms = omega arith

text_if_any_takes : (later : Bool) (m : Member) (text : Option (List ℕ)) (ms : Members)
    → bytes_of_text_if_any text + length (members_text later ms) ≤ length (members_text later (with_text_if_any m text ms))
text_if_any_takes later m None ms = omega arith
text_if_any_takes later m (Some text) ms =
    let a = member_takes later (name_of m) (string text) ms in let b = one_comma later ms in let c = quoted_takes text in omega (arith, a, b, c)

-- ---- arrays

module _ {X : Type 0} (data_of : X → Data) where
  items_take : (later : Bool) (xs : List X) → bytes_of_all (λ x. bytes_of (data_of x)) xs + 1 ≤ length (items_text later (items_of (map data_of xs)))
  items_take later [] = omega arith
  items_take later (x ∷ xs) =
      let a = length-append (comma_if later) (compact_text (data_of x) ++ items_text true (items_of (map data_of xs))) in
      let b = length-append (compact_text (data_of x)) (items_text true (items_of (map data_of xs))) in
      let rest = items_take true xs in
      omega (arith, a, b, rest)

  commas_take : (xs : List X) → length xs ≤ length (items_text true (items_of (map data_of xs)))
  commas_take [] = omega arith
  commas_take (x ∷ xs) =
      let a = length-append (comma_if true) (compact_text (data_of x) ++ items_text true (items_of (map data_of xs))) in
      let b = length-append (compact_text (data_of x)) (items_text true (items_of (map data_of xs))) in
      let rest = commas_take xs in
      omega (arith, a, b, rest)

  items_if_any_take : (later : Bool) (m : Member) (xs : List X) (ms : Members)
      → bytes_of_all (λ x. bytes_of (data_of x)) xs + length (members_text false ms) ≤ length (members_text later (with_items_if_any m (map data_of xs) ms))
  items_if_any_take later m [] ms = let a = no_comma later ms in omega (arith, a)
  items_if_any_take later m (x ∷ xs) ms =
      let a = member_takes later (name_of m) (listing (map data_of (x ∷ xs))) ms in
      let b = items_take false (x ∷ xs) in
      let c = no_comma true ms in
      omega (arith, a, b, c)

-- ---- values

pub values_take : (vs : List Value) → bytes_of_all bytes_of_value vs ≤ bytes_of (values_data vs)
values_take [] = omega arith
values_take (v ∷ []) = omega arith
values_take (v ∷ w ∷ vs) = let all = items_take value_data false (v ∷ w ∷ vs) in omega (arith, all)

pub commas_of_values : (vs : List Value) → length vs - 1 ≤ bytes_of (values_data vs)
commas_of_values [] = omega arith
commas_of_values (v ∷ []) = omega arith
commas_of_values (v ∷ w ∷ vs) =
    let a = length-append (compact_text (value_data v)) (items_text true (items_of (map value_data (w ∷ vs)))) in
    let all = commas_take value_data (w ∷ vs) in
    omega (arith, a, all)

pub string_takes : (text : List ℕ) → bytes_of_value (value.String text) ≡ bytes_of_text text + 2
string_takes text = quoted_takes text

pub uri_takes : (text : List ℕ) → bytes_of_value (value.AnyUri text) ≡ bytes_of_text text + 2
uri_takes text = quoted_takes text

two_digits : (bytes : List ℕ) → length (encode_with upper_digits bytes) ≡ length bytes + length bytes
unfolding encode_with
two_digits [] = refl
two_digits (b ∷ bytes) = let rest = two_digits bytes in omega (arith, rest)

pub hex_takes : (bytes : List ℕ) → length bytes + length bytes ≤ bytes_of_value (value.HexBinary bytes)
unfolding hex_text
hex_takes bytes =
    let a = quoted_takes (hex_text bytes) in let b = no_shorter (hex_text bytes) in let c = two_digits bytes in omega (arith, a, b, c)

longer_behind : (front behind : List ℕ) → length front ≤ length (front ++ behind)
longer_behind front behind = let whole = length-append front behind in omega (arith, whole)

pub base64_takes : (bytes : List ℕ) → length bytes + length bytes / 3 ≤ bytes_of_value (value.Base64Binary bytes)
unfolding base64_text
base64_takes bytes =
    let a = quoted_takes (base64_text bytes) in
    let b = no_shorter (base64_text bytes) in
    let c : length (encode_symbols standard.encode_table bytes) ≤ length (base64_text bytes) = longer_behind (encode_symbols standard.encode_table bytes) _ in
    let d = length-encode_symbols standard.encode_table bytes in
    omega (arith, a, b, c, d)

-- ---- attributes

type_takes : (t : DataType) → 35 ≤ bytes_of (type_data t)
unfolding type_data
type_takes t =
    let a = quoted_takes (namespace ++ name_of_type t) in
    let b = no_shorter (namespace ++ name_of_type t) in
    let c = length-append namespace (name_of_type t) in
    let d : length namespace ≡ 33 = refl in
    omega (arith, a, b, c, d)

-- the names of members, as they are written
attribute_id_takes : bytes_of_text (name_of name.AttributeId) ≡ 11
unfolding name_of escape_byte
attribute_id_takes = refl

data_type_takes : bytes_of_text (name_of name.DataType) ≡ 8
unfolding name_of escape_byte
data_type_takes = refl

value_name_takes : bytes_of_text (name_of name.Value) ≡ 5
unfolding name_of escape_byte
value_name_takes = refl

-- an attribute's members behind its id; in a duty its category comes first
typed_takes : (t : DataType) (issuer : Option (List ℕ)) (d : Data)
    → 46 + bytes_of_text_if_any issuer + bytes_of d + 1 ≤ length (members_text true (with name.DataType (type_data t) (with_text_if_any name.Issuer issuer (with name.Value d no_members))))
typed_takes t issuer d =
    let a = member_takes true (name_of name.DataType) (type_data t) (with_text_if_any name.Issuer issuer (with name.Value d no_members)) in
    let b = text_if_any_takes true name.Issuer issuer (with name.Value d no_members) in
    let c = member_takes true (name_of name.Value) d no_members in
    let e = type_takes t in
    omega (arith, a, b, c, e, data_type_takes)

attribute_data_takes : (a : Attribute) → 64 + bytes_of_text a.id + bytes_of_text_if_any a.issuer + bytes_of (values_data a.values.values) ≤ bytes_of (attribute_data a)
unfolding attribute_data
attribute_data_takes a =
    let rest = with name.DataType (type_data a.values.data_type) (with_text_if_any name.Issuer a.issuer (with name.Value (values_data a.values.values) no_members)) in
    let b = member_takes false (name_of name.AttributeId) (string a.id) rest in
    let c = quoted_takes a.id in
    let d = typed_takes a.values.data_type a.issuer (values_data a.values.values) in
    omega (arith, b, c, d, attribute_id_takes)

-- one that is to stand in a result
pub attribute_takes : (a : Attribute) → a.include_in_result ≡ true
    → 64 + bytes_of_text a.id + bytes_of_text_if_any a.issuer + bytes_of (values_data a.values.values) ≤ bytes_of_attribute a
attribute_takes a stands =
    subst (λ b. 64 + bytes_of_text a.id + bytes_of_text_if_any a.issuer + bytes_of (values_data a.values.values) ≤ cond b (bytes_of (attribute_data a)) 0) (sym stands) (attribute_data_takes a)

pub assignment_takes : (a : AttributeAssignment)
    → 64 + bytes_of_text a.attribute_id + bytes_of_text_if_any a.category + bytes_of_text_if_any a.issuer + bytes_of_value a.value ≤ bytes_of_assignment a
unfolding assignment_data
assignment_takes a =
    let rest = with name.DataType (type_data (type_of a.value)) (with_text_if_any name.Issuer a.issuer (with name.Value (value_data a.value) no_members)) in
    let b = member_takes false (name_of name.AttributeId) (string a.attribute_id) (with_text_if_any name.Category a.category rest) in
    let c = quoted_takes a.attribute_id in
    let d = text_if_any_takes true name.Category a.category rest in
    let e = typed_takes (type_of a.value) a.issuer (value_data a.value) in
    omega (arith, b, c, d, e, attribute_id_takes)

-- ---- objects

attribute_name_takes : bytes_of_text (name_of name.Attribute) ≡ 9
unfolding name_of escape_byte
attribute_name_takes = refl

category_id_takes : bytes_of_text (name_of name.CategoryId) ≡ 10
unfolding name_of escape_byte
category_id_takes = refl

-- those of the attributes that are to stand in a result
included_take : (attributes : List Attribute) → bytes_of_all bytes_of_attribute attributes ≤ bytes_of_all (λ a. bytes_of (attribute_data a)) (included_attributes attributes)
included_take [] = omega arith
included_take (a ∷ attributes) = by_flag a.include_in_result (included_attributes attributes) (included_take attributes) where
  by_flag : (b : Bool) (others : List Attribute) → bytes_of_all bytes_of_attribute attributes ≤ bytes_of_all (λ a. bytes_of (attribute_data a)) others
      → cond b (bytes_of (attribute_data a)) 0 + bytes_of_all bytes_of_attribute attributes ≤ bytes_of_all (λ a. bytes_of (attribute_data a)) (cond b (a ∷ others) others)
  by_flag true others rest = omega (arith, rest)
  by_flag false others rest = omega (arith, rest)

-- if none is
none_take : (attributes : List Attribute) → list_any (λ a. a.include_in_result) attributes ≡ false → bytes_of_all bytes_of_attribute attributes ≡ 0
none_take [] none = refl
none_take (a ∷ attributes) none = by_flag a.include_in_result (none_take attributes) none where
  by_flag : (b : Bool) → (list_any (λ a. a.include_in_result) attributes ≡ false → bytes_of_all bytes_of_attribute attributes ≡ 0)
      → (b || list_any (λ a. a.include_in_result) attributes) ≡ false → cond b (bytes_of (attribute_data a)) 0 + bytes_of_all bytes_of_attribute attributes ≡ 0
  by_flag true rest is = absurd (true≢false is)
  by_flag false rest is = let others = rest is in omega (arith, others)

category_data_takes : (o : CategoryObject) → 32 + bytes_of_all bytes_of_attribute o.attributes + bytes_of_text o.category ≤ bytes_of (category_data o)
unfolding category_data
category_data_takes o =
    let a = member_takes false (name_of name.Attribute) (listing (map attribute_data (included_attributes o.attributes))) (with name.CategoryId (string o.category) no_members) in
    let b = items_take attribute_data false (included_attributes o.attributes) in
    let c = member_takes true (name_of name.CategoryId) (string o.category) no_members in
    let d = quoted_takes o.category in
    let e = included_take o.attributes in
    omega (arith, a, b, c, d, e, attribute_name_takes, category_id_takes)

-- an object of whose attributes some bytes are counted
pub object_takes : (o : CategoryObject) (bytes : ℕ) → bytes ≢ 0 → bytes ≤ bytes_of_all bytes_of_attribute o.attributes → 32 + bytes + bytes_of_text o.category ≤ bytes_of_object o
object_takes o bytes some at_most = by_flag (has_included o) refl where
  by_flag : (b : Bool) → has_included o ≡ b → 32 + bytes + bytes_of_text o.category ≤ cond b (bytes_of (category_data o)) 0
  by_flag true is = let a = category_data_takes o in omega (arith, a, at_most)
  by_flag false is = let a = none_take o.attributes is in absurd (some (omega (arith, a, at_most)))

-- ---- obligations, advice and what is named

id_takes : bytes_of_text (name_of name.Id) ≡ 2
unfolding name_of escape_byte
id_takes = refl

version_takes : bytes_of_text (name_of name.Version) ≡ 7
unfolding name_of escape_byte
version_takes = refl

pub duty_takes : (d : Duty) → 8 + bytes_of_text d.id + bytes_of_all bytes_of_assignment d.assignments ≤ bytes_of_duty d
unfolding duty_data
duty_takes d =
    let a = items_if_any_take assignment_data false name.AttributeAssignment d.assignments (with name.Id (string d.id) no_members) in
    let b = member_takes false (name_of name.Id) (string d.id) no_members in
    let c = quoted_takes d.id in
    omega (arith, a, b, c, id_takes)

pub key_takes : (k : DocumentKey) → 16 + bytes_of_text k.id ≤ bytes_of_key k
unfolding identifier_data
key_takes k =
    let a = member_takes false (name_of name.Id) (string k.id) (with name.Version (string (version_text k.version)) no_members) in
    let b = quoted_takes k.id in
    let c = member_takes true (name_of name.Version) (string (version_text k.version)) no_members in
    let d = quoted_takes (version_text k.version) in
    omega (arith, a, b, c, d, id_takes, version_takes)

-- the policies, and the policy sets
kinds_take : (keys : List DocumentKey)
    → bytes_of_all bytes_of_key keys ≤ bytes_of_all bytes_of_key (filter (λ k. same_kind Policy k.kind) keys) + bytes_of_all bytes_of_key (filter (λ k. same_kind PolicySet k.kind) keys)
kinds_take [] = omega arith
kinds_take (k ∷ keys) = by_kind k.kind (filter (λ k. same_kind Policy k.kind) keys) (filter (λ k. same_kind PolicySet k.kind) keys) (kinds_take keys) where
  by_kind : (kind : DocumentKind) (policies sets : List DocumentKey) → bytes_of_all bytes_of_key keys ≤ bytes_of_all bytes_of_key policies + bytes_of_all bytes_of_key sets
      → bytes_of_key k + bytes_of_all bytes_of_key keys
      ≤ bytes_of_all bytes_of_key (cond (same_kind Policy kind) (k ∷ policies) policies) + bytes_of_all bytes_of_key (cond (same_kind PolicySet kind) (k ∷ sets) sets)
  by_kind Policy policies sets rest = omega (arith, rest)
  by_kind PolicySet policies sets rest = omega (arith, rest)

identifiers_take : (later : Bool) (keys : List DocumentKey) (ms : Members)
    → bytes_of_all bytes_of_key keys + length (members_text false ms) ≤ length (members_text later (with_identifiers_if_any keys ms))
unfolding identifiers_data
identifiers_take later [] ms = let a = no_comma later ms in omega (arith, a)
identifiers_take later (k ∷ keys) ms =
    let a = member_takes later (name_of name.PolicyIdentifierList) (identifiers_data (k ∷ keys)) ms in
    let b = no_comma true ms in
    let c = kinds_take (k ∷ keys) in
    let sets = with_items_if_any name.PolicySetIdReference (of_kind PolicySet (k ∷ keys)) no_members in
    let d = items_if_any_take identifier_data false name.PolicyIdReference (filter (λ k. same_kind Policy k.kind) (k ∷ keys)) sets in
    let e = items_if_any_take identifier_data false name.PolicySetIdReference (filter (λ k. same_kind PolicySet k.kind) (k ∷ keys)) no_members in
    omega (arith, a, b, c, d, e)

-- ---- results

decision_name_takes : bytes_of_text (name_of name.Decision) ≡ 8
unfolding name_of escape_byte
decision_name_takes = refl

status_name_takes : bytes_of_text (name_of name.Status) ≡ 6
unfolding name_of escape_byte
status_name_takes = refl

status_code_takes : bytes_of_text (name_of name.StatusCode) ≡ 10
unfolding name_of escape_byte
status_code_takes = refl

uri_of_status_takes : (s : Status) → 36 ≤ length (uri_of_status s)
uri_of_status_takes status.Ok = omega arith
uri_of_status_takes status.MissingAttribute = omega arith
uri_of_status_takes status.SyntaxError = omega arith
uri_of_status_takes status.ProcessingError = omega arith

status_takes : (s : Status) → 60 ≤ bytes_of (status_data s)
unfolding status_data
status_takes s =
    let inner = only name.Value (string (uri_of_status s)) in
    let a = member_takes false (name_of name.StatusCode) inner no_members in
    let b = member_takes false (name_of name.Value) (string (uri_of_status s)) no_members in
    let c = quoted_takes (uri_of_status s) in
    let d = no_shorter (uri_of_status s) in
    let e = uri_of_status_takes s in
    omega (arith, a, b, c, d, e, status_code_takes, value_name_takes)

-- the objects at places
object_or_none : (o : CategoryObject) (b : Bool) (bytes : ℕ) (others : List CategoryObject) → bytes ≤ bytes_of_all (λ o. bytes_of (category_data o)) others
    → cond b (bytes_of (category_data o)) 0 + bytes ≤ bytes_of_all (λ o. bytes_of (category_data o)) (cons_option (cond b (Some o) None) others)
object_or_none o true bytes others rest = omega (arith, rest)
object_or_none o false bytes others rest = omega (arith, rest)

objects_take : (objects : List CategoryObject) (places : List ℕ)
    → bytes_of_all bytes_of_object_if_any (map (slice_get objects) places) ≤ bytes_of_all (λ o. bytes_of (category_data o)) (included_objects objects places)
objects_take objects [] = omega arith
objects_take objects (place ∷ places) = by_object (slice_get objects place) (included_objects objects places) (objects_take objects places) where
  by_object : (there : Option CategoryObject) (others : List CategoryObject)
      → bytes_of_all bytes_of_object_if_any (map (slice_get objects) places) ≤ bytes_of_all (λ o. bytes_of (category_data o)) others
      → bytes_of_object_if_any there + bytes_of_all bytes_of_object_if_any (map (slice_get objects) places) ≤ bytes_of_all (λ o. bytes_of (category_data o)) (cons_option (if_included there) others)
  by_object None others rest = omega (arith, rest)
  by_object (Some o) others rest = object_or_none o (has_included o) (bytes_of_all bytes_of_object_if_any (map (slice_get objects) places)) others rest

pub result_takes : (objects : List CategoryObject) (r : ResultObject)
    → 64 + bytes_of_all bytes_of_object_if_any (map (slice_get objects) r.places) + bytes_of_all bytes_of_duty r.evaluated.duties.obligations + bytes_of_all bytes_of_duty r.evaluated.duties.advice
    + bytes_of_all bytes_of_key r.evaluated.ids
    ≤ bytes_of_result objects r
unfolding result_data
result_takes objects r =
    let status = with name.Status (status_data r.evaluated.status) no_members in
    let named = with_identifiers_if_any r.evaluated.ids status in
    let obligations = with_items_if_any name.Obligations (map duty_data r.evaluated.duties.obligations) named in
    let decision = with name.Decision (string (decision_text r.evaluated.decision)) obligations in
    let included = with_items_if_any name.Category (map category_data (included_objects objects r.places)) decision in
    let a = items_if_any_take duty_data false name.AssociatedAdvice r.evaluated.duties.advice included in
    let b = items_if_any_take category_data false name.Category (included_objects objects r.places) decision in
    let c = member_takes false (name_of name.Decision) (string (decision_text r.evaluated.decision)) obligations in
    let d = quoted_takes (decision_text r.evaluated.decision) in
    let e = items_if_any_take duty_data true name.Obligations r.evaluated.duties.obligations named in
    let f = identifiers_take false r.evaluated.ids status in
    let g = member_takes false (name_of name.Status) (status_data r.evaluated.status) no_members in
    let h = status_takes r.evaluated.status in
    let i = objects_take objects r.places in
    omega (arith, a, b, c, d, e, f, g, h, i)

-- all results
pub body_takes : (objects : List CategoryObject) (results : List ResultObject) → bytes_of_all (bytes_of_result objects) results ≤ length (response_body objects results)
unfolding response_body response_data
body_takes objects results =
    let a = member_takes false (name_of name.Response) (listing (map (result_data objects) results)) no_members in
    let b = items_take (result_data objects) false results in
    omega (arith, a, b)
