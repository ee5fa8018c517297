-- How objects, their members and plain values are read from JSON. Of several members of one name the last one counts.
use Rattle.std.specs.Prelude.{ℕ, zero, suc, ◌+◌, Bool, true, ◌&&◌, bytes_eq, find, List, []}
use Rattle.std.specs.Prelude.{◌∷◌, Option, Some, None, is_some, Result, Ok, Err, if◌then◌else◌}
use Rattle.std.specs.List.{list_any}
use Rattle.std.specs.Option.{ok_or}
use Rattle.std.specs.Str.{is_utf8}
use Rattle.serde_json.specs.Data.{Data, Items, no_items, item, Members, no_members, member}
use Rattle.serde_json.specs.Read.{read}
use Rattle.serde_json.specs.Find.{get, as_str, as_bool, as_array, as_object}
use Rattle.xa_value.specs.Gives.{◌>>=◌}
use Rattle.xa_notation.specs.declared.member.Member.{Member}
use Rattle.xa_notation.specs.declared.notation_error.NotationError.{NotationError}
use Rattle.xa_notation.specs.declared.notation_error.NotationError.TheVariants.{NotJson, MissingMember}
use Rattle.xa_notation.specs.declared.notation_error.NotationError.TheVariants.{UnknownMember, BadValue}
use Rattle.xa_notation.specs.declared.tables.Choice.{Choice}
use Rattle.xa_notation.specs.declared.tables.Entry.{Entry}
use Rattle.xa_notation.specs.declared.tables.Entry.TheVariants.{Required, Optional}
use Rattle.xa_notation.specs.declared.tables.Object.{Object}
use Rattle.xa_notation.specs.Tables.{name_of, member_of, members_of, alternatives_of, first_of}

-- the JSON of a text, which has to be UTF-8 (RFC 8259, section 8.1)
unfoldable pub json : List ℕ → Result Data NotationError
json text = if is_utf8 text then ok_or (read text) NotJson else Err NotJson

-- the member of a value, if this is an object and has it
abbrev pub at : Member → Data → Option Data
at name d = get (name_of name) d

-- the member, which has to be there
abbrev pub needed_member : Member → Data → Result Data NotationError
needed_member name d = ok_or (at name d) (MissingMember name)

-- the table has a member of the name
abbrev pub is_named : List Entry → List ℕ → Bool
is_named entries name = list_any (λ e. bytes_eq name (name_of (member_of e))) entries

-- the table has all members of the object
abbrev pub has_only : List Entry → Members → Bool
has_only entries no_members = true
has_only entries (member name d ms) = is_named entries name && has_only entries ms

-- the value is an object without members beside the table's
abbrev pub knows : List Entry → Data → Result (Unit {0}) NotationError
knows entries d = ok_or (as_object d) BadValue >>= (λ ms. if has_only entries ms then Ok tt else Err UnknownMember)

-- a member is there, if it has to be
abbrev pub has_entry : Entry → Data → Result (Unit {0}) NotationError
has_entry (Required name) d = needed_member name d >>= (λ _. Ok tt)
has_entry (Optional name) d = Ok tt

-- the members that have to be there are, in table order
abbrev pub has_needed : List Entry → Data → Result (Unit {0}) NotationError
has_needed [] d = Ok tt
has_needed (entry ∷ entries) d = has_entry entry d >>= (λ _. has_needed entries d)

-- the members are those of the object's table
unfoldable pub fits : Object → Data → Result (Unit {0}) NotationError
fits object d = knows (members_of object) d >>= (λ _. has_needed (members_of object) d)

-- how many members there are
abbrev pub count_of : Members → ℕ
count_of no_members = 0
count_of (member name d ms) = 1 + count_of ms

-- how many members an object has
abbrev pub size_of : Data → Result ℕ NotationError
size_of d = ok_or (as_object d) BadValue >>= (λ ms. Ok (count_of ms))

-- which of the alternatives is there
abbrev pub present_member : List Member → Data → Option Member
present_member names d = find (λ name. is_some (at name d)) names

-- the one member of an object of that many members: it must be there, and none beside it
abbrev pub sole_member : Member → ℕ → Option Member → Result Member NotationError
sole_member first zero found = Err (MissingMember first)
sole_member first (suc zero) (Some name) = Ok name
sole_member first (suc zero) None = Err UnknownMember
sole_member first (suc (suc n)) found = Err UnknownMember

-- the one of the alternatives that is there
unfoldable pub chosen_member : Choice → Data → Result Member NotationError
chosen_member choice d =
    size_of d >>= (λ size. sole_member (first_of choice) size (present_member (alternatives_of choice) d))

-- a text
abbrev pub text : Data → Result (List ℕ) NotationError
text d = ok_or (as_str d) BadValue

-- true or false
abbrev pub flag : Data → Result Bool NotationError
flag d = ok_or (as_bool d) BadValue

-- an array
abbrev pub items : Data → Result Items NotationError
items d = ok_or (as_array d) BadValue

-- an array that may be left out, and is empty then
abbrev pub items_if_any : Option Data → Result Items NotationError
items_if_any None = Ok no_items
items_if_any (Some d) = items d

-- an array that is not empty
abbrev pub not_empty : Items → Result Items NotationError
not_empty no_items = Err BadValue
not_empty (item d ds) = Ok (item d ds)

-- what may be left out
abbrev pub optional : {X : Type 0} → (Data → Result X NotationError) → Option Data → Result (Option X) NotationError
optional reads None = Ok None
optional reads (Some d) = reads d >>= (λ x. Ok (Some x))

-- each of the items, read in order
abbrev pub each : {X : Type 0} → (Data → Result X NotationError) → Items → Result (List X) NotationError
each reads no_items = Ok []
each reads (item d ds) = reads d >>= (λ x. each reads ds >>= (λ xs. Ok (x ∷ xs)))
