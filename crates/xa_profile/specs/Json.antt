-- How the members of a request are read from JSON (JSON Profile of XACML 3.0, section 3). A member that the profile
-- doesn't know is not looked at, and of several members of one name the last one counts.
use Rattle.std.specs.Prelude.{ℕ, Bool, false, List, [], ◌∷◌, Option, Some}
use Rattle.std.specs.Prelude.{None, is_some, Result, Ok, Err, if◌then◌else◌}
use Rattle.std.specs.Option.{ok_or}
use Rattle.std.specs.Str.{is_utf8}
use Rattle.serde_json.specs.Data.{Data, null, boolean, number, string, array, object, Items, no_items, item}
use Rattle.serde_json.specs.Read.{read}
use Rattle.serde_json.specs.Find.{get, as_str, as_bool, as_object}
use Rattle.xa_value.specs.Gives.{◌>>=◌}
use Rattle.xa_profile.specs.declared.member.Member.{Member}
use Rattle.xa_profile.specs.declared.request_error.RequestError.{RequestError}
use Rattle.xa_profile.specs.declared.request_error.RequestError.TheVariants.{NotJson, NotProfile}
use Rattle.xa_profile.specs.Member.{name_of}

-- nothing if the condition holds, and else the fault NotProfile
abbrev pub holds_or_not_profile : Bool → Result (Unit {0}) RequestError
holds_or_not_profile b = if b then Ok tt else Err NotProfile

-- the JSON of a text, which has to be UTF-8 (RFC 8259, section 8.1)
unfoldable pub json : List ℕ → Result Data RequestError
json text = if is_utf8 text then ok_or (read text) NotJson else Err NotJson

-- the member of that name, if the value is an object and has it
abbrev pub at : Member → Data → Option Data
at name d = get (name_of name) d

-- a text
abbrev pub text : Data → Result (List ℕ) RequestError
text d = ok_or (as_str d) NotProfile

-- an object
abbrev pub check_object : Data → Result (Unit {0}) RequestError
check_object d = holds_or_not_profile (is_some (as_object d))

-- a text that has to be there
abbrev pub needed_text : Option Data → Result (List ℕ) RequestError
needed_text None = Err NotProfile
needed_text (Some d) = text d

-- a text that may be left out
abbrev pub optional_text : Option Data → Result (Option (List ℕ)) RequestError
optional_text None = Ok None
optional_text (Some d) = text d >>= λ t. Ok (Some t)

-- true or false, and false if it is left out
abbrev pub flag : Option Data → Result Bool RequestError
flag None = Ok false
flag (Some d) = ok_or (as_bool d) NotProfile

-- an array's items; anything else stands for an array of itself (section 3.2)
abbrev pub items_or_itself : Data → Items
items_or_itself null = item null no_items
items_or_itself (boolean b) = item (boolean b) no_items
items_or_itself (number n) = item (number n) no_items
items_or_itself (string s) = item (string s) no_items
items_or_itself (array ds) = ds
items_or_itself (object ms) = item (object ms) no_items

-- the items of a member; none if it is left out
abbrev pub items_if_any : Option Data → Items
items_if_any None = no_items
items_if_any (Some d) = items_or_itself d

-- each of the items, read in order
abbrev pub each : {X : Type 0} → (Data → Result X RequestError) → Items → Result (List X) RequestError
each reads no_items = Ok []
each reads (item d ds) = do
  x ← reads d
  xs ← each reads ds
  Ok (x ∷ xs)
