-- The JSON of a text, how many members and items there are, and lists of what was read, one behind the other.
use Rattle.std.proofs.Common.{Global, ◌≡◌, ◌≤◌, ℕ, List, [], ◌∷◌, length, arith, refl}
use Rattle.std.specs.Prelude.{Bool, true, false, String, Some, None, Result, Ok, Err, if◌then◌else◌}
use Rattle.std.specs.Option.{ok_or}
use Rattle.std.specs.Str.{IsUtf8, is_utf8}
use Rattle.std.proofs.lemmas.Str.{IsUtf8-from_is_utf8, is_utf8-from_IsUtf8}
use Rattle.serde_json.specs.Data.{Data}
use Rattle.serde_json.specs.View.{items_view, members_view}
use Rattle.serde_json.specs.declared.value.Value.{Value}
use Rattle.serde_json.specs.Read.{read}
use Rattle.xa_notation.specs.declared.notation_error.NotationError.TheVariants.{NotJson}
use Rattle.xa_notation.specs.Json.{json, count_of, not_empty}
use Rattle.xa_notation.specs.parsing.Json.{behind}

-- a text in UTF-8 that reads as a value is that JSON
pub json_of_read : (text : List ℕ) (d : Data) → IsUtf8 text → read text ≡ Some d → json text ≡ Ok d
unfolding json
json_of_read text d utf8 reads = rw (is_utf8-from_IsUtf8 text utf8, reads) refl

-- a text that reads as no value, if it is UTF-8 at all, is no JSON
pub no_json : (text : List ℕ) → (IsUtf8 text → read text ≡ None) → json text ≡ Err NotJson
unfolding json
no_json text none = by_test (is_utf8 text) refl where
  by_test : (b : Bool) → is_utf8 text ≡ b → (if b then ok_or (read text) NotJson else Err NotJson) ≡ Err NotJson
  by_test true e = rw (none (IsUtf8-from_is_utf8 text e)) refl
  by_test false e = refl

-- behind nothing
pub behind_none : {X E : Type 0} (r : Result (List X) E) → behind [] r ≡ r
behind_none (Ok xs) = refl
behind_none (Err e) = refl

-- an object has as many members as its map
pub count_of_members_view : (ms : List (String Global × Value)) → count_of (members_view ms) ≡ length ms
count_of_members_view [] = refl
count_of_members_view (m ∷ ms) = let more = count_of_members_view ms in omega (arith, more)

-- an array with an item is not empty
pub some_items : (vs : List Value) → 1 ≤ length vs → not_empty (items_view vs) ≡ Ok (items_view vs)
some_items [] some = absurd (omega (arith, some))
some_items (v ∷ vs) some = refl
