-- The JSON of a text, and lists of what was read, one behind the other.
use Rattle.std.proofs.Common.{◌≡◌, ℕ, List, [], ◌++◌, refl, ap, sym, ◌∙◌, append_assoc}
use Rattle.std.specs.Prelude.{Bool, true, false, Some, None, Result, Ok, Err, if◌then◌else◌}
use Rattle.std.specs.Option.{ok_or}
use Rattle.std.specs.Str.{IsUtf8, is_utf8}
use Rattle.std.proofs.lemmas.Str.{IsUtf8-from_is_utf8, is_utf8-from_IsUtf8}
use Rattle.serde_json.specs.Data.{Data}
use Rattle.serde_json.specs.Read.{read}
use Rattle.xa_value.specs.Gives.{◌>>=◌}
use Rattle.xa_profile.specs.declared.request_error.RequestError.{RequestError}
use Rattle.xa_profile.specs.declared.request_error.RequestError.TheVariants.{NotJson}
use Rattle.xa_profile.specs.Json.{json}
use Rattle.xa_profile.specs.parsing.Json.{behind}

-- a text in UTF-8 that reads as a value is that JSON
pub json_of_read : (text : List ℕ) (d : Data) → IsUtf8 text → read text ≡ Some d → json text ≡ Ok d
unfolding json
json_of_read text d utf8 reads = rw (is_utf8-from_IsUtf8 text utf8, reads) refl

-- a text that reads as no value, if it is UTF-8 at all, is no JSON
pub no_json : (text : List ℕ) → (IsUtf8 text → read text ≡ None) → json text ≡ Err NotJson
unfolding json
no_json text none = by_test (is_utf8 text) refl where
  by_test : (b : Bool) → is_utf8 text ≡ b → (if b then ok_or (read text) NotJson else Err NotJson) ≡ Err NotJson
  by_test true e = rw (none (IsUtf8-from_is_utf8 text e)) refl
  by_test false e = refl

-- behind nothing
pub behind_none : {X : Type 0} (r : Result (List X) RequestError) → behind [] r ≡ r
behind_none (Ok xs) = refl
behind_none (Err e) = refl

-- further ones, behind the next ones
pub behind_next : {X : Type 0} (items next : List X) (first rest : Result (List X) RequestError) → behind items first ≡ Ok next
    → behind next rest ≡ behind items (first >>= λ xs. rest >>= λ more. Ok (xs ++ more))
behind_next items next (Ok xs) (Ok more) e = let same : items ++ xs ≡ next = cc in ap (λ ys. Ok (ys ++ more)) (sym same) ∙ ap Ok (append_assoc items xs more)
behind_next items next (Ok xs) (Err f) e = refl
behind_next items next (Err f) rest e = absurd (cc)
