-- Which media types a body that is read may have (RFC 9110, sections 8.3 and 8.3.1; JSON Profile of XACML 3.0,
-- section 7).
use Rattle.std.specs.Prelude.{ℕ, Bool, true, false, ◌||◌, List, [], ◌∷◌, codes}
use Rattle.std.specs.Str.{str_eq_ignore_ascii_case}
use Rattle.httparse.specs.Grammar.{trim_ows}
use Rattle.xa_http.specs.declared.message.Field.{Field}
use Rattle.xa_http.specs.Fields.{values_of}
use Rattle.xa_http.specs.Parts.{before}

-- the media type of a Content-Type without its parameters, the first of which follows a semicolon
abbrev pub media_type : List ℕ → List ℕ
media_type value = trim_ows (before 59 value)

-- the value is of that media type; media types compare case-insensitively
abbrev pub is_media : List ℕ → List ℕ → Bool
is_media name value = str_eq_ignore_ascii_case (media_type value) name

-- the value is of JSON, or of XACML in JSON
unfoldable pub is_json : List ℕ → Bool
is_json value = is_media (codes "application/json") value || is_media (codes "application/xacml+json") value

-- there is no Content-Type, or one, and it is JSON
abbrev pub all_json : List (List ℕ) → Bool
all_json [] = true
all_json (value ∷ []) = is_json value
all_json (_ ∷ _ ∷ _) = false

-- the fields say nothing of the body's media type, or that it is JSON
unfoldable pub allows_json : List Field → Bool
allows_json fields = all_json (values_of (codes "Content-Type") fields)
