-- Which message is the last of its stream (RFC 9112, section 9.3; RFC 9110, section 7.6.1).
use Rattle.std.specs.Prelude.{ℕ, ◌==◌, ◌||◌, Bool, List, map, codes}
use Rattle.std.specs.List.{list_any}
use Rattle.std.specs.Str.{str_eq_ignore_ascii_case}
use Rattle.httparse.specs.Grammar.{trim_ows}
use Rattle.xa_http.specs.declared.message.Field.{Field}
use Rattle.xa_http.specs.Fields.{values_of}
use Rattle.xa_http.specs.Parts.{parts_of}

-- the members of a list that is written with commas, each without the white space around it (RFC 9110, section 5.6.1)
abbrev pub members_of : List ℕ → List (List ℕ)
members_of value = map trim_ows (parts_of 44 value)

-- the member is the token `close`; tokens of Connection compare case-insensitively
abbrev pub is_close : List ℕ → Bool
is_close token = str_eq_ignore_ascii_case token (codes "close")

-- one of the list's members is the token `close`
abbrev pub names_close : List ℕ → Bool
names_close value = list_any is_close (members_of value)

-- no message follows one of HTTP/1.0, nor one with a Connection field that has the token `close`
unfoldable pub closes : ℕ → List Field → Bool
closes minor fields = (minor == 0) || list_any names_close (values_of (codes "Connection") fields)
