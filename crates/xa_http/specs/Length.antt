-- How many bytes of body a head announces, or why the message is not taken (RFC 9112, section 6).
use Rattle.std.specs.Prelude.{ℕ, Bool, ◌&&◌, List, [], ◌∷◌, length, nat_lt}
use Rattle.std.specs.Prelude.{nat_le, ◌==◌, if◌then◌else◌, Result, Ok, Err, codes}
use Rattle.std.specs.List.{list_all, list_any}
use Rattle.std.specs.Str.Parse.{digits_value}
use Rattle.xa_value.specs.Digits.{is_number}
use Rattle.xa_http.specs.declared.message.Field.{Field}
use Rattle.xa_http.specs.declared.fault.SessionFault.{SessionFault}
use Rattle.xa_http.specs.declared.fault.SessionFault.TheVariants.{BadHead, BodyTooLarge, HeadTooLarge, TransferCoding}
use Rattle.xa_http.specs.Fields.{is_named, values_of}

-- a body of that many bytes is taken, up to 524,288 bytes
abbrev pub within_limit : ℕ → Result ℕ SessionFault
within_limit n = if nat_le n 524_288 then Ok n else Err BodyTooLarge

-- the text is digits alone, and writes the number that the digits do
abbrev pub writes_same : List ℕ → List ℕ → Bool
writes_same digits text = is_number text && (digits_value 10 text == digits_value 10 digits)

-- the length that the values of Content-Length agree on: the first is digits alone, and the others write the same
-- number; without one there is no body
unfoldable pub agreed_length : List (List ℕ) → Result ℕ SessionFault
agreed_length [] = Ok 0
agreed_length (first ∷ others) =
    if is_number first && list_all (writes_same first) others then within_limit (digits_value 10 first) else Err BadHead

-- the length of the body after a head of those fields, or the first reason why the message is not taken: more than 64
-- fields, a transfer coding, a Content-Length that isn't a number or differs from another, a body that is too large
unfoldable pub body_length : List Field → Result ℕ SessionFault
body_length fields =
    if nat_lt 64 (length fields) then Err HeadTooLarge else (
    if list_any (is_named (codes "Transfer-Encoding")) fields then Err TransferCoding else
    agreed_length (values_of (codes "Content-Length") fields))
