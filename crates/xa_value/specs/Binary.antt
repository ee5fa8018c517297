-- Bytes and their text (XML Schema, part 2, sections 3.2.15 and 3.2.16; RFC 4648, section 4).
use Rattle.std.specs.Prelude.{ℕ, not, List, filter}
use Rattle.hex.specs.Hex.{encode_upper}
use Rattle.base64.specs.GeneralPurpose.{encode_of as encode_by}
use Rattle.base64.specs.Engines.{standard}
use Rattle.xa_value.specs.Lexical.{is_blank}

-- the text of hexBinary, with capital digits
unfoldable pub hex_text : List ℕ → List ℕ
hex_text bytes = encode_upper bytes

-- the text without white space
abbrev pub without_blanks : List ℕ → List ℕ
without_blanks text = filter (λ c. not (is_blank c)) text

unfoldable pub base64_text : List ℕ → List ℕ
base64_text bytes = encode_by standard bytes
