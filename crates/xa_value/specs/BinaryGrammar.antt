-- The shapes of bytes (XML Schema, part 2, sections 3.2.15 and 3.2.16). Each is a tree, the text that it prints as, a
-- predicate for valid trees, and its value.
use Rattle.std.specs.Prelude.{◌≡◌, ℕ, ◌+◌, ◌-◌, ◌*◌, ◌/◌, ◌%◌, ◌<◌, Bool, ◌&&◌, ◌||◌, nat_le}
use Rattle.std.specs.Prelude.{if◌then◌else◌, List, [], ◌∷◌, map, codes, slice_index, IsTrue, ⊤}

-- ---- hexBinary

-- a hexadecimal digit: `0` to `9`, `A` to `F`, or `a` to `f`
abbrev pub is_hex_digit : ℕ → Bool
is_hex_digit c = (nat_le 48 c && nat_le c 57) || (nat_le 65 c && nat_le c 70) || (nat_le 97 c && nat_le c 102)

-- the number of a hexadecimal digit, 0 to 15
abbrev pub hex_digit : ℕ → ℕ
hex_digit c = if nat_le c 57 then c - 48 else if nat_le c 70 then c - 55 else c - 87

-- a byte: two digits, the high one first
pub record HexByte : Type 0 where
  pub high : ℕ
  pub low : ℕ

abbrev pub print_hex : List HexByte → List ℕ
print_hex [] = []
print_hex (byte ∷ bytes) = byte.high ∷ byte.low ∷ print_hex bytes

abbrev pub IsHex : List HexByte → Type 0
IsHex [] = ⊤
IsHex (byte ∷ bytes) = IsTrue (is_hex_digit byte.high) × IsTrue (is_hex_digit byte.low) × IsHex bytes

abbrev pub hex_value : List HexByte → List ℕ
hex_value bytes = map (λ byte. hex_digit byte.high * 16 + hex_digit byte.low) bytes

-- ---- base64Binary (RFC 4648, section 4)

-- the standard alphabet: the symbols of the numbers 0 to 63
abbrev pub alphabet : List ℕ
alphabet = codes "ABCDEFGHIJKLMNOPQRSTUVWXYZabcdefghijklmnopqrstuvwxyz0123456789+/"

abbrev pub symbol : ℕ → ℕ
symbol n = slice_index alphabet n

-- three bytes are four numbers of six bits; one byte at the end is two numbers, and two bytes at the end are three
pub data Base64 : Type 0 where
  end : Base64
  one_byte : (a b : ℕ) → Base64
  two_bytes : (a b c : ℕ) → Base64
  three_bytes : (a b c d : ℕ) (rest : Base64) → Base64

-- the symbols of the numbers, with `=` for each that the last three bytes lack
abbrev pub print_base64 : Base64 → List ℕ
print_base64 end = []
print_base64 (one_byte a b) = symbol a ∷ symbol b ∷ codes "=="
print_base64 (two_bytes a b c) = symbol a ∷ symbol b ∷ symbol c ∷ codes "="
print_base64 (three_bytes a b c d rest) = symbol a ∷ symbol b ∷ symbol c ∷ symbol d ∷ print_base64 rest

-- numbers of six bits; the bits after the last byte are zero
abbrev pub IsBase64 : Base64 → Type 0
IsBase64 end = ⊤
IsBase64 (one_byte a b) = (a < 64) × (b < 64) × (b % 16 ≡ 0)
IsBase64 (two_bytes a b c) = (a < 64) × (b < 64) × (c < 64) × (c % 4 ≡ 0)
IsBase64 (three_bytes a b c d rest) = (a < 64) × (b < 64) × (c < 64) × (d < 64) × IsBase64 rest

-- the bits of the numbers, eight to a byte
abbrev pub base64_value : Base64 → List ℕ
base64_value end = []
base64_value (one_byte a b) = (a * 4 + b / 16) ∷ []
base64_value (two_bytes a b c) = (a * 4 + b / 16) ∷ (b % 16 * 16 + c / 4) ∷ []
base64_value (three_bytes a b c d rest) =
    (a * 4 + b / 16) ∷ (b % 16 * 16 + c / 4) ∷ (c % 4 * 64 + d) ∷ base64_value rest
