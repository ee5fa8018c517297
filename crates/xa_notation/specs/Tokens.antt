-- The shape of a token, which is this project's own. As a bearer token (RFC 6750, section 2.1) it stands in a header
-- field as it is.
use Rattle.std.specs.Prelude.{ℕ, Bool, ◌&&◌, List, length, nat_le}
use Rattle.std.specs.List.{list_all}

-- a visible ASCII character
abbrev pub is_visible : ℕ → Bool
is_visible c = nat_le 33 c && nat_le c 126

-- a token: 8 to 64 visible ASCII characters
unfoldable pub is_token : List ℕ → Bool
is_token text = nat_le 8 (length text) && nat_le (length text) 64 && list_all is_visible text
