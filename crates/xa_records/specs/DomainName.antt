-- The names of domains. Their shape is this project's own.
use Rattle.std.specs.Prelude.{ℕ, ◌==◌, ◌||◌, ◌&&◌, Bool, false, List, [], ◌∷◌, length, nat_le}
use Rattle.std.specs.List.{list_all}
use Rattle.std.specs.Char.{is_ascii_digit, is_ascii_lowercase}

-- a small letter or a digit
abbrev pub begins_name : ℕ → Bool
begins_name c = is_ascii_lowercase c || is_ascii_digit c

-- a small letter, a digit or a dash
abbrev pub continues_name : ℕ → Bool
continues_name c = begins_name c || (c == 45)

-- a domain name: one to 32 small letters, digits and dashes, of which the first is no dash
unfoldable pub is_domain_name : List ℕ → Bool
is_domain_name [] = false
is_domain_name (c ∷ cs) = nat_le (length cs) 31 && begins_name c && list_all continues_name cs
