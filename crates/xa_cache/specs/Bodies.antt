-- What a cache holds: bodies of decisions under keys, the most recently used first.
use Rattle.std.specs.Prelude.{ℕ, Bool, ◌&&◌, nat_eq, nat_le, List, ◌∷◌, length, take, Option}
use Rattle.std.specs.Cmp.Lexicographic.{pointwise}
use Rattle.std.specs.Map.{lookup, remove_entry}
use Rattle.std.specs.Option.{option_map_or}
use Rattle.xa_cache.specs.declared.key.Key.{Key}

-- the key of a domain's number, its epoch and a request's body
abbrev pub key_of : ℕ → ℕ → List ℕ → Key
key_of number epoch body = record { number = number; epoch = epoch; body = body }

-- the number, the epoch and every byte of the body are the same
abbrev pub same_key : Key → Key → Bool
same_key a b = nat_eq a.number b.number && (nat_eq a.epoch b.epoch && pointwise nat_eq a.body b.body)

-- a request's body and a decision's that may be kept: of at most 16,384 bytes each
abbrev pub fits : Key → List ℕ → Bool
fits key body = nat_le (length key.body) 16_384 && nat_le (length body) 16_384

-- the body under that key, if there is one
abbrev pub found : Key → List (Key × List ℕ) → Option (List ℕ)
found key bodies = lookup (same_key key) bodies

-- a body stands first under its key, and nowhere else
abbrev pub first : Key → List (Key × List ℕ) → List ℕ → List (Key × List ℕ)
first key bodies body = (key, body) ∷ remove_entry (same_key key) bodies

-- the bodies after a key was looked up: its body stands first, and if there is none all is as it was
abbrev pub looked : Key → List (Key × List ℕ) → List (Key × List ℕ)
looked key bodies = option_map_or (first key bodies) (found key bodies) bodies

-- the bodies after one was kept under a key: it stands first, and 512 are left
abbrev pub kept : Key → List ℕ → List (Key × List ℕ) → List (Key × List ℕ)
kept key body bodies = take 512 (first key bodies body)
