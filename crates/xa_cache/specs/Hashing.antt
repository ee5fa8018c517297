-- How keys are hashed: by the value of a polynomial at a secret point, modulo the prime 2^61 - 1. Nothing rests on it
-- but time.
use Rattle.std.specs.Prelude.{ℕ, ◌+◌, ◌*◌, ◌/◌, ◌%◌, ◌^◌, List, [], ◌∷◌, ◌++◌, length, drop, map, sum, zip}
use Rattle.std.specs.List.{fold}
use Rattle.std.specs.Simd.{first_chunks}
use Rattle.std.specs.Hash as fed
use Rattle.std.specs.Hash.DefaultHasher as siphash
use Rattle.xa_cache.specs.declared.key.Key.{Key}
use Rattle.xa_cache.specs.declared.seeded.Polynomial.{Polynomial}
use Rattle.xa_cache.specs.declared.seeded.Seeded.{Seeded}

-- what a hasher is given of a key: the domain's number and epoch, and the whole body of the request in one piece
abbrev pub hashed_of : Key → List (List ℕ)
hashed_of key = fed.u64 key.number ++ fed.u64 key.epoch ++ key.body ∷ []

-- a shorter number that is the same modulo 2^61 - 1
abbrev pub folded : ℕ → ℕ
folded n = n % 2 ^ 61 + n / 2 ^ 61

-- the value at a point, after a part of that number
abbrev pub with_part : ℕ → ℕ → ℕ → ℕ
with_part point value number = folded (folded (value * point + number))

-- a byte after the bytes before it
abbrev pub next_byte : ℕ → ℕ → ℕ
next_byte number byte = (number * 256 % 2 ^ 64 + byte) % 2 ^ 64

-- the number of a part, which begins with a one
abbrev pub number_of_part : List ℕ → ℕ
number_of_part bytes = fold next_byte 1 bytes

-- the value at a point, after these parts
abbrev pub with_parts : ℕ → ℕ → List (List ℕ) → ℕ
with_parts point value parts = fold (λ v bytes. with_part point v (number_of_part bytes)) value parts

-- the powers of the point by which a value and four parts behind it are multiplied
abbrev pub powers : Polynomial → List ℕ
powers hasher = hasher.fourth ∷ hasher.cube ∷ hasher.square ∷ hasher.point ∷ 1 ∷ []

-- the value after a value and four parts behind it
abbrev pub with_four : Polynomial → ℕ → List (List ℕ) → ℕ
with_four hasher value parts =
    folded (folded (sum (map (λ p. folded (p.1 * p.0)) (zip (powers hasher) (value ∷ map number_of_part parts)))))

-- the hasher's value after these fours of parts
abbrev pub with_fours : Polynomial → List (List (List ℕ)) → ℕ
with_fours hasher fours = fold (with_four hasher) hasher.value fours

-- the hasher after these bytes: in parts of seven, four at once as long as there are four, and then the rest
abbrev pub hashed : Polynomial → List ℕ → Polynomial
hashed hasher bytes =
    let whole = length bytes / 7 in
    let parts = first_chunks 7 whole bytes in
    let fours = length parts / 4 in
    let value = with_parts hasher.point (with_fours hasher (first_chunks 4 fours parts)) (drop (fours * 4) parts) in
    record {
      point = hasher.point;
      square = hasher.square;
      cube = hasher.cube;
      fourth = hasher.fourth;
      value = with_part hasher.point value (number_of_part (drop (whole * 7) bytes));
    }

-- the hasher at a point, with its powers, that begins with a value
abbrev pub hasher_at : ℕ → ℕ → Polynomial
hasher_at point value =
    let square = with_part point point 0 in
    let cube = with_part point square 0 in
    record { point = point; square = square; cube = cube; fourth = with_part point cube 0; value = value }

-- hashers that begin with a secret: their point follows from its SipHash, and their value from that of the secret
-- written twice, without the last three bits of each
abbrev pub seeded_by : List ℕ → Seeded
seeded_by secret =
    let once = siphash.write siphash.initial secret in
    record { start = hasher_at (siphash.finish once / 8) (siphash.finish (siphash.write once secret) / 8) }
