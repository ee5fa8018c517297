-- Numbers that are counted up to the greatest one: what is counted of parts is what is counted of all.
use Rattle.std.proofs.Common.{◌≡◌, ℕ, ◌+◌, ◌-◌, ◌^◌, min, arith}
use Rattle.xa_decide.specs.Nodes.{counted}

-- one more
pub one_counted : (n : ℕ) → counted (counted n + 1) ≡ counted (1 + n)
one_counted n = omega arith

-- a part more, in front of the rest
pub more_counted : (so_far part rest : ℕ) → counted (counted (so_far + counted part) + rest) ≡ counted (so_far + (part + rest))
more_counted so_far part rest = omega arith

-- what was counted can be
pub counted_once : (n : ℕ) → counted (counted n) ≡ counted n
counted_once n = omega arith

-- nothing more
pub all_counted : (n : ℕ) → counted n ≡ n → counted (n + 0) ≡ n
all_counted n within = omega (arith, within)
