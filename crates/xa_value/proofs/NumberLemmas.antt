-- Facts on integers.
use Rattle.std.proofs.Common.{◌≡◌, ℕ, ◌-◌, ◌^◌, Bool, true, false, min, arith}
use Rattle.std.proofs.lemmas.Bool.Decides.{nat_tests}
use Rattle.xa_value.specs.parsing.Number.{integer_of}

-- a number above 64 bits is out of range, and so is the largest that is kept of it
pub integer_capped : (negative : Bool) (n : ℕ) → integer_of negative (min n (2 ^ 64 - 1)) ≡ integer_of negative n
unfolding integer_of
integer_capped true n = grind (arith, nat_tests)
integer_capped false n = grind (arith, nat_tests)
