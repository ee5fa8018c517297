-- Facts on durations.
use Rattle.std.proofs.Common.{◌≡◌, ℕ, ◌+◌, ◌-◌, ◌*◌, ◌^◌, ◌<◌, Bool, List, min, ap, ◌⊎◌, inl, inr, arith}
use Rattle.std.proofs.lemmas.Bool.{cases_lt}
use Rattle.std.proofs.lemmas.Bool.Decides.{nat_tests}
use Rattle.xa_value.specs.Duration.{most_months, most_nanos}
use Rattle.xa_value.specs.parsing.Duration.{within, total_nanos, nanos_of}

-- two magnitudes of which each is the other, or both are too great
pub same_within : (most : ℕ) (b : Bool) (m n : ℕ) → (most < m) × (most < n) ⊎ (m ≡ n) → within most b m ≡ within most b n
unfolding within
same_within most b m n (inl far) = grind (arith, nat_tests)
same_within most b m n (inr e) = ap (within most b) e

-- what is kept of a number above 64 bits is as much out of range as the number
pub months_capped : (b : Bool) (y m : ℕ) → within most_months b (min y (2 ^ 64 - 1) * 12 + min m (2 ^ 64 - 1)) ≡ within most_months b (y * 12 + m)
months_capped b y m = same_within _ b _ _ (elim (cases_lt most_months (y * 12 + m)) [ inl far ↦ inl (omega arith, omega arith) | inr near ↦ inr (omega arith) ])

pub clock_capped : (b : Bool) (d h m s f : ℕ) → within most_nanos b (total_nanos d (min h (2 ^ 64 - 1)) (min m (2 ^ 64 - 1)) (min s (2 ^ 64 - 1)) f) ≡ within most_nanos b (total_nanos d h m s f)
clock_capped b d h m s f = same_within _ b _ _ (elim (cases_lt most_nanos (total_nanos d h m s f)) [ inl far ↦ inl (omega arith, omega arith) | inr near ↦ inr (omega arith) ])

pub days_capped : (b : Bool) (d : ℕ) (clock : List ℕ) → within most_nanos b (nanos_of (min d (2 ^ 64 - 1)) clock) ≡ within most_nanos b (nanos_of d clock)
unfolding nanos_of
days_capped b d clock = same_within _ b _ _ (elim (cases_lt most_nanos (nanos_of d clock)) [ inl far ↦ inl (omega arith, omega arith) | inr near ↦ inr (omega arith) ])
