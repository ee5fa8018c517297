-- How many places are free, and at which address connections come.
use Rattle.std.proofs.Common.{◌≡◌, ◌<◌, ◌≤◌, ℕ, zero, suc, Bool, true, false, List, [], ◌∷◌, length, Option, Some, None, refl, arith}
use Rattle.xa_reactor.specs.declared.access.Access.{Access}
use Rattle.xa_reactor.specs.declared.access.Access.TheVariants.{All, Asks, Changes}
use Rattle.xa_reactor.specs.declared.lane.Lane.{Lane}
use Rattle.xa_reactor.specs.Turn.{AreOpen, Fits, Lanes, MayCome, free_in, lane_at}

-- a connection fits that comes at one address, at the first of two, or at that for changes
pub fits_all : (split : Bool) → split ≡ false → Fits split All
fits_all false one = refl
fits_all true one = absurd cc

pub fits_asks : (split : Bool) → split ≡ true → Fits split Asks
fits_asks false two = absurd cc
fits_asks true two = λ same. cc

pub fits_changes : (split : Bool) → split ≡ true → Fits split Changes
fits_changes false two = absurd cc
fits_changes true two = λ same. cc

-- if more places are free than so many, there is a free one
pub place_free : (lanes : Lanes) (kept : ℕ) → kept < free_in lanes → (place : ℕ) × (place < length lanes) × (lane_at place lanes ≡ None)
place_free [] kept more = absurd (omega (arith, more))
place_free (None ∷ lanes) kept more = (0, omega arith, refl)
place_free (Some lane ∷ lanes) kept more =
    let (place, inside, none) = place_free lanes kept (omega (arith, more)) in (suc place, omega (arith, inside), none)

-- and so one where another connection may come
pub place_for : (access : Access) (lanes : Lanes) (kept : ℕ) → MayCome access lanes → kept < free_in lanes
    → (place : ℕ) × (place < length lanes) × (lane_at place lanes ≡ None) × MayCome access lanes
place_for access lanes kept may more = let it = place_free lanes kept more in (it.0, it.1, it.2, may)

-- if no place is free, a connection is open at each
pub all_open : (lanes : Lanes) → free_in lanes ≤ 0 → AreOpen lanes
all_open [] none = tt
all_open (None ∷ lanes) none = absurd (omega (arith, none))
all_open (Some lane ∷ lanes) none = all_open lanes (omega (arith, none))

-- if some place is free, and no more than one, one is
pub one_free : (lanes : Lanes) → 0 < free_in lanes → free_in lanes ≤ 1 → free_in lanes ≡ 1
one_free lanes some few = omega (arith, some, few)
