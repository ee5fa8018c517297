-- How many bytes of texts may yet be read for a message.
use Rattle.std.specs.Prelude.{◌≡◌, ◌<◌, ℕ, ◌-◌, ◌^◌, Bool, true, false, ◌||◌, is_some, nat_le}
use Rattle.std.specs.Prelude.{Option, Some, None, if◌then◌else◌}

-- what contracts see of a reader: whether it has a limit, how many bytes of texts may yet be asked for, and whether
-- more were than the limit allows
pub record Allowance : Type 0 where
  pub is_limited : Bool
  pub left : ℕ
  pub is_spent : Bool

-- how many bytes may be asked for at first. Without a limit they are as many as can be counted, which no memory holds
abbrev pub most : Option ℕ → ℕ
most None = 2 ^ 64 - 1
most (Some limit) = limit

-- what is allowed at first
abbrev pub allowed : Option ℕ → Allowance
allowed limit = record { is_limited = is_some limit; left = most limit; is_spent = false }

-- a reader has a limit, which allows fewer bytes than these
abbrev pub IsBeyond : Allowance → ℕ → Type 0
IsBeyond reader bytes = (reader.is_limited ≡ true) × (reader.left < bytes)

-- what is allowed once a text of that many bytes was asked for, whether it was held or is read anew
abbrev pub asked : ℕ → Allowance → Allowance
asked bytes old =
    if nat_le bytes old.left then record old { left = old.left - bytes }
    else record old { left = 0; is_spent = old.is_limited || old.is_spent }
