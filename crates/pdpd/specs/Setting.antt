-- The settings that the environment gives by the variables PDPD_WORK, PDPD_REPLY, PDPD_READING, PDPD_VIEWS,
-- PDPD_IDLE, PDPD_MESSAGE and PDPD_SUMS.
use Rattle.std.specs.Prelude.{ℕ, ◌*◌, nat_eq, if◌then◌else◌, List, Option, Some, None}
use Rattle.xa_value.specs.Digits.{number_up_to}
use Rattle.pdpd.specs.declared.serve.setting.Setting.{Setting}
use Rattle.pdpd.specs.declared.serve.setting.Setting.TheVariants.{Work, Reply, Reading, Views, Idle, Message, Sums}

-- what each setting is if its variable isn't set: the limit of work for one decision request, 0 for none; how many
-- bytes the body of a response may have, and how many bytes of policies may be read for one decision request, 0 for
-- any number; how many bytes of memory cached views of domains may take, 0 to cache none; for how many seconds a
-- connection may give nothing, or take nothing, and for how many a message may come from its first byte on, 0 for
-- ever; 1 if a new file of a store has sums, 0 if not
abbrev pub default_of : Setting → ℕ
default_of Work = 150_000_000
default_of Reply = 16_777_216
default_of Reading = 16_000_000
default_of Views = 268_435_456
default_of Idle = 30
default_of Message = 10
default_of Sums = 1

-- the greatest number that each setting may be
abbrev pub most_of : Setting → ℕ
most_of Sums = 1
most_of _ = 18_446_744_073_709_551_615

-- what a setting is, by the text to which its variable is set, if it is: a number that it may be
abbrev pub value_of : Setting → Option (List ℕ) → Option ℕ
value_of setting None = Some (default_of setting)
value_of setting (Some text) = number_up_to (most_of setting) text

-- the limit that a setting of 0 or more is: 0 is none
abbrev pub limit_of : ℕ → Option ℕ
limit_of set = if nat_eq set 0 then None else Some set

-- the limit in nanoseconds that a setting in seconds is: 0 is none
abbrev pub nanos_of : ℕ → Option ℕ
nanos_of seconds = if nat_eq seconds 0 then None else Some (seconds * 1_000_000_000)
