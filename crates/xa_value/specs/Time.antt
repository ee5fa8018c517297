-- Times of day and their text (XML Schema, part 2, section 3.2.8).
use Rattle.std.specs.Prelude.{ℕ, zero, suc, ◌-◌, ◌*◌, ◌/◌, ◌%◌, ◌^◌, ◌==◌}
use Rattle.std.specs.Prelude.{if◌then◌else◌, List, [], ◌++◌, codes, length, ℤ, Option}
use Rattle.xa_value.specs.Lexical.{number, last_digits}
use Rattle.xa_value.specs.Zone.{zone_text}

-- nanoseconds since midnight, with the offset of the zone in minutes, if it has one
pub record ClockTime : Type 0 where
  pub nanos : ℕ
  pub zone : Option ℤ

-- the nanoseconds of a day
abbrev pub day_nanos : ℕ
day_nanos = 86_400_000_000_000

-- the digits of a fraction of a second, in nanoseconds
unfoldable pub nanoseconds : List ℕ → ℕ
nanoseconds digits = number digits * 10 ^ (9 - length digits)

-- the digits of a number of nanoseconds as a fraction of this many digits, without zeros at its end
unfoldable pub significant_digits : ℕ → ℕ → List ℕ
significant_digits zero n = []
significant_digits (suc count) n = if n % 10 == 0 then significant_digits count (n / 10) else last_digits (suc count) n

-- a point and the fraction, or nothing if it is zero
unfoldable pub fraction_text : ℕ → List ℕ
fraction_text n = if n == 0 then [] else codes "." ++ significant_digits 9 n

-- hours, minutes, seconds and the fraction
unfoldable pub clock_text : ℕ → List ℕ
clock_text nanos =
    last_digits 2 (nanos / 3_600_000_000_000) ++ codes ":" ++ last_digits 2 (nanos / 60_000_000_000 % 60) ++ codes ":"
    ++ last_digits 2 (nanos / 1_000_000_000 % 60) ++ fraction_text (nanos % 1_000_000_000)

abbrev pub time_text : ClockTime → List ℕ
time_text t = clock_text t.nanos ++ zone_text t.zone
