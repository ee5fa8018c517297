-- Durations and their text (XML Schema, part 2, section 3.2.6; XQuery and XPath data model, section 3.3.2).
use Rattle.std.specs.Prelude.{ℕ, ◌/◌, ◌%◌, ◌==◌, if◌then◌else◌, List, [], ◌∷◌, ◌++◌}
use Rattle.std.specs.Prelude.{codes, decimal, ℤ, pos, neg_ℤ, unsigned_abs, int_lt, ◌≤ℤ◌}
use Rattle.xa_value.specs.Time.{fraction_text}

-- 10,000 years, in months
abbrev pub most_months : ℕ
most_months = 120_000

-- 10,000 years of 365.25 days, in nanoseconds
abbrev pub most_nanos : ℕ
most_nanos = 315_576_000_000_000_000_000

abbrev pub IsMonths : ℤ → Type 0
IsMonths months = (neg_ℤ (pos most_months) ≤ℤ months) × (months ≤ℤ pos most_months)

abbrev pub IsNanos : ℤ → Type 0
IsNanos nanos = (neg_ℤ (pos most_nanos) ≤ℤ nanos) × (nanos ≤ℤ pos most_nanos)

-- a part with its unit, or nothing if it is zero. Of the units `Y` is 89, `M` 77, `D` 68 and `H` 72
unfoldable pub part_text : ℕ → ℕ → List ℕ
part_text n unit = if n == 0 then [] else decimal n ++ unit ∷ []

-- a minus for what is below zero
abbrev pub sign_text : ℤ → List ℕ
sign_text z = if int_lt z (pos 0) then codes "-" else []

-- years and months, zero parts left out
unfoldable pub year_month_text : ℤ → List ℕ
year_month_text z =
    let months = unsigned_abs z in
    if months == 0 then codes "P0M"
    else sign_text z ++ codes "P" ++ part_text (months / 12) 89 ++ part_text (months % 12) 77

-- seconds with a fraction, or nothing if they are zero
unfoldable pub seconds_text : ℕ → List ℕ
seconds_text nanos =
    if nanos == 0 then [] else decimal (nanos / 1_000_000_000) ++ fraction_text (nanos % 1_000_000_000) ++ codes "S"

-- hours, minutes and seconds after `T`, or nothing if they are zero
unfoldable pub clock_part_text : ℕ → List ℕ
clock_part_text nanos =
    if nanos == 0 then []
    else codes "T" ++ part_text (nanos / 3_600_000_000_000) 72 ++ part_text (nanos / 60_000_000_000 % 60) 77
    ++ seconds_text (nanos % 60_000_000_000)

-- days, hours, minutes and seconds, zero parts left out
unfoldable pub day_time_text : ℤ → List ℕ
day_time_text z =
    let nanos = unsigned_abs z in
    if nanos == 0 then codes "PT0S"
    else sign_text z ++ codes "P" ++ part_text (nanos / 86_400_000_000_000) 68
    ++ clock_part_text (nanos % 86_400_000_000_000)
