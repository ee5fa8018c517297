-- Facts on days of the calendar.
use Rattle.std.proofs.Common.{◌≡◌, ℕ, ◌≤◌, true, List, drop, codes, refl, ap, arith}
use Rattle.std.proofs.lemmas.Bool.{and_parts}
use Rattle.std.specs.Prelude.{nat_le, ◌&&◌, ℤ, pos, negsuc, unsigned_abs, ◌≤ℤ◌, Result, Ok, Err, IsErrAnd}
use borrow.Author.Tests.{leb-true, le-leb}
use Rattle.std.specs.Int.{IsInRange}
use Rattle.jiff_core.proofs.SignedLemmas.{signed_arith}
use Rattle.jiff_core.specs.Calendar.{IsYear, days_in_month}
use Rattle.jiff_core.specs.declared.civil.date.Date.{Date}
use Rattle.xa_value.specs.declared.read_error.ReadError.{ReadError}
use Rattle.xa_value.specs.parsing.Lexical.{has_shape}
use Rattle.xa_value.specs.parsing.Time.{read_time}
use Rattle.xa_value.specs.Calendar.{CivilDateTime, is_day}
use Rattle.xa_value.specs.parsing.Calendar.{read_date_time}

-- what the test of a day shows
pub day_bounds : (year month day : ℕ) → is_day year month day ≡ true → (1 ≤ year) × (year ≤ 9999) × (1 ≤ month) × (month ≤ 12) × (1 ≤ day) × (day ≤ days_in_month (pos year) month)
unfolding is_day
day_bounds year month day h =
    let a = and_parts (nat_le 1 year && nat_le year 9999 && nat_le 1 month && nat_le month 12 && nat_le 1 day) (nat_le day (days_in_month (pos year) month)) h in
    let b = and_parts (nat_le 1 year && nat_le year 9999 && nat_le 1 month && nat_le month 12) (nat_le 1 day) a.0 in
    let c = and_parts (nat_le 1 year && nat_le year 9999 && nat_le 1 month) (nat_le month 12) b.0 in
    let d = and_parts (nat_le 1 year && nat_le year 9999) (nat_le 1 month) c.0 in
    let e = and_parts (nat_le 1 year) (nat_le year 9999) d.0 in
    (leb-true 1 year e.0, leb-true year 9999 e.1, leb-true 1 month d.1, leb-true month 12 c.1, leb-true 1 day b.1, leb-true day _ a.1)

civil_is_day_at : (y : ℤ) (m d : ℕ) → pos 1 ≤ℤ y → IsYear y → IsInRange 1 12 m → IsInRange 1 (days_in_month y m) d → is_day (unsigned_abs y) m d ≡ true
unfolding is_day
civil_is_day_at (pos n) m d late year month day =
    let first : 1 ≤ n = omega (arith, signed_arith) in
    let last : n ≤ 9999 = omega (arith, signed_arith) in
    rw (le-leb 1 n first, le-leb n 9999 last, le-leb 1 m month.0, le-leb m 12 month.1, le-leb 1 d day.0, le-leb d (days_in_month (pos n) m) day.1) refl
civil_is_day_at (negsuc n) m d late year month day = absurd (omega (arith, signed_arith))

-- a day of jiff's calendar from the year 1 on is a day
pub civil_is_day : (d : Date) → pos 1 ≤ℤ d.year → is_day (unsigned_abs d.year) d.month d.day ≡ true
civil_is_day d late = civil_is_day_at d.year d.month d.day late d.year_in d.month_in d.day_in

-- the error of the time of a date with a time, passed on, is what the whole gives
pub date_without_time : (text : List ℕ) (error : ReadError) (r : Result CivilDateTime ReadError)
    → has_shape (codes "9999-99-99T") text ≡ true → read_time (drop 11 text) ≡ Err error → IsErrAnd r (λ e. e ≡ error) → r ≡ read_date_time text
unfolding read_date_time
date_without_time text error (Err e) shaped read same = rw shaped (rw read (ap Err same))
date_without_time text error (Ok date_time) shaped read same = absurd same
