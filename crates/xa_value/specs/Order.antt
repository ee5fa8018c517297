-- Equality and order of values (XACML 3.0, core, appendix A.3; XML Schema, part 2, section 3.2.7.4).
use Rattle.std.specs.Prelude.{◌≡◌, option_map, ℕ, Bool, true, false, ◌&&◌, if◌then◌else◌}
use Rattle.std.specs.Prelude.{List, [], bytes_eq, ℤ, pos, Option, Some, None}
use Rattle.std.specs.Ordering.{int_eq, int_cmp, nat_cmp, on, then_cmp, ordering_reverse, is_eq}
use Rattle.std.specs.Cmp.Lexicographic.{slice_cmp}
use Rattle.std.specs.declared.cmp.Ordering.{Ordering}
use Rattle.std.specs.declared.cmp.Ordering.TheVariants.{Less, Equal}
use Rattle.xa_value.specs.declared.data_type.DataType.{DataType}
use Rattle.xa_value.specs.declared.data_type.DataType.TheVariants as type
use Rattle.xa_value.specs.declared.value.Value.{Value}
use Rattle.xa_value.specs.declared.value.Value.TheVariants as value
use Rattle.xa_value.specs.Calendar.{instant, day_number}
use Rattle.xa_value.specs.Types.{same_type}

-- a value's type
abbrev pub type_of : Value → DataType
type_of (value.String text) = type.String
type_of (value.Boolean b) = type.Boolean
type_of (value.Integer z) = type.Integer
type_of (value.Date d) = type.Date
type_of (value.Time t) = type.Time
type_of (value.DateTime d) = type.DateTime
type_of (value.DayTimeDuration z) = type.DayTimeDuration
type_of (value.YearMonthDuration z) = type.YearMonthDuration
type_of (value.AnyUri text) = type.AnyUri
type_of (value.HexBinary bytes) = type.HexBinary
type_of (value.Base64Binary bytes) = type.Base64Binary

-- the number by which a value compares: of a date the instant of its start, of a time that of the day 0
unfoldable pub number_of : Value → ℤ
number_of (value.Boolean b) = if b then pos 1 else pos 0
number_of (value.Integer z) = z
number_of (value.Date d) = instant (day_number d.year d.month d.day) 0 d.zone
number_of (value.Time t) = instant (pos 0) t.nanos t.zone
number_of (value.DateTime d) = instant (day_number d.year d.month d.day) d.nanos d.zone
number_of (value.DayTimeDuration z) = z
number_of (value.YearMonthDuration z) = z
number_of _ = pos 0

-- the bytes by which a value compares
unfoldable pub bytes_of : Value → List ℕ
bytes_of (value.String text) = text
bytes_of (value.AnyUri text) = text
bytes_of (value.HexBinary bytes) = bytes
bytes_of (value.Base64Binary bytes) = bytes
bytes_of _ = []

-- strings, integers, dates and times have an order
abbrev pub is_ordered : DataType → Bool
is_ordered type.String = true
is_ordered type.Integer = true
is_ordered type.Date = true
is_ordered type.Time = true
is_ordered type.DateTime = true
is_ordered _ = false

-- what the values of one type are ordered by: a number, and then bytes
pub record NumberAndBytes : Type 0 where
  pub number : ℤ
  pub bytes : List ℕ

abbrev pub number_and_bytes : ℤ → List ℕ → NumberAndBytes
number_and_bytes z bs = record { number = z; bytes = bs }

-- the order of keys: by the number, and then by the bytes
abbrev pub compare_keys : NumberAndBytes → NumberAndBytes → Ordering
compare_keys = then_cmp (on (λ k. k.number) int_cmp) (on (λ k. k.bytes) (slice_cmp nat_cmp))

-- two keys have the same number and the same bytes
abbrev pub equal_keys : NumberAndBytes → NumberAndBytes → Bool
equal_keys j k = int_eq j.number k.number && bytes_eq j.bytes k.bytes

abbrev pub key_of : Value → NumberAndBytes
key_of v = number_and_bytes (number_of v) (bytes_of v)

-- two values have the same type, number and bytes
unfoldable pub same : Value → Value → Bool
same a b = (same_type (type_of a) (type_of b)) && equal_keys (key_of a) (key_of b)

-- the order of two values of one type that has an order
unfoldable pub order : Value → Value → Option Ordering
order a b =
    if (same_type (type_of a) (type_of b)) && is_ordered (type_of a)
    then Some (compare_keys (key_of a) (key_of b)) else None

-- `order` orders the values that it compares, and agrees with `same`
pub record IsOrder : Type 0 where
  pub equal : (a b : Value) → order a b ≡ Some Equal → same a b ≡ true
  pub tied : (a b : Value) → is_ordered (type_of a) ≡ true → same a b ≡ true → order a b ≡ Some Equal
  pub congruent : (a b c : Value) → same a b ≡ true → order a c ≡ order b c
  pub reversed : (a b : Value) → order a b ≡ option_map ordering_reverse (order b a)
  pub transitive : (a b c : Value) → order a b ≡ Some Less → order b c ≡ Some Less → order a c ≡ Some Less

-- law: the keys of two values of one type compare as equal exactly if the values are the same
abbrev pub KeysTellApart : Type 0
KeysTellApart = (a b : Value) → type_of a ≡ type_of b → same a b ≡ is_eq (compare_keys (key_of a) (key_of b))
