-- The text of a value (XACML 3.0, core, appendix A.2).
use Rattle.std.specs.Prelude.{ℕ, List}
use Rattle.std.specs.Fmt.{signed_decimal}
use Rattle.xa_value.specs.declared.value.Value.{Value}
use Rattle.xa_value.specs.declared.value.Value.TheVariants as value
use Rattle.xa_value.specs.Number.{boolean_text}
use Rattle.xa_value.specs.Time.{time_text}
use Rattle.xa_value.specs.Calendar.{date_text, date_time_text}
use Rattle.xa_value.specs.Duration.{day_time_text, year_month_text}
use Rattle.xa_value.specs.Binary.{hex_text, base64_text}

abbrev pub printed : Value → List ℕ
printed (value.String text) = text
printed (value.Boolean b) = boolean_text b
printed (value.Integer z) = signed_decimal z
printed (value.Date d) = date_text d
printed (value.Time t) = time_text t
printed (value.DateTime d) = date_time_text d
printed (value.DayTimeDuration z) = day_time_text z
printed (value.YearMonthDuration z) = year_month_text z
printed (value.AnyUri text) = text
printed (value.HexBinary bytes) = hex_text bytes
printed (value.Base64Binary bytes) = base64_text bytes
