use Rattle.std.proofs.Common.{refl}
use Rattle.xa_value.proofs.data_type.DataType.uri.Goals as goal

pub returns-in-DayTimeDuration : goal.returns-in-DayTimeDuration
returns-in-DayTimeDuration c = rw c.in-DayTimeDuration.is refl

pub returns-in-YearMonthDuration : goal.returns-in-YearMonthDuration
returns-in-YearMonthDuration c = rw c.in-YearMonthDuration.is refl

pub returns-in-Base64Binary : goal.returns-in-Base64Binary
returns-in-Base64Binary c = rw c.in-Base64Binary.is refl
