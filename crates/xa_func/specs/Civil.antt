-- What contracts see of the days that the code works with.
use Rattle.std.specs.Prelude.{unsigned_abs, Result, Ok, Err}
use Rattle.jiff_core.specs.declared.civil.date.Date.{Date}
use Rattle.xa_func.specs.declared.fault.FuncFault.{FuncFault}
use Rattle.xa_value.specs.Days.{Day}

-- the day of a civil date
abbrev pub day_of : Date → Day
day_of d = record { year = unsigned_abs d.year; month = d.month; day = d.day }

abbrev pub day_result : Result Date FuncFault → Result Day FuncFault
day_result (Ok d) = Ok (day_of d)
day_result (Err e) = Err e
