-- The error of the time is that of the date with a time.
use Rattle.std.proofs.Common.{sym, ◌∙◌}
use Rattle.xa_value.proofs.CalendarLemmas.{date_without_time}
use Rattle.xa_value.proofs.calendar.read_date_time.Goals as goal

pub returns-in_err-time : goal.returns-in_err-time
returns-in_err-time c =
    date_without_time c.args.text.now c.in_err-time.field-0.0 _ (sym c.has_shape.ensures.value ∙ c.if-not-has_shape.false)
    (sym c.in_err-time.ensures) c.from_residual.ensures.1
