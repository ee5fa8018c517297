use Rattle.std.proofs.Common.{rules, ◌≡◌}
use Rattle.jiff_core.specs.Date.{epoch_day}
use Rattle.xa_value.specs.Moment.{IsMoment, day_number_of}
use Rattle.xa_value.proofs.DayLemmas.{moment_day, moment_year}
use Rattle.xa_value.proofs.moment.Moment.day.Goals as goal

pub returns-clause-value : goal.returns-clause-value
returns-clause-value c =
    let within : IsMoment c.args.self = search rules in
    let number : epoch_day c.unwrap.result ≡ day_number_of c.args.self = search rules in
    moment_day c.args.self c.unwrap.result within number

pub returns-clause-from_year_one : goal.returns-clause-from_year_one
returns-clause-from_year_one c =
    let within : IsMoment c.args.self = search rules in
    let number : epoch_day c.unwrap.result ≡ day_number_of c.args.self = search rules in
    moment_year c.args.self c.unwrap.result within number
