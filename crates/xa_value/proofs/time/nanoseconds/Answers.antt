use Rattle.std.proofs.Common.{◌≡◌, refl, arith}
use Rattle.xa_value.specs.Lexical.{number}
use Rattle.xa_value.specs.Time.{nanoseconds}
use Rattle.xa_value.proofs.TimeLemmas.{nanoseconds_lt, number_short}
use Rattle.xa_value.proofs.time.nanoseconds.Goals as goal

pub overflow_mul-result : goal.overflow_mul-result
overflow_mul-result c =
    let short = number_short c.args.digits.now c.requires.digits c.requires.short in
    let bound = nanoseconds_lt c.args.digits.now c.requires.digits c.requires.short in
    let whole : c.number.result ≡ number c.args.digits.now = omega arith in
    rw (whole, c.pow.ensures) (omega arith)

pub returns-clause-value : goal.returns-clause-value
unfolding nanoseconds
returns-clause-value c =
    let short = number_short c.args.digits.now c.requires.digits c.requires.short in
    let whole : c.number.result ≡ number c.args.digits.now = omega arith in
    rw (whole, c.pow.ensures) refl

pub returns-clause-bound : goal.returns-clause-bound
returns-clause-bound c =
    let short = number_short c.args.digits.now c.requires.digits c.requires.short in
    let bound = nanoseconds_lt c.args.digits.now c.requires.digits c.requires.short in
    let whole : c.number.result ≡ number c.args.digits.now = omega arith in
    rw (whole, c.pow.ensures) bound
