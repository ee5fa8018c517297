use Rattle.std.proofs.Common.{refl}
use Rattle.std.proofs.lemmas.List.{take_rest}
use Rattle.xa_value.specs.parsing.Time.{clock_nanos}
use Rattle.xa_value.proofs.TimeLemmas.{clock_bounds}
use Rattle.xa_value.proofs.time.clock_nanos.Goals as goal

pub fraction_nanos-requires : goal.fraction_nanos-requires
fraction_nanos-requires c = rw (take_rest c.args.text.now 8) (clock_bounds c.args.text.now c.requires.clock).3

pub returns-clause-value : goal.returns-clause-value
unfolding clock_nanos
returns-clause-value c =
    rw (c.from-hours.ensures, c.two_digits.ensures.value, c.from-minutes.ensures, c.two_digits-2.ensures.value, c.from-seconds.ensures, c.two_digits-3.ensures.value, c.fraction_nanos.ensures.value, take_rest c.args.text.now 8) refl
