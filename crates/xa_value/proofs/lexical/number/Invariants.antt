use Rattle.std.proofs.Common.{◌≡◌, ◌-◌, ◌^◌, min, take}
use Rattle.xa_value.specs.Lexical.{number}
use Rattle.xa_value.proofs.lexical.number.Given as goal

abbrev pub invariant-loop-digit : goal.invariant-loop-digit
invariant-loop-digit l = l.value ≡ min (number (take l.digit-index l.digits)) (2 ^ 64 - 1)
