use Rattle.std.proofs.Common.{◌≡◌, length}
use Rattle.xa_value.specs.Lexical.{trimmed_end}
use Rattle.xa_value.proofs.lexical.trimmed_end.Given as goal

abbrev pub invariant-loop-rest : goal.invariant-loop-rest
invariant-loop-rest l = trimmed_end l.rest ≡ trimmed_end l.text

abbrev pub decreases-loop-rest : goal.decreases-loop-rest
decreases-loop-rest l = length l.rest
