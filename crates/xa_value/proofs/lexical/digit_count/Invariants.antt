use Rattle.std.proofs.Common.{◌≡◌, ◌+◌, drop}
use Rattle.xa_value.specs.parsing.Lexical.{digit_count}
use Rattle.xa_value.proofs.lexical.digit_count.Given as goal

abbrev pub invariant-loop-place : goal.invariant-loop-place
invariant-loop-place l = l.place + digit_count (drop l.place l.text) ≡ digit_count l.text
