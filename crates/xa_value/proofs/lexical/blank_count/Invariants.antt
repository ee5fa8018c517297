use Rattle.std.proofs.Common.{◌≡◌, ◌+◌, drop}
use Rattle.std.specs.List.{prefix_len}
use Rattle.xa_value.specs.Lexical.{is_blank}
use Rattle.xa_value.proofs.lexical.blank_count.Given as goal

abbrev pub invariant-loop-place : goal.invariant-loop-place
invariant-loop-place l = l.place + prefix_len is_blank (drop l.place l.text) ≡ prefix_len is_blank l.text
