use Rattle.std.proofs.Common.{◌≡◌}
use Rattle.std.specs.Vec.Iter.{into_iter_items}
use Rattle.xa_notation.specs.parsing.Adding.{with_typed_rules}
use Rattle.xa_notation.proofs.typing.with_rules.Given as goal

-- the policy with the rules so far, and behind them those that are left
abbrev pub invariant-loop-rule : goal.invariant-loop-rule
invariant-loop-rule l = with_typed_rules l.policy (into_iter_items l.rule-iterator) ≡ with_typed_rules l.fn.policy l.fn.written
