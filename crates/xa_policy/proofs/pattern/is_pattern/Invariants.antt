use Rattle.std.proofs.Common.{◌≡◌, drop, length}
use Rattle.xa_policy.specs.Version.{parts}
use Rattle.xa_policy.specs.Pattern.{is_pattern}
use Rattle.xa_policy.proofs.PatternLemmas.{goes_on}
use Rattle.xa_policy.proofs.pattern.is_pattern.Given as goal

abbrev pub invariant-loop-part : goal.invariant-loop-part
invariant-loop-part l = record {
  can : (goal.iterator-loop-part).can_next l.part-iterator;
  finite : (goal.iterator-loop-part).is_finite l.part-iterator;
  same : goes_on l.ended (drop (length l.yielded) (parts l.text)) ≡ is_pattern (parts l.text);
}
