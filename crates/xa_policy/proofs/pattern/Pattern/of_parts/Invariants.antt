use Rattle.std.proofs.Common.{◌≡◌, map, take, length}
use Rattle.xa_policy.specs.declared.pattern.PatternPart.TheVariants.{AnyNumber}
use Rattle.xa_policy.specs.Pattern.{part_of}
use Rattle.xa_policy.specs.Version.{parts}
use Rattle.xa_policy.specs.Room.{IsRoom}
use Rattle.xa_policy.proofs.pattern.Pattern.of_parts.Given as goal

abbrev pub invariant-loop-part : goal.invariant-loop-part
invariant-loop-part l = record {
  can : (goal.iterator-loop-part).can_next l.part-iterator;
  finite : (goal.iterator-loop-part).is_finite l.part-iterator;
  counted : l.count ≡ length l.yielded;
  room : IsRoom AnyNumber l.parts l.count;
  written : take l.count l.parts ≡ map part_of (take l.count (parts l.text));
}
