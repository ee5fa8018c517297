use Rattle.std.proofs.Common.{◌≡◌, map, take, length}
use Rattle.std.specs.Str.Parse.{digits_value}
use Rattle.xa_policy.specs.Version.{parts}
use Rattle.xa_policy.specs.Room.{IsRoom}
use Rattle.xa_policy.proofs.version.Version.of_parts.Given as goal

abbrev pub invariant-loop-part : goal.invariant-loop-part
invariant-loop-part l = record {
  can : (goal.iterator-loop-part).can_next l.part-iterator;
  finite : (goal.iterator-loop-part).is_finite l.part-iterator;
  counted : l.count ≡ length l.yielded;
  room : IsRoom 0 l.numbers l.count;
  written : take l.count l.numbers ≡ map (digits_value 10) (take l.count (parts l.text));
}
