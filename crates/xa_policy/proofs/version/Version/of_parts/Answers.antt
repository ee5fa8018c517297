use Rattle.std.proofs.Common.{◌≡◌, ◌+◌, ◌<◌, length, map, take, sym, ap, ◌∙◌, arith}
use Rattle.std.proofs.lemmas.Iterator.Consumers.{YieldsList-turn, YieldsList-end}
use Rattle.std.proofs.lemmas.List.{take_all, length_push}
use Rattle.std.specs.Str.Parse.{digits_value}
use Rattle.xa_value.specs.Digits.{is_number}
use Rattle.xa_policy.specs.Version.{parts}
use Rattle.xa_policy.proofs.PartLemmas.{parts_in_turn, part_at, passes_at, more_written, is_version_of}
use Rattle.xa_policy.proofs.RoomLemmas.{room_more}
use Rattle.xa_policy.proofs.version.Version.of_parts.Goals as goal

pub number_of-requires-clause-number : goal.number_of-requires-clause-number
number_of-requires-clause-number c =
    let turn = YieldsList-turn (parts_in_turn c.args.text.now (cc) (cc) (cc)) c.loop-part.yielded _ c.loop-part.yielded_by _ _ c.in-Some.part c.in-Some.is c.next.ensures.steps in
    rw turn.1 (passes_at is_number (parts c.args.text.now) (length c.loop-part.yielded) c.in-Some.part.now c.requires.numbers turn.0)

pub number_of-requires-clause-short : goal.number_of-requires-clause-short
number_of-requires-clause-short c =
    (part_at (parts c.args.text.now) c.loop-part.count (length c.loop-part.yielded) c.in-Some.part.now c.loop-part.invariant.counted c.requires.short
    (YieldsList-turn (parts_in_turn c.args.text.now (cc) (cc) (cc)) c.loop-part.yielded _ c.loop-part.yielded_by _ _ c.in-Some.part c.in-Some.is c.next.ensures.steps)).short

pub offset_bounds-numbers-count : goal.offset_bounds-numbers-count
offset_bounds-numbers-count c =
    let part = part_at (parts c.args.text.now) c.loop-part.count (length c.loop-part.yielded) c.in-Some.part.now c.loop-part.invariant.counted c.requires.short
    (YieldsList-turn (parts_in_turn c.args.text.now (cc) (cc) (cc)) c.loop-part.yielded _ c.loop-part.yielded_by _ _ c.in-Some.part c.in-Some.is c.next.ensures.steps) in
    omega (arith, part.room)

pub bounds-numbers-count : goal.bounds-numbers-count
bounds-numbers-count c =
    let part = part_at (parts c.args.text.now) c.loop-part.count (length c.loop-part.yielded) c.in-Some.part.now c.loop-part.invariant.counted c.requires.short
    (YieldsList-turn (parts_in_turn c.args.text.now (cc) (cc) (cc)) c.loop-part.yielded _ c.loop-part.yielded_by _ _ c.in-Some.part c.in-Some.is c.next.ensures.steps) in
    part.room

pub loop-part-preserved : goal.loop-part-preserved
loop-part-preserved c =
    let part = part_at (parts c.args.text.now) c.loop-part.count (length c.loop-part.yielded) c.in-Some.part.now c.loop-part.invariant.counted c.requires.short
    (YieldsList-turn (parts_in_turn c.args.text.now (cc) (cc) (cc)) c.loop-part.yielded _ c.loop-part.yielded_by _ _ c.in-Some.part c.in-Some.is c.next.ensures.steps) in
    let kept = c.loop-part.invariant in
    let room : c.loop-part.count < length c.loop-part.numbers = rw kept.room.size part.room in
    record {
      can = tt;
      finite = tt;
      counted = ap (λ n. n + 1) kept.counted ∙ sym (length_push c.loop-part.yielded c.in-Some.part);
      room = room_more 0 c.number_of.result c.loop-part.numbers c.loop-part.count part.room kept.room;
      written = more_written (digits_value 10) c.loop-part.numbers (parts c.args.text.now) c.loop-part.count c.in-Some.part.now c.number_of.result room part.there kept.written part.is c.number_of.ensures.value;
    }

pub invariant_of-result : goal.invariant_of-result
invariant_of-result c =
    let ended = YieldsList-end (parts_in_turn c.args.text.now (cc) (cc) (cc)) c.loop-part.yielded _ c.loop-part.yielded_by _ _ c.in-None.is c.next.ensures.steps in
    let count : c.loop-part.count ≡ length (parts c.args.text.now) = c.loop-part.invariant.counted ∙ ended.1 in
    let written : take c.loop-part.count c.loop-part.numbers ≡ map (digits_value 10) (parts c.args.text.now) =
    c.loop-part.invariant.written ∙ ap (map (digits_value 10)) (take_all c.loop-part.count (parts c.args.text.now) (omega (arith, count))) in
    (rw written (is_version_of c.args.text.now c.requires.numbers c.requires.short), c.loop-part.invariant.room)

pub returns : goal.returns
returns c =
    let ended = YieldsList-end (parts_in_turn c.args.text.now (cc) (cc) (cc)) c.loop-part.yielded _ c.loop-part.yielded_by _ _ c.in-None.is c.next.ensures.steps in
    let count : c.loop-part.count ≡ length (parts c.args.text.now) = c.loop-part.invariant.counted ∙ ended.1 in
    c.loop-part.invariant.written ∙ ap (map (digits_value 10)) (take_all c.loop-part.count (parts c.args.text.now) (omega (arith, count)))
