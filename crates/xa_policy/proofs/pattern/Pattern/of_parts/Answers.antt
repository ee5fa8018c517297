use Rattle.std.proofs.Common.{◌≡◌, ◌+◌, ◌<◌, length, map, take, sym, ap, ◌∙◌, arith}
use Rattle.std.proofs.lemmas.Iterator.Consumers.{YieldsList-turn, YieldsList-end}
use Rattle.std.proofs.lemmas.List.{take_all, length_push}
use Rattle.std.specs.Prelude.{◌||◌}
use Rattle.xa_value.specs.Digits.{is_number}
use Rattle.xa_policy.specs.declared.pattern.PatternPart.TheVariants.{AnyNumber}
use Rattle.xa_policy.specs.Version.{parts}
use Rattle.xa_policy.specs.Pattern.{is_star, is_plus, part_of}
use Rattle.xa_policy.proofs.PartLemmas.{parts_in_turn, part_at, passes_at, more_written}
use Rattle.xa_policy.proofs.PatternLemmas.{pattern_parts}
use Rattle.xa_policy.proofs.PatternRoundTrip.{is_pattern_of}
use Rattle.xa_policy.proofs.RoomLemmas.{room_more}
use Rattle.xa_policy.proofs.pattern.Pattern.of_parts.Goals as goal

pub part_of-requires-clause-part : goal.part_of-requires-clause-part
part_of-requires-clause-part c =
    let turn = YieldsList-turn (parts_in_turn c.args.text.now (cc) (cc) (cc)) c.loop-part.yielded _ c.loop-part.yielded_by _ _ c.in-Some.part c.in-Some.is c.next.ensures.steps in
    rw turn.1 (passes_at (λ p. is_number p || is_star p || is_plus p) (parts c.args.text.now) (length c.loop-part.yielded) c.in-Some.part.now (pattern_parts (parts c.args.text.now) c.requires.pattern) turn.0)

pub part_of-requires-clause-short : goal.part_of-requires-clause-short
part_of-requires-clause-short c =
    (part_at (parts c.args.text.now) c.loop-part.count (length c.loop-part.yielded) c.in-Some.part.now c.loop-part.invariant.counted c.requires.short
    (YieldsList-turn (parts_in_turn c.args.text.now (cc) (cc) (cc)) c.loop-part.yielded _ c.loop-part.yielded_by _ _ c.in-Some.part c.in-Some.is c.next.ensures.steps)).short

pub bounds-parts-count : goal.bounds-parts-count
bounds-parts-count c =
    let part = part_at (parts c.args.text.now) c.loop-part.count (length c.loop-part.yielded) c.in-Some.part.now c.loop-part.invariant.counted c.requires.short
    (YieldsList-turn (parts_in_turn c.args.text.now (cc) (cc) (cc)) c.loop-part.yielded _ c.loop-part.yielded_by _ _ c.in-Some.part c.in-Some.is c.next.ensures.steps) in
    part.room

pub loop-part-preserved : goal.loop-part-preserved
loop-part-preserved c =
    let part = part_at (parts c.args.text.now) c.loop-part.count (length c.loop-part.yielded) c.in-Some.part.now c.loop-part.invariant.counted c.requires.short
    (YieldsList-turn (parts_in_turn c.args.text.now (cc) (cc) (cc)) c.loop-part.yielded _ c.loop-part.yielded_by _ _ c.in-Some.part c.in-Some.is c.next.ensures.steps) in
    let kept = c.loop-part.invariant in
    let room : c.loop-part.count < length c.loop-part.parts = rw kept.room.size part.room in
    record {
      can = tt;
      finite = tt;
      counted = ap (λ n. n + 1) kept.counted ∙ sym (length_push c.loop-part.yielded c.in-Some.part);
      room = room_more AnyNumber c.part_of.result c.loop-part.parts c.loop-part.count part.room kept.room;
      written = more_written part_of c.loop-part.parts (parts c.args.text.now) c.loop-part.count c.in-Some.part.now c.part_of.result room part.there kept.written part.is c.part_of.ensures;
    }

pub invariant_of-result : goal.invariant_of-result
invariant_of-result c =
    let ended = YieldsList-end (parts_in_turn c.args.text.now (cc) (cc) (cc)) c.loop-part.yielded _ c.loop-part.yielded_by _ _ c.in-None.is c.next.ensures.steps in
    let count : c.loop-part.count ≡ length (parts c.args.text.now) = c.loop-part.invariant.counted ∙ ended.1 in
    let written : take c.loop-part.count c.loop-part.parts ≡ map part_of (parts c.args.text.now) =
    c.loop-part.invariant.written ∙ ap (map part_of) (take_all c.loop-part.count (parts c.args.text.now) (omega (arith, count))) in
    (rw written (is_pattern_of c.args.text.now c.requires.pattern c.requires.short), c.loop-part.invariant.room)

pub returns : goal.returns
returns c =
    let ended = YieldsList-end (parts_in_turn c.args.text.now (cc) (cc) (cc)) c.loop-part.yielded _ c.loop-part.yielded_by _ _ c.in-None.is c.next.ensures.steps in
    let count : c.loop-part.count ≡ length (parts c.args.text.now) = c.loop-part.invariant.counted ∙ ended.1 in
    c.loop-part.invariant.written ∙ ap (map part_of) (take_all c.loop-part.count (parts c.args.text.now) (omega (arith, count)))
