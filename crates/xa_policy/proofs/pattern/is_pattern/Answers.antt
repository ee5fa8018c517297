use Rattle.std.proofs.Common.{◌≡◌, true, false, ◌+◌, ◌∷◌, length, drop, sym, ap, ◌∙◌, arith, rules}
use Rattle.std.proofs.lemmas.Iterator.Consumers.{YieldsList-turn, YieldsList-end}
use Rattle.std.specs.Prelude.{◌||◌}
use Rattle.std.proofs.lemmas.List.{drop_all, length_push}
use Rattle.xa_policy.specs.Version.{parts}
use Rattle.xa_value.specs.Digits.{is_number}
use Rattle.xa_policy.specs.Pattern.{is_star, is_plus, is_pattern}
use Rattle.xa_policy.proofs.PartLemmas.{parts_in_turn, parts_from, parts_some}
use Rattle.xa_policy.proofs.PatternLemmas.{goes_on, goes_on_from_start, goes_on_ended, goes_on_other, goes_on_next, goes_on_done}
use Rattle.xa_policy.proofs.pattern.is_pattern.Goals.{then-ended-via-then-ended, then-ended-via-else-ended+then-not-is_part}
use Rattle.xa_policy.proofs.pattern.is_pattern.Goals as goal

pub loop-part-init : goal.loop-part-init
loop-part-init c = record { can = tt; finite = tt; same = goes_on_from_start (parts c.args.text.now) (parts_some c.args.text.now) }

pub returns-then-ended : goal.returns-then-ended
returns-then-ended c =
    let from = parts_from (parts c.args.text.now) (length c.loop-part.yielded) c.in-Some.part.now
    (YieldsList-turn (parts_in_turn c.args.text.now (cc) (cc) (cc)) c.loop-part.yielded _ c.loop-part.yielded_by _ _ c.in-Some.part c.in-Some.is c.next.ensures.steps) in
    let here : goes_on c.loop-part.ended (c.in-Some.part.now ∷ drop (length c.loop-part.yielded + 1) (parts c.args.text.now)) ≡ is_pattern (parts c.args.text.now) =
    ap (goes_on c.loop-part.ended) (sym from) ∙ c.loop-part.invariant.same in
    elim c.then-ended.branch [
      | then-ended-via-then-ended w ↦ goes_on_ended c.loop-part.ended c.in-Some.part.now (drop (length c.loop-part.yielded + 1) (parts c.args.text.now)) (is_pattern (parts c.args.text.now)) here w.if-ended.true
      | then-ended-via-else-ended+then-not-is_part w ↦ let test : (is_number c.in-Some.part.now || is_star c.in-Some.part.now || is_plus c.in-Some.part.now) ≡ false = search rules in goes_on_other c.loop-part.ended c.in-Some.part.now (drop (length c.loop-part.yielded + 1) (parts c.args.text.now)) (is_pattern (parts c.args.text.now)) here test
    ]

pub loop-part-preserved : goal.loop-part-preserved
loop-part-preserved c =
    let from = parts_from (parts c.args.text.now) (length c.loop-part.yielded) c.in-Some.part.now
    (YieldsList-turn (parts_in_turn c.args.text.now (cc) (cc) (cc)) c.loop-part.yielded _ c.loop-part.yielded_by _ _ c.in-Some.part c.in-Some.is c.next.ensures.steps) in
    let here : goes_on c.loop-part.ended (c.in-Some.part.now ∷ drop (length c.loop-part.yielded + 1) (parts c.args.text.now)) ≡ is_pattern (parts c.args.text.now) =
    ap (goes_on c.loop-part.ended) (sym from) ∙ c.loop-part.invariant.same in
    let test : (is_number c.in-Some.part.now || is_star c.in-Some.part.now || is_plus c.in-Some.part.now) ≡ true = search rules in
    let next : goes_on (is_plus c.in-Some.part.now) (drop (length c.loop-part.yielded + 1) (parts c.args.text.now)) ≡ is_pattern (parts c.args.text.now) =
    goes_on_next c.loop-part.ended c.in-Some.part.now (drop (length c.loop-part.yielded + 1) (parts c.args.text.now)) (is_pattern (parts c.args.text.now)) here c.if-ended.false test in
    let ended : c.is_plus-ended.result ≡ is_plus c.in-Some.part.now = search rules in
    record {
      can = tt;
      finite = tt;
      same = rw (length_push c.loop-part.yielded c.in-Some.part, ended) next;
    }

pub returns : goal.returns
returns c =
    let ended = YieldsList-end (parts_in_turn c.args.text.now (cc) (cc) (cc)) c.loop-part.yielded _ c.loop-part.yielded_by _ _ c.in-None.is c.next.ensures.steps in
    let none = drop_all (length c.loop-part.yielded) (parts c.args.text.now) (omega (arith, ended.1)) in
    sym (goes_on_done c.loop-part.ended) ∙ ap (goes_on c.loop-part.ended) (sym none) ∙ c.loop-part.invariant.same
