use Rattle.std.proofs.Common.{length, rules}
use Rattle.std.specs.Prelude.{nat_le}
use Rattle.std.proofs.lemmas.Iterator.Consumers.{count_from_yields_List}
use Rattle.std.proofs.lemmas.Iterator.Search.{all_from_yields_List}
use borrow.Author.Tests.{tests}
use Rattle.xa_policy.proofs.PartLemmas.{parts_in_turn, within_limits, beyond_limits}
use Rattle.xa_policy.proofs.version.is_short.Goals as goal

pub returns-then-count-le-MAX_NUMBERS : goal.returns-then-count-le-MAX_NUMBERS
returns-then-count-le-MAX_NUMBERS c =
    let counted = count_from_yields_List _ _ c.count.ensures.ran (parts_in_turn c.args.text.now c.split.ensures.text c.split.ensures.has_more c.split.ensures.pattern) in
    let all = all_from_yields_List (λ part. nat_le (length part) 9) _ _ _ c.all.ensures.ran
    (parts_in_turn c.args.text.now c.split-then-count-le-MAX_NUMBERS.ensures.text c.split-then-count-le-MAX_NUMBERS.ensures.has_more c.split-then-count-le-MAX_NUMBERS.ensures.pattern)
    (λ x b q k. search (rules, tests)) in
    within_limits _ _ _ counted all c.if-count-le-MAX_NUMBERS.true

pub returns-else-count-le-MAX_NUMBERS : goal.returns-else-count-le-MAX_NUMBERS
returns-else-count-le-MAX_NUMBERS c =
    let counted = count_from_yields_List _ _ c.count.ensures.ran (parts_in_turn c.args.text.now c.split.ensures.text c.split.ensures.has_more c.split.ensures.pattern) in
    beyond_limits _ _ counted c.if-count-le-MAX_NUMBERS.false
