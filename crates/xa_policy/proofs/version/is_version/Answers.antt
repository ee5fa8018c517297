use Rattle.std.proofs.Common.{rules}
use Rattle.std.proofs.lemmas.Iterator.Search.{all_from_yields_List}
use borrow.Author.Tests.{tests}
use Rattle.xa_value.specs.Digits.{is_number}
use Rattle.xa_policy.proofs.PartLemmas.{parts_in_turn}
use Rattle.xa_policy.proofs.version.is_version.Goals as goal

pub returns : goal.returns
returns c = all_from_yields_List is_number _ _ _ c.all.ensures.ran (parts_in_turn c.args.text.now c.split.ensures.text c.split.ensures.has_more c.split.ensures.pattern) (λ x b q k. search (rules, tests))
