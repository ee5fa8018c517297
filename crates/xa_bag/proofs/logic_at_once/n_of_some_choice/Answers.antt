use Rattle.xa_bag.proofs.BagLemmas.{first_rest}
use Rattle.xa_bag.proofs.LogicAtOnceLemmas.{n_of_by_most, n_of_no_choice}
use Rattle.xa_bag.proofs.logic_at_once.n_of_some_choice.Goals as goal

pub returns-in-Some : goal.returns-in-Some
returns-in-Some c =
    let first = first_rest _ _ c.numbers-item.is c.in-len1-up.len_at_least in
    n_of_by_most _ _ _ _ _ _ first c.values.ensures.values c.in-Some.ensures.value c.in-Some.ensures.of_type c.requires c.n_of_some.ensures

pub returns-in-None : goal.returns-in-None
returns-in-None c =
    let first = first_rest _ _ c.numbers-item.is c.in-len1-up.len_at_least in
    n_of_no_choice _ _ _ first c.in-None.ensures.value
