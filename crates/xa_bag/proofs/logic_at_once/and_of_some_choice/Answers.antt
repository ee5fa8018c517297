use Rattle.xa_func.specs.declared.func_id.Logic.TheVariants as logic
use Rattle.xa_bag.proofs.LogicAtOnceLemmas.{and_by_most, of_no_choice}
use Rattle.xa_bag.proofs.logic_at_once.and_of_some_choice.Goals as goal

pub returns-in-Some : goal.returns-in-Some
returns-in-Some c = and_by_most c.args.arguments.now _ c.in-Some.ensures.value c.in-Some.ensures.of_type c.requires

pub returns-in-None : goal.returns-in-None
returns-in-None c = of_no_choice logic.And c.args.arguments.now c.in-None.ensures.value
