use Rattle.xa_func.specs.declared.func_id.Logic.TheVariants as logic
use Rattle.xa_bag.proofs.LogicAtOnceLemmas.{or_by_most, of_no_choice}
use Rattle.xa_bag.proofs.logic_at_once.or_of_some_choice.Goals as goal

pub returns-in-Some : goal.returns-in-Some
returns-in-Some c = or_by_most c.args.arguments.now _ c.in-Some.ensures.value

pub returns-in-None : goal.returns-in-None
returns-in-None c = of_no_choice logic.Or c.args.arguments.now c.in-None.ensures.value
