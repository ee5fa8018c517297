use Rattle.std.proofs.Common.{◌∙◌}
use Rattle.xa_bag.proofs.LogicAtOnceLemmas.{any_of_found}
use Rattle.xa_bag.proofs.function.any_of_logic.Goals as goal

pub returns-in-Ok : goal.returns-in-Ok
returns-in-Ok c = any_of_found c.args.function c.args.arguments.now _ (c.in_ok-answer.ensures ∙ c.in-Ok.is)

pub returns-in-Err : goal.returns-in-Err
returns-in-Err c = any_of_found c.args.function c.args.arguments.now _ (c.in_ok-answer.ensures ∙ c.in-Err.is)
