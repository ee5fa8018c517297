use Rattle.xa_expr.proofs.CheckLemmas.{takes_is}
use Rattle.xa_expr.proofs.checking.takes_each.Goals as goal

pub returns : goal.returns
returns c = takes_is c.takes_each.result c.args.function c.args.arguments.now c.takes_each.ensures
