use Rattle.std.proofs.Common.{[], ◌∷◌}
use Rattle.xa_expr.proofs.KindLemmas.{accepts_is}
use Rattle.xa_expr.proofs.match_.takes_both.Goals as goal

pub returns : goal.returns
returns c = accepts_is c.accepts.result c.args.signature (c.args.first ∷ c.args.second ∷ []) c.accepts.ensures
