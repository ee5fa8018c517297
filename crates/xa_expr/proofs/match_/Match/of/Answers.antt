use Rattle.std.proofs.Common.{refl, sym}
use Rattle.xa_expr.proofs.MatchLemmas.{made}
use Rattle.xa_expr.proofs.match_.Match.of.Goals as goal

pub returns : goal.returns
returns c = sym (made _ _ refl)
