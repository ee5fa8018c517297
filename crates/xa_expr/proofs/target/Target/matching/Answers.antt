use Rattle.xa_expr.proofs.TargetMisfitLemmas.{target_fits}
use Rattle.xa_expr.proofs.target.Target.matching.Goals as goal

pub returns-in_err-matching-clause-fits : goal.returns-in_err-matching-clause-fits
returns-in_err-matching-clause-fits g c = target_fits (g.C.Context.values_of c.args.context.now) c.keeps_types.ensures c.args.self.now

pub returns-then-eq-clause-fits : goal.returns-then-eq-clause-fits
returns-then-eq-clause-fits g c = target_fits (g.C.Context.values_of c.args.context.now) c.keeps_types.ensures c.args.self.now

pub returns-clause-fits : goal.returns-clause-fits
returns-clause-fits g c = target_fits (g.C.Context.values_of c.args.context.now) c.keeps_types.ensures c.args.self.now
