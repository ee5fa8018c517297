use Rattle.std.proofs.Common.{rules, ◌≢◌, arith}
use Rattle.std.proofs.lemmas.Grind.{common_steps}
use Rattle.xa_reactor.specs.declared.limits.Stage.TheVariants as stages
use Rattle.xa_reactor.proofs.GoingLemmas.{late_else, late_parted, late_quiet}
use Rattle.xa_reactor.proofs.lane.Lane.reason_if_late.Goals as goal

pub returns-in-Quiet : goal.returns-in-Quiet
returns-in-Quiet c = λ terms step late. late_quiet terms step c.args.self.now c.in-Quiet.is late

pub returns-in-Parting : goal.returns-in-Parting
returns-in-Parting c = λ terms step late. late_parted terms step c.args.self.now c.in-Parting.is late
