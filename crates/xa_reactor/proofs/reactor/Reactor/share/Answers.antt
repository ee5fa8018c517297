-- A place has its share: one step, behind which it may be closed.
use Rattle.std.proofs.Common.{◌≡◌, None, Ok, rules}
use Rattle.xa_reactor.specs.declared.progress.Progress.TheVariants.{Goes, Waits}
use Rattle.xa_reactor.specs.Turn.{lane_at}
use Rattle.xa_reactor.proofs.ShareLemmas.{not_gone, share_for, shared_broken, shared_closed, shared_none, shared_on, steps_for}
use Rattle.xa_reactor.proofs.reactor.Reactor.share.Goals as goal

pub returns-in_default-clause-shared : goal.returns-in_default-clause-shared
returns-in_default-clause-shared g c =
    let none : lane_at c.args.place c.args.self.now.lanes ≡ None = search rules in
    shared_none g.R.Records.custody g.N.Network.done g.met.R.Records.open_if_sound c.args.terms.now c.args.place c.args.self.now.lanes c.args.front.now c.args.network.now none

pub step-requires-clause-share : goal.step-requires-clause-share
step-requires-clause-share g c = share_for g.R.Records.custody g.N.Network.done c.in-Some.share c.args.terms.now c.args.place c.args.self.now.lanes c.in-Some.ensures

pub close-requires-clause-there : goal.close-requires-clause-there
close-requires-clause-there g c =
    not_gone g.R.Records.custody g.N.Network.done c.step.result c.args.terms.now c.args.place c.args.self.now.lanes c.step.new.self.lanes c.args.front.now c.step.new.front
    c.args.network.now c.step.new.network
    (steps_for g.R.Records.custody g.N.Network.done c.in-Some.share c.args.place c.step.result c.args.terms.now c.args.self.now.lanes c.step.new.self.lanes c.args.front.now
    c.step.new.front c.args.network.now c.step.new.network c.in-Some.ensures c.step.ensures.steps)

pub returns-in-Ok-Goes-clause-shared : goal.returns-in-Ok-Goes-clause-shared
returns-in-Ok-Goes-clause-shared g c =
    let steps = steps_for g.R.Records.custody g.N.Network.done c.in-Some.share c.args.place c.step.result c.args.terms.now c.args.self.now.lanes c.step.new.self.lanes c.args.front.now
    c.step.new.front c.args.network.now c.step.new.network c.in-Some.ensures c.step.ensures.steps in
    let on = rw (c.in-Ok-Goes.is, c.in-Ok-Goes.field-0-is) at steps in
    shared_on g.R.Records.custody g.N.Network.done (Ok Goes) c.args.terms.now c.args.place c.args.self.now.lanes c.step.new.self.lanes c.args.front.now c.step.new.front
    c.args.network.now c.step.new.network on on.ends on.drops

pub returns-in-Ok-Waits-clause-shared : goal.returns-in-Ok-Waits-clause-shared
returns-in-Ok-Waits-clause-shared g c =
    let steps = steps_for g.R.Records.custody g.N.Network.done c.in-Some.share c.args.place c.step.result c.args.terms.now c.args.self.now.lanes c.step.new.self.lanes c.args.front.now
    c.step.new.front c.args.network.now c.step.new.network c.in-Some.ensures c.step.ensures.steps in
    let on = rw (c.in-Ok-Waits.is, c.in-Ok-Waits.field-0-is) at steps in
    shared_on g.R.Records.custody g.N.Network.done (Ok Waits) c.args.terms.now c.args.place c.args.self.now.lanes c.step.new.self.lanes c.args.front.now c.step.new.front
    c.args.network.now c.step.new.network on on.ends on.drops

pub returns-in-Ok-Ends-clause-shared : goal.returns-in-Ok-Ends-clause-shared
returns-in-Ok-Ends-clause-shared g c =
    let steps = steps_for g.R.Records.custody g.N.Network.done c.in-Some.share c.args.place c.step.result c.args.terms.now c.args.self.now.lanes c.step.new.self.lanes c.args.front.now
    c.step.new.front c.args.network.now c.step.new.network c.in-Some.ensures c.step.ensures.steps in
    shared_closed g.R.Records.custody g.N.Network.done g.met.R.Records.open_if_sound c.in-Ok-Ends.reason c.args.terms.now c.args.place c.args.self.now.lanes
    c.step.new.self.lanes c.close.new.self.lanes c.args.front.now c.step.new.front c.close.new.front c.args.network.now c.step.new.network c.close.new.network
    (rw (c.in-Ok-Ends.is, c.in-Ok-Ends.field-0-is) at steps) c.close.ensures.closes

pub returns-in-Err-clause-shared : goal.returns-in-Err-clause-shared
returns-in-Err-clause-shared g c =
    shared_broken g.R.Records.custody g.N.Network.done c.step.result c.args.terms.now c.args.place c.args.self.now.lanes c.step.new.self.lanes c.args.front.now
    c.step.new.front c.args.network.now c.step.new.network
    (steps_for g.R.Records.custody g.N.Network.done c.in-Some.share c.args.place c.step.result c.args.terms.now c.args.self.now.lanes c.step.new.self.lanes c.args.front.now
    c.step.new.front c.args.network.now c.step.new.network c.in-Some.ensures c.step.ensures.steps)
