-- The connection is taken out, has its step, and is put back.
use Rattle.xa_reactor.proofs.AlikeLemmas.{alike_kept}
use Rattle.xa_reactor.proofs.ShareLemmas.{steps_at}
use Rattle.xa_reactor.proofs.reactor.Reactor.step.Goals as goal

pub returns-clause-steps : goal.returns-clause-steps
returns-clause-steps g c =
    rw (c.put-3.ensures.after, c.put.ensures.after)
    (steps_at g.R.Records.custody g.N.Network.done c.args.share c.go-went.result c.unless_late-progress.result c.args.terms.now c.in-Some.lane
    c.go-went.new.self c.args.self.now.lanes c.args.front.now c.go-went.new.front c.args.network.now c.go-went.new.network c.in-Some.ensures.before c.go-went.ensures.step c.requires.share
    c.unless_late-progress.ensures.ends c.unless_late-progress.ensures.drops)

pub returns-clause-alike : goal.returns-clause-alike
returns-clause-alike g c =
    rw (c.put-3.ensures.after, c.put.ensures.after)
    (alike_kept c.args.self.now.lanes c.args.front.now.lines c.go-went.new.front.lines c.args.share.conn (record c.go-went.new.self { access = c.args.share.access }) c.requires.alike c.requires.share.there c.go-went.ensures.lasts)
