use Rattle.std.proofs.Common.{arith, rules, ◌≡◌, ◌<◌, [], length}
use Rattle.std.proofs.lemmas.Grind.{common_steps}
use Rattle.xa_reactor.specs.declared.limits.Stage.TheVariants as stages
use Rattle.xa_reactor.proofs.GoingLemmas.{sends_end, sends_none}
use Rattle.xa_reactor.proofs.lane.Lane.send_some.Goals as goal

-- nothing is taken now
pub returns-then-not-ready-clause-sends : goal.returns-then-not-ready-clause-sends
returns-then-not-ready-clause-sends g c = sends_none g.N.Network.done c.args.share _ c.args.self.now c.args.network.now tt

-- it was sent whole
pub returns-clause-sends : goal.returns-clause-sends
returns-clause-sends g c =
    let under_way : 0 < length c.args.self.now.outgoing.left = first_of (search rules, grind (arith, common_steps)) in
    let outgoing : c.args.self.now.stage ≡ stages.Outgoing = first_of (search rules, grind (arith, common_steps)) in
    let whole : c.write-sent.new.self.outgoing.left ≡ [] = first_of (search rules, grind (arith, common_steps)) in
    sends_end g.N.Network.done c.args.share c.write-sent.result c.end_reply.result c.args.self.now c.write-sent.new.self c.end_reply.new.self c.args.network.now c.write-sent.new.network c.end_reply.new.network
    c.write-sent.ensures under_way outgoing whole c.end_reply.ensures.outgoing c.end_reply.ensures.done c.end_reply.ensures.time c.end_reply.ensures.parts c.end_reply.ensures.ends
