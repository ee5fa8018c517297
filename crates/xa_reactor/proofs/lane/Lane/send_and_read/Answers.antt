use Rattle.std.proofs.Common.{rules, ◌≡◌, [], arith}
use Rattle.std.proofs.lemmas.Grind.{common_steps}
use Rattle.xa_reactor.proofs.GoingLemmas.{sent_alone, sent_and_read}
use Rattle.xa_reactor.proofs.lane.Lane.send_and_read.Goals as goal

pub returns-then-ne : goal.returns-then-ne
returns-then-ne g c =
    sent_alone g.R.Records.custody g.N.Network.done _ g.met.R.Records.open_if_sound _ _ _ _ _ _ _ c.send_some-sent.ensures.sends c.send_some-sent.ensures.same

pub returns : goal.returns
returns g c =
    let whole : c.send_some-sent.new.self.outgoing.left ≡ [] = first_of (search rules, grind (arith, common_steps)) in
    sent_and_read g.R.Records.custody g.N.Network.done _ _ _ _ _ _ _ _ _ _ _ _ c.send_some-sent.ensures.sends whole c.send_some-sent.ensures.same c.read_some.ensures
