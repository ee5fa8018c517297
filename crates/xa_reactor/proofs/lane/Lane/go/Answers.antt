use Rattle.std.proofs.Common.{ap, refl, subst}
use Rattle.xa_server.specs.declared.lines.Conn.{Conn}
use Rattle.xa_reactor.specs.declared.lane.Share.{Share}
use Rattle.xa_reactor.specs.Step.{Lasts}
use Rattle.xa_reactor.proofs.GoingLemmas.{room_told, shared_all, shared_later, shared_none, shared_read}
use Rattle.xa_reactor.proofs.StepLemmas.{lasts_none, lasts_on}
use Rattle.xa_reactor.proofs.lane.Lane.go.Goals as goal

-- nothing can be done
pub returns-then-not-can_go-clause-step : goal.returns-then-not-can_go-clause-step
returns-then-not-can_go-clause-step g c = shared_none g.R.Records.custody g.N.Network.done c.args.share g.met.R.Records.open_if_sound c.args.self.now c.args.front.now c.args.network.now

pub returns-then-not-can_go-clause-lasts : goal.returns-then-not-can_go-clause-lasts
returns-then-not-can_go-clause-lasts g c = lasts_none c.args.share.conn c.args.front.now.lines

pub returns-then-has_ended-clause-step : goal.returns-then-has_ended-clause-step
returns-then-has_ended-clause-step g c =
    shared_later g.R.Records.custody g.N.Network.done c.args.share c.at-share.result _ _ _ _ _ _ _ c.at-share.ensures.same c.at-share.ensures.later
    (shared_read g.R.Records.custody g.N.Network.done c.at-share.result g.met.R.Records.open_if_sound _ _ _ _ _ _ _ _ c.send_and_read-read.ensures c.progress_after.ensures)

pub returns-then-has_ended-clause-lasts : goal.returns-then-has_ended-clause-lasts
returns-then-has_ended-clause-lasts g c =
    subst (λ (conn : Conn). Lasts conn c.args.front.now.lines c.send_and_read-read.new.front.lines) (ap (λ (s : Share). s.conn) c.at-share.ensures.same) c.send_and_read-read.ensures.feeds.lasts

pub returns-clause-step : goal.returns-clause-step
returns-clause-step g c =
    shared_later g.R.Records.custody g.N.Network.done c.args.share c.at-share.result _ _ _ _ _ _ _ c.at-share.ensures.same c.at-share.ensures.later
    (shared_all g.R.Records.custody g.N.Network.done c.at-share.result g.met.R.Records.open_if_sound _ _ _ _ _ _ _ _ _ _ _ c.send_and_read-read.ensures (c.has_ended.ensures c.if-has_ended.false)
    (c.if-not-wants_room.ensures refl) c.answer_and_send.ensures (room_told _ c.if-not-share.false))

pub returns-clause-lasts : goal.returns-clause-lasts
returns-clause-lasts g c =
    subst (λ (conn : Conn). Lasts conn c.args.front.now.lines c.answer_and_send.new.front.lines) (ap (λ (s : Share). s.conn) c.at-share.ensures.same)
    (lasts_on _ _ _ _ c.send_and_read-read.ensures.feeds.lasts c.answer_and_send.ensures.asks.lasts)
