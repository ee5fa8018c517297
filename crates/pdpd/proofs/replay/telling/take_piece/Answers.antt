use Rattle.std.proofs.Common.{◌∙◌, ap, refl}
use Rattle.xa_http.specs.Stream.{Stream}
use Rattle.pdpd.proofs.PieceLemmas.{has_room}
use Rattle.pdpd.proofs.RunLemmas.{some_none, some_on}
use Rattle.pdpd.proofs.TellingLemmas.{stands_on, told_idle, told_on}
use Rattle.pdpd.proofs.replay.telling.take_piece.Goals as goal

pub feed-requires : goal.feed-requires
feed-requires g c = has_room c.args.piece.now c.args.connection.now c.requires.goes_on c.requires.room c.requires.few

pub loop-init : goal.loop-init
loop-init g c = record {
  served = some_none g.R.Records.custody g.met.R.Records.open_if_sound c.args.server.now c.args.server.now refl;
  goes_on = ap (λ (s : Stream). s.ended) c.in_ok-feed.ensures ∙ c.requires.goes_on;
  told =
      told_idle g.R.Records.custody g.met.R.Records.open_if_sound c.args.heading.now c.args.server.now c.args.server.now _ c.feed.new.self _ refl c.in_ok-feed.ensures;
}

pub loop-preserved : goal.loop-preserved
loop-preserved g c = record {
  served =
      some_on g.R.Records.custody g.met.R.Records.open_if_sound c.args.server.now c.loop.server c.answer_next.new.server c.loop.invariant.served c.answer_next.ensures.served;
  goes_on = stands_on c.in_ok-answer_next.field-0 c.answer_next.new.connection c.if-branch.true c.in_ok-answer_next.ensures.stands;
  told =
      told_on g.R.Records.custody g.met.R.Records.open_if_sound c.args.heading.now c.args.server.now c.loop.server c.answer_next.new.server _ c.loop.connection
      c.answer_next.new.connection _ _ _ c.loop.invariant.told c.loop.invariant.goes_on c.in_ok-answer_next.ensures.told;
}

pub returns-in_err-answer_next-clause-served : goal.returns-in_err-answer_next-clause-served
returns-in_err-answer_next-clause-served g c =
    some_on g.R.Records.custody g.met.R.Records.open_if_sound c.args.server.now c.loop.server c.answer_next.new.server c.loop.invariant.served c.answer_next.ensures.served

pub returns-clause-served : goal.returns-clause-served
returns-clause-served g c =
    some_on g.R.Records.custody g.met.R.Records.open_if_sound c.args.server.now c.loop.server c.answer_next.new.server c.loop.invariant.served c.answer_next.ensures.served

pub returns-clause-told : goal.returns-clause-told
returns-clause-told g c =
    told_on g.R.Records.custody g.met.R.Records.open_if_sound c.args.heading.now c.args.server.now c.loop.server c.answer_next.new.server _ c.loop.connection
    c.answer_next.new.connection _ _ _ c.loop.invariant.told c.loop.invariant.goes_on c.in_ok-answer_next.ensures.told
