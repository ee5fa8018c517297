use Rattle.std.proofs.Common.{arith, rules, ◌≡◌, ◌≢◌}
use Rattle.std.proofs.lemmas.Grind.{common_steps}
use Rattle.std.proofs.lemmas.Result.{err_from_is_err_and}
use Rattle.std.specs.Duration.{as_nanos}
use Rattle.xa_reactor.specs.declared.progress.Progress.TheVariants.{Goes}
use Rattle.xa_reactor.proofs.GoingLemmas.{answered_and_sent, answered_broken, answered_none, ends_alike}
use Rattle.xa_reactor.proofs.lane.Lane.answer_and_send.Goals as goal

-- the clock told no moment
pub returns-in_err-given : goal.returns-in_err-given
returns-in_err-given g c =
    let p = err_from_is_err_and c.from_residual.result c.from_residual.ensures.1 in
    rw p.1 (answered_broken g.R.Records.custody g.N.Network.done c.args.share _ c.args.self.now c.args.front.now c.answer_next.new.front c.args.network.now c.in_err-given.ensures c.requires)

-- there was nothing to answer, or no memory for it
pub returns-then-ne : goal.returns-then-ne
returns-then-ne g c =
    let other : c.take_answer-taken.result ≢ Goes = first_of (search rules, grind (arith, common_steps)) in
    answered_none g.R.Records.custody g.N.Network.done c.args.share _ c.take_answer-taken.result (as_nanos c.at-share.result.now) _ c.args.self.now c.take_answer-taken.new.self c.args.front.now
    c.answer_next.new.front c.args.network.now c.at-share.ensures.later c.in_ok-given.ensures c.requires c.take_answer-taken.ensures other
    (λ xs is. ends_alike c.take_answer-taken.result c.progress_after.result c.args.share.conn.number xs c.take_answer-taken.new.self c.progress_after.ensures is)

-- a part of the reply was sent
pub returns-then-is_shut : goal.returns-then-is_shut
returns-then-is_shut g c =
    let goes : c.take_answer-taken.result ≡ Goes = first_of (search rules, grind (arith, common_steps)) in
    answered_and_sent g.R.Records.custody g.N.Network.done c.args.share _ c.take_answer-taken.result c.send_some-sent.result c.at-share.result _ c.args.self.now c.take_answer-taken.new.self
    c.send_some-sent.new.self c.args.front.now c.answer_next.new.front c.send_some-sent.new.front c.args.network.now c.send_some-sent.new.network c.at-share.ensures.same c.at-share.ensures.later
    c.in_ok-given.ensures c.take_answer-taken.ensures goes c.send_some-sent.ensures.sends c.send_some-sent.ensures.same (λ xs is. tt)

pub returns : goal.returns
returns g c =
    let goes : c.take_answer-taken.result ≡ Goes = first_of (search rules, grind (arith, common_steps)) in
    answered_and_sent g.R.Records.custody g.N.Network.done c.args.share _ c.take_answer-taken.result c.send_some-sent.result c.at-share.result _ c.args.self.now c.take_answer-taken.new.self
    c.send_some-sent.new.self c.args.front.now c.answer_next.new.front c.send_some-sent.new.front c.args.network.now c.send_some-sent.new.network c.at-share.ensures.same c.at-share.ensures.later
    c.in_ok-given.ensures c.take_answer-taken.ensures goes c.send_some-sent.ensures.sends c.send_some-sent.ensures.same
    (λ xs is. ends_alike c.send_some-sent.result c.progress_after-2.result c.args.share.conn.number xs c.send_some-sent.new.self c.progress_after-2.ensures is)
