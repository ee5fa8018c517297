use Rattle.std.proofs.Common.{◌≡◌, arith, length, rules}
use Rattle.xa_server.proofs.SendingLemmas.{all_sent, failed_sending, sent_more, stopped_sending}
use Rattle.xa_server.proofs.sending.send_whole.Goals as goal

pub loop-tried-preserved : goal.loop-tried-preserved
loop-tried-preserved g c =
    sent_more c.args.bytes.now _ _ _ _ _ _ c.loop-tried.invariant _ _ c.in-Some.rest.now c.in-Some.ensures

pub returns-then-is_empty : goal.returns-then-is_empty
returns-then-is_empty g c =
    let none : length c.loop-tried.left.now ≡ 0 = search rules in
    rw c.is_ok.ensures.value
    (all_sent c.args.bytes.now _ _ _ _ _ _ c.loop-tried.invariant _ _ c.deliver.result none c.deliver.ensures.bytes
    c.deliver.ensures.flushed)

pub returns-in_default : goal.returns-in_default
returns-in_default g c = failed_sending c.args.bytes.now _ _ _ _ _ _ c.loop-tried.invariant _ _ c.in_default.ensures

pub returns : goal.returns
returns g c = stopped_sending c.args.bytes.now _ _ _ _ _ _ c.loop-tried.invariant (omega arith)
