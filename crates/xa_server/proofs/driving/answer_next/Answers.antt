use Rattle.std.proofs.Common.{Ok, Err, false, true, refl, rules}
use Rattle.xa_server.specs.declared.connection.Answered.TheVariants as answered
use Rattle.xa_server.specs.declared.drive_end.DriveEnd.TheVariants.{Ended}
use Rattle.xa_server.proofs.EndLemmas.{holds_less, next_answered}
use Rattle.xa_server.proofs.driving.answer_next.Goals as goal

pub returns-in-Err-clause-answered : goal.returns-in-Err-clause-answered
returns-in-Err-clause-answered g c = λ left reads.
    next_answered g.R.Records.custody _ _ _ _ _ _ (Err c.in-Err.end) (Err c.in-Err.end)
    (rw c.in-Err.is at c.answer_now.ensures) (refl, refl, refl)

pub returns-in-Ok-Waits-clause-answered : goal.returns-in-Ok-Waits-clause-answered
returns-in-Ok-Waits-clause-answered g c = λ left reads.
    next_answered g.R.Records.custody _ _ _ _ _ _ (Ok answered.Waits) (Ok false)
    (rw (c.in-Ok-Waits.is, c.in-Ok-Waits.field-0-is) at c.answer_now.ensures) (refl, refl, refl)

pub returns-in-Ok-Ended-clause-answered : goal.returns-in-Ok-Ended-clause-answered
returns-in-Ok-Ended-clause-answered g c = λ left reads.
    next_answered g.R.Records.custody _ _ _ _ _ _ (Ok answered.Ended) (Err Ended)
    (rw (c.in-Ok-Ended.is, c.in-Ok-Ended.field-0-is) at c.answer_now.ensures) (refl, refl, refl)

pub returns-in_ok-send_answer-in-Ok-Reply-clause-answered : goal.returns-in_ok-send_answer-in-Ok-Reply-clause-answered
returns-in_ok-send_answer-in-Ok-Reply-clause-answered g c = λ left reads.
    next_answered g.R.Records.custody _ _ _ _ _ _ (Ok (answered.Reply c.in-Ok-Reply.answer)) (Ok true)
    (rw (c.in-Ok-Reply.is, c.in-Ok-Reply.field-0-is) at c.answer_now.ensures)
    (Ok tt, c.in_ok-send_answer-in-Ok-Reply.ensures, refl)

pub returns-in_err-send_answer-in-Ok-Reply-clause-answered : goal.returns-in_err-send_answer-in-Ok-Reply-clause-answered
returns-in_err-send_answer-in-Ok-Reply-clause-answered g c = λ left reads.
    next_answered g.R.Records.custody _ _ _ _ _ _ (Ok (answered.Reply c.in-Ok-Reply.answer)) c.from_residual.result
    (rw (c.in-Ok-Reply.is, c.in-Ok-Reply.field-0-is) at c.answer_now.ensures)
    (Err c.in_err-send_answer-in-Ok-Reply.field-0.0, c.in_err-send_answer-in-Ok-Reply.ensures, search rules)

pub returns-in_ok-send_answer-in-Ok-Reply-clause-fewer : goal.returns-in_ok-send_answer-in-Ok-Reply-clause-fewer
returns-in_ok-send_answer-in-Ok-Reply-clause-fewer g c = λ same.
    holds_less g.R.Records.custody _ _ _ _ _ _ c.in-Ok-Reply.answer
    (rw (c.in-Ok-Reply.is, c.in-Ok-Reply.field-0-is) at c.answer_now.ensures)
    c.in_ok-send_answer-in-Ok-Reply.ensures.2
