use Rattle.std.proofs.Common.{◌≡◌, ◌∙◌, Err, ap, inl, inr, refl, rules}
use Rattle.std.specs.Prelude.{pos}
use Rattle.xa_http.specs.declared.session.Next.TheVariants as next
use Rattle.xa_server.specs.declared.connection.Answered.TheVariants as answered
use Rattle.xa_server.specs.declared.drive_end.DriveEnd.TheVariants.{Memory}
use Rattle.xa_server.proofs.NextLemmas.{message_now}
use Rattle.xa_server.proofs.connection.Connection.answer_now.Goals as goal

pub returns-in_err-look : goal.returns-in_err-look
returns-in_err-look g c =
    let failed : c.from_residual.result ≡ Err Memory = search rules in
    rw failed (refl, c.look.ensures.same, inl refl)

pub returns-in_default : goal.returns-in_default
returns-in_default g c =
    (rw (c.in-Message.is) at c.in_ok-look.ensures.look, rw c.in_default.is at c.now.ensures, refl, c.look.ensures.same)

pub returns-in_err-answer-in-Message : goal.returns-in_err-answer-in-Message
returns-in_err-answer-in-Message g c =
    let failed : c.from_residual-in_err-answer-in-Message.result ≡ Err Memory = search rules in
    let none = c.in_err-answer-in-Message.ensures in
    let stands = rw (c.in-Message.is) at c.in_ok-look.ensures.look in
    rw failed (none.1, none.2 ∙ c.look.ensures.same, inr (c.in-Some.moment, stands, c.in-Some.ensures))

pub returns-in_ok-answer-in-Message : goal.returns-in_ok-answer-in-Message
returns-in_ok-answer-in-Message g c =
    message_now g.R.Records.custody c.in-Some.moment _ c.args.self.now c.answer.new.self _ _ _ _
    (rw (c.in-Message.is) at c.in_ok-look.ensures.look) c.in-Some.ensures
    (rw c.look.ensures.same at c.in_ok-answer-in-Message.ensures)

pub returns-in_err-end_by-in-Fault : goal.returns-in_err-end_by-in-Fault
returns-in_err-end_by-in-Fault g c =
    let failed : c.from_residual-in_err-end_by-in-Fault.result ≡ Err Memory = search rules in
    rw failed (refl, c.in_err-end_by-in-Fault.ensures ∙ c.look.ensures.same, inl refl)

pub returns-in_ok-end_by-in-Fault : goal.returns-in_ok-end_by-in-Fault
returns-in_ok-end_by-in-Fault g c =
    let ends = rw c.look.ensures.same at c.in_ok-end_by-in-Fault.ensures in
    (pos 0, (next.Fault c.in-Fault.fault, ends.0, ap (λ a. answered.Reply a) ends.1, refl), refl)

pub returns-in-More : goal.returns-in-More
returns-in-More g c =
    let stands = rw (c.in-More.is) at c.in_ok-look.ensures.look in
    (pos 0, (next.More, (stands.0, stands.1, c.look.ensures.same), refl, refl), refl)

pub returns-in-Ended : goal.returns-in-Ended
returns-in-Ended g c =
    let over = rw (c.in-Ended.is) at c.in_ok-look.ensures.look in
    (pos 0, (next.Ended, (over, c.look.ensures.same), refl, refl), refl)
