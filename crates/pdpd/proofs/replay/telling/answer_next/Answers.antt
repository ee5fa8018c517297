use Rattle.std.proofs.Common.{◌∙◌, Bool, false, Result, Ok, Err, ap}
use Rattle.pdpd.proofs.TellingLemmas.{bytes_in, fewer_next, goes_no_more, goes_on_after, no_bytes, some_next, stands_by, told_next, told_reply, told_without}
use Rattle.pdpd.specs.declared.exit.Exit.{Exit}
use Rattle.pdpd.proofs.replay.telling.answer_next.Goals as goal

-- whether it goes on, by a result
abbrev goes_in : Result Bool Exit → Bool
goes_in (Ok goes) = goes
goes_in (Err _) = false

pub returns-in_err-write_reply-in-Reply-clause-served : goal.returns-in_err-write_reply-in-Reply-clause-served
returns-in_err-write_reply-in-Reply-clause-served g c =
    some_next g.R.Records.custody g.met.R.Records.open_if_sound c.args.heading.now.moment c.args.server.now c.answer.new.server c.args.connection.now c.answer.new.self
    c.in_ok-answer.field-0 c.in_ok-answer.ensures

pub returns-in_ok-write_reply-in-Reply-clause-told : goal.returns-in_ok-write_reply-in-Reply-clause-told
returns-in_ok-write_reply-in-Reply-clause-told g c =
    told_reply g.R.Records.custody g.met.R.Records.open_if_sound c.args.heading.now c.args.server.now c.answer.new.server c.args.connection.now c.answer.new.self
    (bytes_in c.in_ok-answer.field-0) c.in-Reply.answer.reply c.bytes.result.now _ _
    (told_next g.R.Records.custody g.met.R.Records.open_if_sound c.args.heading.now.moment c.args.server.now c.answer.new.server c.args.connection.now c.answer.new.self
    c.in_ok-answer.field-0 c.in_ok-answer.ensures)
    (ap bytes_in c.in-Reply.is) c.bytes.ensures c.in_ok-write_reply-in-Reply.ensures

pub returns-in_ok-write_reply-in-Reply-clause-served : goal.returns-in_ok-write_reply-in-Reply-clause-served
returns-in_ok-write_reply-in-Reply-clause-served g c =
    some_next g.R.Records.custody g.met.R.Records.open_if_sound c.args.heading.now.moment c.args.server.now c.answer.new.server c.args.connection.now c.answer.new.self
    c.in_ok-answer.field-0 c.in_ok-answer.ensures

pub returns-in_ok-write_reply-in-Reply-clause-stands : goal.returns-in_ok-write_reply-in-Reply-clause-stands
returns-in_ok-write_reply-in-Reply-clause-stands g c =
    stands_by g.R.Records.custody _ _ _ c.args.connection.now c.answer.new.self c.in_ok-answer.field-0 _ (ap goes_on_after c.in-Reply.is)
    c.in_ok-answer.ensures

pub returns-in_ok-write_reply-in-Reply-clause-fewer : goal.returns-in_ok-write_reply-in-Reply-clause-fewer
returns-in_ok-write_reply-in-Reply-clause-fewer g c = λ same.
    fewer_next g.R.Records.custody _ _ _ c.args.connection.now c.answer.new.self c.in_ok-answer.field-0
    (ap goes_on_after c.in-Reply.is ∙ ap goes_in same) c.in_ok-answer.ensures

pub returns-in-Waits-clause-told : goal.returns-in-Waits-clause-told
returns-in-Waits-clause-told g c =
    told_without g.R.Records.custody g.met.R.Records.open_if_sound c.args.heading.now c.args.server.now c.answer.new.server c.args.connection.now c.answer.new.self
    (bytes_in c.in_ok-answer.field-0) _
    (told_next g.R.Records.custody g.met.R.Records.open_if_sound c.args.heading.now.moment c.args.server.now c.answer.new.server c.args.connection.now c.answer.new.self
    c.in_ok-answer.field-0 c.in_ok-answer.ensures)
    (no_bytes c.in_ok-answer.field-0 c.in-Waits.is)

pub returns-in-Waits-clause-served : goal.returns-in-Waits-clause-served
returns-in-Waits-clause-served g c =
    some_next g.R.Records.custody g.met.R.Records.open_if_sound c.args.heading.now.moment c.args.server.now c.answer.new.server c.args.connection.now c.answer.new.self
    c.in_ok-answer.field-0 c.in_ok-answer.ensures

pub returns-in-Waits-clause-stands : goal.returns-in-Waits-clause-stands
returns-in-Waits-clause-stands g c =
    stands_by g.R.Records.custody _ _ _ c.args.connection.now c.answer.new.self c.in_ok-answer.field-0 _ (goes_no_more c.in_ok-answer.field-0 c.in-Waits.is) c.in_ok-answer.ensures
