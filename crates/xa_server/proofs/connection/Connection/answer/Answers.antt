use Rattle.std.proofs.Common.{◌∙◌}
use Rattle.xa_server.proofs.NextLemmas.{fault_answered, message_answered}
use Rattle.xa_server.proofs.connection.Connection.answer.Goals as goal

pub returns-in-Message : goal.returns-in-Message
returns-in-Message g c =
    message_answered g.R.Records.custody c.args.moment _ c.args.self.now c.cut.new.self _ c.in-Message.message
    c.serve.result (rw (c.in-Message.is, c.self.view_is) at c.in_ok-message.ensures.cut) c.serve.ensures.last c.serve.ensures.serves

pub returns-in_ok-end_by-in-Fault : goal.returns-in_ok-end_by-in-Fault
returns-in_ok-end_by-in-Fault g c =
    fault_answered g.R.Records.custody c.args.moment _ c.args.self.now c.end_by.new.self c.cut.new.self
    c.in-Fault.fault c.in_ok-end_by-in-Fault.field-0 ((rw c.in-Fault.is at c.in_ok-message.ensures.cut).1 ∙ c.self.view_is) c.in_ok-end_by-in-Fault.ensures
