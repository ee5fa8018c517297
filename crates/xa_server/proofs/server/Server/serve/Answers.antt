use Rattle.std.proofs.Common.{refl}
use Rattle.xa_server.specs.declared.received_message.ReceivedMessage.{ReceivedMessage}
use Rattle.xa_server.specs.Owner.{owner}
use Rattle.xa_server.proofs.CrashLemmas.{refused_so, step_left}
use Rattle.xa_server.proofs.ServedLemmas.{counted, served}
use Rattle.xa_server.proofs.WorkLemmas.{work_of}
use Rattle.xa_server.proofs.server.Server.serve.Goals as goal

pub returns-clause-served : goal.returns-clause-served
returns-clause-served g c = λ sound.
    let received : ReceivedMessage = record { operator = c.self.inside.operator; message = c.args.message; moment = c.args.moment } in
    let stand = c.self.invariant (c.reply_to_message-answered.ensures.keeper.sound sound) in
    rw (← c.self.view_is)
    (served received (g.R.Records.custody c.self.inside.records).kept _ c.reply_to_message-answered.result _ (c.reply_to_message-answered.ensures.answers stand sound) c.reply_of-reply.ensures refl)

pub returns-clause-counts : goal.returns-clause-counts
returns-clause-counts g c = rw (← c.self.view_is) (counted _ _ c.reply_to_message-answered.result _ c.reply_to_message-answered.ensures.keeper.counts c.reply_of-reply.ensures)

pub returns-clause-stays : goal.returns-clause-stays
returns-clause-stays g c = rw (← c.self.view_is) (λ clean sound on. c.reply_to_message-answered.ensures.keeper.stays clean sound on)

pub returns-clause-stays_open : goal.returns-clause-stays_open
returns-clause-stays_open g c = rw (← c.self.view_is) (λ other on. c.reply_to_message-answered.ensures.keeper.stays_open (refused_so c.reply_to_message-answered.result _ c.reply_of-reply.ensures other) on)

pub returns-clause-crash : goal.returns-clause-crash
returns-clause-crash g c = rw (← c.self.view_is) (λ clean sound.
    let received : ReceivedMessage = record { operator = c.self.inside.operator; message = c.args.message; moment = c.args.moment } in
    step_left _ _ received (g.R.Records.custody c.self.inside.records).kept (owner c.args.message.now) (c.reply_to_message-answered.ensures.keeper.leaves clean sound))

pub returns-clause-work : goal.returns-clause-work
returns-clause-work g c = λ sound.
    let stand = c.self.invariant (c.reply_to_message-answered.ensures.keeper.sound sound) in
    rw (← c.self.view_is) (work_of _ c.args.message.now.body _ c.reply_to_message-answered.result _ _ _ (c.reply_to_message-answered.ensures.shared.works stand sound) c.reply_of-reply.ensures)

pub invariant_of-self : goal.invariant_of-self
invariant_of-self g c = λ sound. c.reply_to_message-answered.ensures.shared.stands (c.self.invariant (c.reply_to_message-answered.ensures.keeper.sound sound)) sound
