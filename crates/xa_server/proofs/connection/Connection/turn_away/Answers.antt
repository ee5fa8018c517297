use Rattle.xa_server.proofs.TurningAwayLemmas.{uncut}
use Rattle.xa_server.proofs.connection.Connection.turn_away.Goals as goal

pub returns-in_default : goal.returns-in_default
returns-in_default c = uncut c.args.self.now c.cut.new.self _ (rw c.self.view_is at c.in_ok-message.ensures.cut) c.in_default.not-Message
