use Rattle.xa_server.proofs.UnchangingLemmas.{leaves_state}
use Rattle.xa_server.proofs.front.turning_away.unchanging_messages_leave_the_state.Goals as goal

pub returns : goal.returns
returns c = leaves_state
