use Rattle.xa_policy.proofs.DesignatorLemmas.{evaluation_rests}
use Rattle.xa_policy.proofs.designators.decisions_rest_on_designators.Goals as goal

pub returns : goal.returns
returns c = evaluation_rests
