use Rattle.std.specs.Prelude.{Some}
use Rattle.xa_profile.specs.Response.{response_body}
use Rattle.xa_decide.specs.Decision.{decided}
use Rattle.xa_decide.proofs.decision.outcome_within.Goals as goal

pub returns-clause-over : goal.returns-clause-over
returns-clause-over c =
    c.told.ensures.over (Some (response_body c.args.request.now.objects (decided c.args.view.now c.args.request.now c.args.moment))) c.outcome_of_request.ensures.over
