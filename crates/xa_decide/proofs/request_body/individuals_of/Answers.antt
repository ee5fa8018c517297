use Rattle.xa_profile.specs.Individuals.{individuals}
use Rattle.xa_decide.proofs.ApartLemmas.{given_apart}
use Rattle.xa_decide.proofs.request_body.individuals_of.Goals as goal

pub returns : goal.returns
returns c = given_apart c.individuals.result (individuals c.args.request.now) c.memory_apart.result c.memory_apart.ensures.value c.individuals.ensures.value
