use Rattle.xa_link.proofs.PlaceLemmas.{one_place}
use Rattle.xa_link.proofs.resolution.one_place_for_each_version.Goals as goal

pub returns : goal.returns
returns c = one_place
