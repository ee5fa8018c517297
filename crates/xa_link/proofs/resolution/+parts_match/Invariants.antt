use Rattle.std.proofs.Common.{length}
use Rattle.xa_link.proofs.resolution.+parts_match.Given as goal

abbrev pub decreases-parts_match : goal.decreases-parts_match
decreases-parts_match l = length l.parts.now
