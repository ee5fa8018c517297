use Rattle.std.proofs.Common.{length}
use Rattle.xa_link.proofs.seen.+compare_seen.Given as goal

abbrev pub decreases-compare_seen : goal.decreases-compare_seen
decreases-compare_seen l = length l.parts.now
