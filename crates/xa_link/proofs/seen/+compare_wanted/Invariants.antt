use Rattle.std.proofs.Common.{length}
use Rattle.xa_link.proofs.seen.+compare_wanted.Given as goal

abbrev pub decreases-compare_wanted : goal.decreases-compare_wanted
decreases-compare_wanted l = length l.parts.now
