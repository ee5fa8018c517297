use Rattle.xa_value.proofs.time.+push_significant.Given as goal

abbrev pub decreases-push_significant : goal.decreases-push_significant
decreases-push_significant l = l.count
