use Rattle.xa_value.proofs.lexical.+push_padded.Given as goal

abbrev pub decreases-push_padded : goal.decreases-push_padded
decreases-push_padded l = l.count
