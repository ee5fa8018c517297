use Rattle.std.proofs.Common.{rules}
use Rattle.xa_trials.proofs.references.key_of.Goals as goal

pub returns-in_ok-key-in-Ok : goal.returns-in_ok-key-in-Ok
returns-in_ok-key-in-Ok c = (c.in-Ok.parsed, search rules, search rules)
