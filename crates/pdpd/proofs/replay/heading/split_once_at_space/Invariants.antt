use Rattle.std.proofs.Common.{take}
use Rattle.pdpd.proofs.PartLemmas.{NoSpace}
use Rattle.pdpd.proofs.replay.heading.split_once_at_space.Given as goal

abbrev pub invariant-loop-i : goal.invariant-loop-i
invariant-loop-i l = NoSpace (take l.i l.text)
