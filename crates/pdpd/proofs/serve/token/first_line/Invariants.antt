use Rattle.std.proofs.Common.{take}
use Rattle.pdpd.proofs.TokenLemmas.{NoFeed}
use Rattle.pdpd.proofs.serve.token.first_line.Given as goal

abbrev pub invariant-loop-i : goal.invariant-loop-i
invariant-loop-i l = NoFeed (take l.i l.text)
