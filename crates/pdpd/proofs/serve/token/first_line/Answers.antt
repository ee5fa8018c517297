use Rattle.std.proofs.Common.{arith}
use Rattle.pdpd.proofs.TokenLemmas.{line_at, line_none}
use Rattle.pdpd.proofs.serve.token.first_line.Goals as goal

pub returns-then-byte-eq10 : goal.returns-then-byte-eq10
returns-then-byte-eq10 c = line_at c.args.text.now c.loop-i.i (omega arith) c.loop-i.invariant (omega arith)

pub returns : goal.returns
returns c = line_none c.args.text.now c.loop-i.i (omega arith) c.loop-i.invariant
