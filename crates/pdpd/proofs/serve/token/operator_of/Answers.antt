use Rattle.pdpd.proofs.TokenLemmas.{known_operator}
use Rattle.pdpd.proofs.serve.token.operator_of.Goals as goal

pub returns-in-Ok-clause-operator : goal.returns-in-Ok-clause-operator
returns-in-Ok-clause-operator g c =
    known_operator (g.R.Read.remaining c.args.reader) c.in-Ok.bytes.items c.operator_in.result c.in-Ok.ensures (rw c.deref.ensures.value at c.operator_in.ensures)
