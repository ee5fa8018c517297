use Rattle.std.proofs.Common.{map}
use Rattle.xa_func.specs.Signature.{signature_of}
use Rattle.xa_expr.specs.Typed.{kind_of_typed}
use Rattle.xa_expr.proofs.KindLemmas.{accepts_is}
use Rattle.xa_expr.proofs.checking.accepts.Goals as goal

pub returns : goal.returns
returns c = accepts_is c.accepts.result (signature_of c.args.function) (map kind_of_typed c.args.arguments.now) (rw c.signature.ensures at c.accepts.ensures)
