-- What the tokens that are left say is what all say.
use Rattle.std.proofs.Common.{◌≡◌, drop}
use Rattle.xa_server.specs.handling.Gates.{role_in}
use Rattle.xa_server.proofs.gates.role_in.Given as goal

abbrev pub invariant-loop-token : goal.invariant-loop-token
invariant-loop-token l = role_in l.digest (drop l.token-index l.tokens) ≡ role_in l.digest l.tokens
