use Rattle.std.proofs.Common.{codes, arith}
use Rattle.std.proofs.lemmas.Grind.{common_steps}
use Rattle.xa_server.proofs.AuthorizationLemmas.{values_from}
use Rattle.xa_server.proofs.authorization.authorization_of.Goals as goal
use Rattle.xa_server.proofs.authorization.authorization_of.Goals.{then-is_authorization+else-is_some, else-is_authorization}

pub loop-field-preserved : goal.loop-field-preserved
loop-field-preserved c =
    let step = values_from (codes "Authorization") c.args.fields.now c.loop-field.field-index c.field-item.result c.loop-field-test.true c.field-item.is in
    elim c.if-is_authorization.branch [ then-is_authorization+else-is_some w ↦ grind (arith, common_steps, step) | else-is_authorization w ↦ grind (arith, common_steps, step) ]
