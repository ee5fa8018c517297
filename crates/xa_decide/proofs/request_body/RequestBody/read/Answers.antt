use Rattle.std.proofs.Common.{sym}
use Rattle.xa_value.proofs.GivesLemmas.{told_apart}
use Rattle.xa_profile.specs.Request.{request_of}
use Rattle.xa_decide.proofs.request_body.RequestBody.read.Goals as goal

pub invariant_of-result : goal.invariant_of-result
invariant_of-result c = sym (told_apart c.read.result (request_of c.args.bytes.now) c.in_ok-request.request c.in_ok-request.ensures.answer c.read.ensures)
