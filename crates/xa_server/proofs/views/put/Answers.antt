use Rattle.std.proofs.Common.{ap, ◌∙◌, arith}
use Rattle.xa_server.proofs.ViewLemmas.{put_front}
use Rattle.xa_server.proofs.views.put.Goals as goal

pub returns-in-Ok-clause-put : goal.returns-in-Ok-clause-put
returns-in-Ok-clause-put c done =
    ap (λ held. held.entries) c.in-Ok.ensures.entries ∙ put_front c.args.number c.args.ready c.args.views.now (omega (arith, c.len-length.ensures.fits, c.len-length.ensures.len, c.requires))
