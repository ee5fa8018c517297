use Rattle.std.proofs.Common.{◌≡◌, ◌∙◌, ap, drop}
use Rattle.pdpd.proofs.ReadingLemmas.{advanced}
use Rattle.pdpd.proofs.replay.read_buffer.ReadBuffer.move_to.Goals as goal

pub returns-clause-rest : goal.returns-clause-rest
returns-clause-rest c =
    let p = c.self.inside in
    rw (c.min-taken.ensures) (advanced p.bytes.items p.start p.end c.args.most ∙ ap (drop c.args.most) c.self.view_is)
