use Rattle.std.proofs.Common.{rules}
use Rattle.pdpd.proofs.ReadingLemmas.{adds}
use Rattle.pdpd.proofs.replay.transcript.Transcript.append_to.Goals as goal

pub returns-clause-added : goal.returns-clause-added
returns-clause-added g c =
    rw c.is_empty-goes_on.ensures
    (adds c.args.most _ (g.R.Read.remaining c.read_on.new.self.reader) c.read_on.new.self.buffer c.move_to.new.self c.args.bytes.now.items c.move_to.new.bytes.items
    c.in_ok-read_on.ensures.keeps c.in_ok-read_on.ensures.end c.in_ok-move_to.ensures.moved c.in_ok-move_to.ensures.rest)
