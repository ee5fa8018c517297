use Rattle.std.proofs.Common.{sym}
use Rattle.pdpd.proofs.ReadyLemmas.{ready_some}
use Rattle.pdpd.proofs.replay.replayer.Replayer.answer_entry.Goals as goal

pub unreachable-requires : goal.unreachable-requires
unreachable-requires g c =
    ready_some c.args.heading.now.connection c.args.self.now.front.lines c.requires.ready c.requires.within (sym c.in_default.ensures.value)
