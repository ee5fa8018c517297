use Rattle.pdpd.proofs.BeginningLemmas.{left_unclosed}
use Rattle.pdpd.proofs.store.leave.Goals as goal

pub returns : goal.returns
returns g c =
    left_unclosed c.args.records c.into_connection.result c.into_store.result c.into_connection.ensures (record { quiet = c.into_store.ensures.quiet; sound = c.into_store.ensures.sound })
