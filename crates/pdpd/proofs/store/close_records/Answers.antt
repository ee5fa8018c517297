use Rattle.std.proofs.Common.{rules}
use Rattle.pdpd.proofs.BeginningLemmas.{all_left_in, all_left_unclosed}
use Rattle.pdpd.proofs.store.close_records.Goals as goal

pub returns-clause-closed : goal.returns-clause-closed
returns-clause-closed g c = all_left_in c.args.records c.into_connection.result c.close.result c.into_connection.ensures (search rules) (search rules) c.stays_sound_while_open.ensures.keeper c.close.ensures.copied

pub returns-clause-left : goal.returns-clause-left
returns-clause-left g c = all_left_unclosed c.args.records c.into_connection.result c.close.result c.into_connection.ensures c.close.ensures.left
