use Rattle.std.proofs.Common.{◌≡◌, length, rules}
use Rattle.pdpd.proofs.ReadyLemmas.{room_of_new}
use Rattle.pdpd.proofs.TakingLemmas.{closed}
use Rattle.pdpd.proofs.replay.telling.answer_bytes.Goals as goal

pub returns-then-is_empty-clause-taken : goal.returns-then-is_empty-clause-taken
returns-then-is_empty-clause-taken g c =
    let none : length c.args.bytes.now ≡ 0 = search rules in
    closed g.R.Records.custody c.args.heading.now c.args.bytes.now c.args.connection.now c.new.result c.args.server.now _ none c.new.ensures

pub returns-then-is_empty-clause-room : goal.returns-then-is_empty-clause-room
returns-then-is_empty-clause-room g c = room_of_new c.new.result c.new.ensures
