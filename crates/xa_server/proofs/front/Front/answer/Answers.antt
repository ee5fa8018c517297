use Rattle.std.proofs.Common.{refl, sym}
use Rattle.xa_server.proofs.NextLemmas.{answered_at}
use Rattle.xa_server.proofs.front.Front.answer.Goals as goal

pub returns-clause-answered : goal.returns-clause-answered
returns-clause-answered g c =
    rw c.into_answer.ensures
    (answered_at g.R.Records.custody c.args.conn c.args.moment c.args.self.now _ c.in-Some.connection.now
    c.answer.new.self (sym c.in-Some.ensures.value) refl c.in_ok-answered.answered c.in_ok-answered.ensures)
