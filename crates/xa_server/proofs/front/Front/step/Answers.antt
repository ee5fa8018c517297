-- Each call is the play of one event.
use Rattle.std.proofs.Common.{refl}
use Rattle.xa_server.proofs.PlayLemmas.{answer_played, unasked_played}
use Rattle.xa_server.proofs.front.Front.step.Goals as goal

pub returns-in-Begin : goal.returns-in-Begin
returns-in-Begin g c =
    rw c.in-Begin.is
    (unasked_played g.R.Records.custody g.met.R.Records.open_if_sound _ _ _ _ (refl, c.open.ensures.opened)
    c.open.ensures.server)

pub returns-in-Piece : goal.returns-in-Piece
returns-in-Piece g c =
    rw c.in-Piece.is
    (unasked_played g.R.Records.custody g.met.R.Records.open_if_sound _ _ _ _ (refl, c.piece.ensures.held)
    c.piece.ensures.server)

pub returns-in-Answer : goal.returns-in-Answer
returns-in-Answer g c =
    rw c.in-Answer.is
    (answer_played g.R.Records.custody g.met.R.Records.open_if_sound c.in-Answer.conn c.in-Answer.moment c.args.self.now
    c.answer.new.self c.answer.result c.answer.ensures.answered)

pub returns-in-Finish : goal.returns-in-Finish
returns-in-Finish g c =
    rw c.in-Finish.is
    (unasked_played g.R.Records.custody g.met.R.Records.open_if_sound _ _ _ _ (refl, c.close.ensures.closed)
    c.close.ensures.server)
