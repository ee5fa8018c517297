use Rattle.std.proofs.Common.{◌≡◌, ◌≤◌, ◌+◌, None, ap, arith, length}
use Rattle.xa_server.proofs.CourseLemmas.{next_ends, next_goes, read_grows, read_last, read_more, reads_out, waits_at}
use Rattle.xa_server.proofs.DrivingLemmas.{none_gone}
use Rattle.xa_server.proofs.driving.drive_open.Goals as goal

pub loop-end-init : goal.loop-end-init
loop-end-init g c = record { answered = none_gone g.R.Records.custody _; few = omega arith }

pub loop-end-preserved-in-Ok-true : goal.loop-end-preserved-in-Ok-true
loop-end-preserved-in-Ok-true g c = record {
  answered =
      next_goes g.R.Records.custody c.loop-end.reads _ _ c.loop-end.invariant.answered c.in-Ok-true.field-0 _
      c.in-Ok-true.field-0-test (c.in-Ok-true.ensures.answered _ _);
  few = c.loop-end.invariant.few;
}

pub returns-in-Err : goal.returns-in-Err
returns-in-Err g c =
    next_ends g.R.Records.custody c.loop-end.reads _ _ c.loop-end.invariant.answered g.met.R.Records.open_if_sound
    c.in-Err.end _ c.loop-end.invariant.few (c.in-Err.ensures.answered _ _)

pub returns-then-reads-eq-MAX_READS : goal.returns-then-reads-eq-MAX_READS
returns-then-reads-eq-MAX_READS g c =
    reads_out g.R.Records.custody c.loop-end.reads _ _ c.loop-end.invariant.answered g.met.R.Records.open_if_sound _
    c.if-reads-eq-MAX_READS.true (waits_at g.R.Records.custody c.in-Ok-false.field-0 _ _ c.in-Ok-false.field-0-test
    (c.in-Ok-false.ensures.answered _ _))

pub returns-in-Err-read_piece : goal.returns-in-Err-read_piece
returns-in-Err-read_piece g c =
    read_last g.R.Records.custody c.loop-end.reads _ _ c.loop-end.invariant.answered g.met.R.Records.open_if_sound
    c.in-Err-read_piece.end _ _ _ _ (omega (arith, c.loop-end.invariant.few, c.if-reads-eq-MAX_READS.false))
    (waits_at g.R.Records.custody c.in-Ok-false.field-0 _ _ c.in-Ok-false.field-0-test
    (c.in-Ok-false.ensures.answered _ _)) c.in-Err-read_piece.ensures

pub loop-end-preserved : goal.loop-end-preserved
loop-end-preserved g c = record {
  answered =
      read_more g.R.Records.custody c.loop-end.reads _ _ c.loop-end.invariant.answered _ _ _ _
      (waits_at g.R.Records.custody c.in-Ok-false.field-0 _ _ c.in-Ok-false.field-0-test
      (c.in-Ok-false.ensures.answered _ _)) c.in_default.ensures;
  few = omega (arith, c.loop-end.invariant.few, c.if-reads-eq-MAX_READS.false);
}

pub read_piece-requires : goal.read_piece-requires
read_piece-requires g c =
    (waits_at g.R.Records.custody c.in-Ok-false.field-0 _ _ c.in-Ok-false.field-0-test
    (c.in-Ok-false.ensures.answered None None)).1

pub loop-end-smaller : goal.loop-end-smaller
loop-end-smaller g c =
    let waits =
    waits_at g.R.Records.custody c.in-Ok-false.field-0 _ _ c.in-Ok-false.field-0-test
    (c.in-Ok-false.ensures.answered None None) in
    let same : length c.answer_next.new.connection.held ≡ length c.loop-end.connection.held
    = ap (λ a. length a.stream.held) waits.0 in
    let grows : length c.read_piece.new.connection.held ≤ length c.answer_next.new.connection.held + 65_536
    = read_grows _ _ _ _ _ _ c.in_default.ensures in
    omega (arith, c.loop-end.invariant.few, c.if-reads-eq-MAX_READS.false, same, grows)
