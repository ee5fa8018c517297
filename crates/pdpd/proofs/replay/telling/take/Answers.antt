use Rattle.std.proofs.Common.{◌≡◌, ◌∙◌, ◌++◌, ℕ, List, ap, drop, refl, sym}
use Rattle.std.proofs.lemmas.List.{take-append-drop}
use Rattle.pdpd.proofs.PieceLemmas.{room_last, stands_room, taken_ended, taken_last, taken_more, taken_none}
use Rattle.pdpd.proofs.RunLemmas.{some_none, some_on}
use Rattle.pdpd.proofs.replay.telling.take.Goals as goal

pub loop-rest-init : goal.loop-rest-init
loop-rest-init g c = record {
  served = some_none g.R.Records.custody g.met.R.Records.open_if_sound c.args.server.now c.args.server.now refl;
  goes_on = c.requires.goes_on;
  room = c.requires.room;
  taken = taken_none g.R.Records.custody g.met.R.Records.open_if_sound c.args.heading.now c.args.bytes.now c.args.server.now c.args.connection.now _;
}

pub returns-then-has_ended-clause-taken : goal.returns-then-has_ended-clause-taken
returns-then-has_ended-clause-taken g c =
    let split : c.loop-rest.rest.now ≡ c.split_at.result.0.now ++ c.split_at.result.1.now
    = sym (take-append-drop 65_536 c.loop-rest.rest.now) ∙ ap (λ (bs : List ℕ). bs ++ drop 65_536 c.loop-rest.rest.now) (sym c.split_at.ensures.front)
    ∙ ap (λ (bs : List ℕ). c.split_at.result.0.now ++ bs) (sym c.split_at.ensures.back) in
    taken_ended g.R.Records.custody c.args.heading.now c.args.bytes.now c.split_at.result.1.now c.args.server.now c.take_piece.new.server c.args.connection.now c.take_piece.new.connection _ _
    (taken_more g.R.Records.custody g.met.R.Records.open_if_sound c.args.heading.now c.args.bytes.now c.loop-rest.rest.now c.split_at.result.0.now c.split_at.result.1.now c.args.server.now
    c.loop-rest.server c.take_piece.new.server c.args.connection.now c.loop-rest.connection c.take_piece.new.connection _ _ _ c.loop-rest.invariant.taken split
    c.loop-rest.invariant.goes_on c.in_ok-take_piece.ensures.told)
    (sym c.has_ended.ensures ∙ c.if-has_ended.true)

pub returns-then-has_ended-clause-room : goal.returns-then-has_ended-clause-room
returns-then-has_ended-clause-room g c = stands_room c.take_piece.new.connection c.in_ok-take_piece.ensures.stands

pub returns-then-has_ended-clause-served : goal.returns-then-has_ended-clause-served
returns-then-has_ended-clause-served g c =
    some_on g.R.Records.custody g.met.R.Records.open_if_sound c.args.server.now c.loop-rest.server c.take_piece.new.server c.loop-rest.invariant.served c.take_piece.ensures.served

pub returns-in_err-take_piece-clause-served : goal.returns-in_err-take_piece-clause-served
returns-in_err-take_piece-clause-served g c =
    some_on g.R.Records.custody g.met.R.Records.open_if_sound c.args.server.now c.loop-rest.server c.take_piece.new.server c.loop-rest.invariant.served c.take_piece.ensures.served

pub loop-rest-preserved : goal.loop-rest-preserved
loop-rest-preserved g c =
    let split : c.loop-rest.rest.now ≡ c.split_at.result.0.now ++ c.split_at.result.1.now
    = sym (take-append-drop 65_536 c.loop-rest.rest.now) ∙ ap (λ (bs : List ℕ). bs ++ drop 65_536 c.loop-rest.rest.now) (sym c.split_at.ensures.front)
    ∙ ap (λ (bs : List ℕ). c.split_at.result.0.now ++ bs) (sym c.split_at.ensures.back) in
    record {
      served =
          some_on g.R.Records.custody g.met.R.Records.open_if_sound c.args.server.now c.loop-rest.server c.take_piece.new.server c.loop-rest.invariant.served c.take_piece.ensures.served;
      goes_on = sym c.has_ended.ensures ∙ c.if-has_ended.false;
      room = stands_room c.take_piece.new.connection c.in_ok-take_piece.ensures.stands;
      taken =
          taken_more g.R.Records.custody g.met.R.Records.open_if_sound c.args.heading.now c.args.bytes.now c.loop-rest.rest.now c.split_at.result.0.now c.split_at.result.1.now c.args.server.now
          c.loop-rest.server c.take_piece.new.server c.args.connection.now c.loop-rest.connection c.take_piece.new.connection _ _ _ c.loop-rest.invariant.taken split
          c.loop-rest.invariant.goes_on c.in_ok-take_piece.ensures.told;
    }

pub returns-clause-taken : goal.returns-clause-taken
returns-clause-taken g c =
    taken_last g.R.Records.custody g.met.R.Records.open_if_sound c.take_piece-2.result c.args.heading.now c.args.bytes.now c.loop-rest.rest.now c.args.server.now c.loop-rest.server
    c.take_piece-2.new.server c.args.connection.now c.loop-rest.connection c.take_piece-2.new.connection _ _ _ c.loop-rest.invariant.taken c.loop-rest.invariant.goes_on
    c.take_piece-2.ensures.told c.take_piece-2.ensures.stands

pub returns-clause-room : goal.returns-clause-room
returns-clause-room g c = room_last c.take_piece-2.result c.take_piece-2.new.connection c.take_piece-2.ensures.stands

pub returns-clause-served : goal.returns-clause-served
returns-clause-served g c =
    some_on g.R.Records.custody g.met.R.Records.open_if_sound c.args.server.now c.loop-rest.server c.take_piece-2.new.server c.loop-rest.invariant.served c.take_piece-2.ensures.served
