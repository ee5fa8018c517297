-- The pieces of an entry's bytes, one after another, and what a connection is told of each.
use Rattle.std.proofs.Common.{◌≡◌, ℕ, ◌+◌, ◌≤◌, arith, true, false, List, [], ◌++◌, length, refl, sym, ap, subst, ◌∙◌, Option, Some, None, Result, Ok, Err, inl, inr, IsTrue, ◌⊎◌}
use Rattle.std.specs.Prelude.{ℤ, OnOk}
use Rattle.std.specs.Io.KnownBytes.{Appends}
use Rattle.std.proofs.lemmas.Bool.{false≢true}
use Rattle.std.proofs.lemmas.List.{append-nil, append_assoc}
use Rattle.xa_http.specs.declared.session.Next.TheVariants as next
use Rattle.xa_http.specs.declared.fault.SessionFault.{SessionFault}
use Rattle.xa_http.specs.Messages.{IsNext}
use Rattle.xa_http.specs.Stream.{Stream, fed}
use Rattle.xa_http.proofs.LawLemmas.{feeds_on, keeps_faults}
use Rattle.xa_http.proofs.SizeLemmas.{waiting_short}
use Rattle.xa_records.specs.Keeper.{Custody}
use Rattle.xa_server.specs.Connection.{StopsBy}
use Rattle.xa_server.specs.World.{ServerModel}
use Rattle.std.proofs.KnownBytes.{Appends-nil}
use Rattle.xa_server.proofs.ConnectionLemmas.{fed_nothing, fed_twice}
use Rattle.pdpd.specs.declared.exit.Exit.{Exit}
use Rattle.pdpd.specs.declared.replay.heading.Heading.{Heading}
use Rattle.pdpd.specs.Entry.{IsStreamAnswered, events_at, reply_entries}
use Rattle.pdpd.specs.Replay.{IsKept, StreamTakes}
use Rattle.pdpd.specs.running.Replaying.{Writes}
use Rattle.pdpd.specs.running.Telling.{AreTold, HasRoom, IsToldAndWritten, LeavesOff, Stands}
use Rattle.pdpd.proofs.TellingLemmas.{told_fed_on, told_none}

-- ---- room

-- there is room for a piece
pub has_room : (piece : List ℕ) (s : Stream) → s.ended ≡ false → HasRoom s → length piece ≤ 65_536 → length s.held + length piece ≤ 1_048_576
unfolding HasRoom
has_room piece s on room few = omega (arith, room on, few)

-- one that waits has room for the next piece, and one that has ended takes none
pub stands_room : (s : Stream) → Stands false s → HasRoom s
unfolding Stands HasRoom
stands_room s (inl waits) = λ on. omega (arith, waiting_short s.held waits.1)
stands_room s (inr over) = λ on. absurd (false≢true (sym on ∙ over))

-- ---- all that an entry brought

joined : (bytes front rest piece after : List ℕ) → bytes ≡ front ++ rest → rest ≡ piece ++ after → bytes ≡ (front ++ piece) ++ after
joined bytes front rest piece after before here = before ∙ ap (λ (bs : List ℕ). front ++ bs) here ∙ sym (append_assoc front piece after)

-- the session has ended: what follows isn't handed over, and changes nothing
stops_ended : (fault : Option SessionFault) (last after : Stream) (more : List ℕ) → LeavesOff fault last after → after.ended ≡ true
    → StopsBy fault (fed last more) (fed after more)
stops_ended None last after more ends over =
    inr (ap (λ (s : Stream). s.ended) (sym ends) ∙ over, ap (λ (s : Stream). fed s more) ends)
stops_ended (Some fault) last after more ends over =
    (ends.0, keeps_faults last.held more fault ends.1, ap (λ (s : Stream). fed s more) ends.2)

-- or it waits for more
stops_waiting : (fault : Option SessionFault) (last after : Stream) → LeavesOff fault last after → IsNext after next.More after → StopsBy fault last after
stops_waiting None last after ends waits = inl (subst (λ (s : Stream). IsNext s next.More after) ends waits)
stops_waiting (Some fault) last after ends waits = absurd (false≢true (sym waits.0 ∙ ap (λ (s : Stream). s.ended) ends.2))

pub room_last : (result : Result (Unit {0}) Exit) (u : Stream) → OnOk result (Stands false u) → OnOk result (HasRoom u)
room_last (Ok done) u stands = stands_room u stands
room_last (Err exit) u stands = tt

module _ {R : Type 0} (custody : R → Custody) where
  -- the bytes before the rest were handed over
  unfoldable pub TakenTo : Heading → List ℕ → List ℕ → ServerModel R → ServerModel R → Stream → Stream → Option (List ℕ) → Option (List ℕ) → Type 0
  TakenTo heading bytes rest a b s t x y = (front : List ℕ) × (bytes ≡ front ++ rest) × IsToldAndWritten custody heading a b (fed s front) t x y

  answered_ended : (moment : ℤ) (a b : ServerModel R) (s t : Stream) (more : List ℕ) (told : List (List ℕ)) → AreTold custody moment a b s t told → t.ended ≡ true
      → IsStreamAnswered custody moment a b (fed s more) (fed t more) told
  answered_ended moment a b s t more told is over = record {
    messages = is.messages;
    fault = is.fault;
    run = is.run;
    has_messages = (fed is.last more, feeds_on s is.messages is.last more is.cuts, stops_ended is.fault is.last t more is.ends over);
    are_one = is.are_one;
    are_all = is.are_all;
  }

  answered_waiting : (moment : ℤ) (a b : ServerModel R) (s t : Stream) (told : List (List ℕ)) → AreTold custody moment a b s t told → IsNext t next.More t
      → IsStreamAnswered custody moment a b s t told
  answered_waiting moment a b s t told is waits = record {
    messages = is.messages;
    fault = is.fault;
    run = is.run;
    has_messages = (is.last, is.cuts, stops_waiting is.fault is.last t is.ends waits);
    are_one = is.are_one;
    are_all = is.are_all;
  }

  stream_taken : (heading : Heading) (bytes : List ℕ) (was after is : Stream) (old new : ServerModel R) (before now : Option (List ℕ)) (replies : List (List ℕ))
      → IsStreamAnswered custody heading.moment old new (fed was bytes) after replies → IsKept after is → Appends before now (reply_entries heading.connection replies)
      → Writes before now (StreamTakes custody heading bytes was is old new)
  stream_taken heading bytes was after is old new before now replies answered kept wrote = (
    record { events = events_at heading.moment answered.messages; replies = answered.run; written = reply_entries heading.connection replies },
    wrote,
    (after, replies, answered, kept, refl),
  )

  -- the session has ended before the bytes after `rest`
  pub taken_ended : (heading : Heading) (bytes rest : List ℕ) (a b : ServerModel R) (s t : Stream) (x y : Option (List ℕ)) → TakenTo heading bytes rest a b s t x y
      → t.ended ≡ true → Writes x y (StreamTakes custody heading bytes s t a b)
  unfolding TakenTo IsToldAndWritten
  taken_ended heading bytes rest a b s t x y (front, split, (replies, told, wrote)) over =
      let whole : fed (fed s front) rest ≡ fed s bytes = fed_twice s front rest ∙ ap (λ (bs : List ℕ). fed s bs) (sym split) in
      let answered : IsStreamAnswered custody heading.moment a b (fed s bytes) (fed t rest) replies
      = subst (λ (v : Stream). IsStreamAnswered custody heading.moment a b v (fed t rest) replies) whole
      (answered_ended heading.moment a b (fed s front) t rest replies told over) in
      stream_taken heading bytes s (fed t rest) t a b x y replies answered (inr (over, over)) wrote

  -- all were handed over, and it waits
  taken_waiting : (heading : Heading) (bytes : List ℕ) (a b : ServerModel R) (s t : Stream) (x y : Option (List ℕ)) → TakenTo heading bytes [] a b s t x y
      → IsNext t next.More t → Writes x y (StreamTakes custody heading bytes s t a b)
  unfolding TakenTo IsToldAndWritten
  taken_waiting heading bytes a b s t x y (front, split, (replies, told, wrote)) waits =
      let answered : IsStreamAnswered custody heading.moment a b (fed s bytes) t replies
      = subst (λ (bs : List ℕ). IsStreamAnswered custody heading.moment a b (fed s bs) t replies) (sym (split ∙ append-nil front))
      (answered_waiting heading.moment a b (fed s front) t replies told waits) in
      stream_taken heading bytes s t t a b x y replies answered (inl refl) wrote

  pub taken_all : (heading : Heading) (bytes : List ℕ) (a b : ServerModel R) (s t : Stream) (x y : Option (List ℕ)) → TakenTo heading bytes [] a b s t x y
      → Stands false t → Writes x y (StreamTakes custody heading bytes s t a b)
  unfolding Stands
  taken_all heading bytes a b s t x y taken (inl waits) = taken_waiting heading bytes a b s t x y taken waits
  taken_all heading bytes a b s t x y taken (inr over) = taken_ended heading bytes [] a b s t x y taken over

-- ---- a piece after others

module _ {R : Type 0} (custody : R → Custody) (is_open : (s : R) → (custody s).sound → IsTrue (custody s).is_open) where
  pub taken_none : (heading : Heading) (bytes : List ℕ) (a : ServerModel R) (s : Stream) (x : Option (List ℕ)) → TakenTo custody heading bytes bytes a a s s x x
  unfolding TakenTo IsToldAndWritten
  taken_none heading bytes a s x = ([], refl, ([], told_none custody is_open heading.moment a a (fed s []) s refl (sym (fed_nothing s)), Appends-nil x))

  pub taken_more : (heading : Heading) (bytes rest piece after : List ℕ) (a b c : ServerModel R) (s t u : Stream) (x y z : Option (List ℕ))
      → TakenTo custody heading bytes rest a b s t x y → rest ≡ piece ++ after → t.ended ≡ false → IsToldAndWritten custody heading b c (fed t piece) u y z
      → TakenTo custody heading bytes after a c s u x z
  unfolding TakenTo
  taken_more heading bytes rest piece after a b c s t u x y z before split goes_on here = (
    before.0 ++ piece,
    joined bytes before.0 rest piece after before.1 split,
    subst (λ (v : Stream). IsToldAndWritten custody heading a c v u x z) (fed_twice s before.0 piece)
        (told_fed_on custody is_open heading a b c (fed s before.0) t u piece x y z before.2 goes_on here),
  )

  -- whatever the last piece came to
  pub taken_last : (result : Result (Unit {0}) Exit) (heading : Heading) (bytes rest : List ℕ) (a b c : ServerModel R) (s t u : Stream) (x y z : Option (List ℕ))
      → TakenTo custody heading bytes rest a b s t x y → t.ended ≡ false → OnOk result (IsToldAndWritten custody heading b c (fed t rest) u y z)
      → OnOk result (Stands false u) → OnOk result (Writes x z (StreamTakes custody heading bytes s u a c))
  taken_last (Ok done) heading bytes rest a b c s t u x y z taken goes_on told stands =
      taken_all custody heading bytes a c s u x z
      (taken_more heading bytes rest rest [] a b c s t u x y z taken (sym (append-nil rest)) goes_on told) stands
  taken_last (Err exit) heading bytes rest a b c s t u x y z taken goes_on told stands = tt
