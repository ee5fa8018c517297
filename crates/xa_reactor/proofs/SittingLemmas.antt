-- What is done for one connection while it is open, among what is done for all.
use Rattle.std.proofs.Common.{◌≡◌, ◌≢◌, ◌⊎◌, inl, inr, ℕ, Bool, true, false, List, [], ◌∷◌, ◌++◌, Option, Some, None, Ok, Err, nat_eq, refl, sym, ap, subst, ◌∙◌}
use Rattle.std.proofs.lemmas.Bool.Decides.{eqb_tells}
use Rattle.std.proofs.lemmas.List.{append-nil, append_assoc, get_or-set_other, get_or-set_same}
use Rattle.std.specs.Prelude.{◌<◌, eqb, if◌then◌else◌, length, map, slice_set, zero, suc}
use Rattle.std.specs.List.{flat_map}
use Rattle.std.proofs.Common.{arith}
use Rattle.xa_http.specs.declared.session.Next.{Next}
use Rattle.xa_http.specs.Laws.{Step as Made, answers, bytes_fed, feeds}
use Rattle.xa_http.specs.Messages.{Cuts}
use Rattle.xa_http.specs.Stream.{fed}
use Rattle.xa_server.specs.declared.connection.Answer.{Answer}
use Rattle.xa_server.specs.declared.event.Event.{Event}
use Rattle.xa_server.specs.declared.event.Event.TheVariants as event
use Rattle.xa_server.specs.declared.event.Outcome.{Outcome}
use Rattle.xa_server.specs.declared.event.Outcome.TheVariants as outcome
use Rattle.xa_server.specs.declared.lines.Conn.{Conn}
use Rattle.xa_server.specs.Front.{Plays}
use Rattle.xa_server.specs.FrontLaws.{LeaveOpen as LeaveEach, exchanges_on, own_step, steps_on}
use Rattle.xa_server.specs.Lines.{Lines}
use Rattle.xa_server.proofs.FrontLawLemmas.{lines_are}
use Rattle.xa_reactor.specs.declared.lane.Lane.{Lane}
use Rattle.xa_reactor.specs.Run.{LeaveOpen, StreamsOfSittings, answers_to, read_on}
use Rattle.xa_reactor.specs.Sending.{AreSent, answer_bytes}
use Rattle.xa_reactor.specs.Step.{IsAsked, IsFed, IsStepOn, Step}
use Rattle.xa_reactor.specs.Traffic.{AreAt, Traffic, failed, finished, received, seated, sent, sent_at, vacated}
use Rattle.xa_reactor.specs.Turn.{AreDone, Deed, Lanes, calls_of, closes, lane_at, opens, steps, traffic_of}
use Rattle.xa_reactor.proofs.RepliesLemmas.{are_replies}

-- ---- what was sent, over lists after others

sent_on : (place : ℕ) (first later : List Traffic) → sent_at place (first ++ later) ≡ sent_at place first ++ sent_at place later
sent_on place [] later = refl
sent_on place (received other bytes ∷ first) later = sent_on place first later
sent_on place (failed other kind ∷ first) later = sent_on place first later
sent_on place (seated other ∷ first) later = sent_on place first later
sent_on place (finished other ∷ first) later = sent_on place first later
sent_on place (vacated other reason ∷ first) later = sent_on place first later
sent_on place (sent other bytes ∷ first) later =
    ap (λ (bs : List ℕ). (if nat_eq other place then bytes else []) ++ bs) (sent_on place first later)
    ∙ sym (append_assoc (if nat_eq other place then bytes else []) (sent_at place first) (sent_at place later))

bytes_on : (first later : List (Option Answer)) → flat_map answer_bytes (first ++ later) ≡ flat_map answer_bytes first ++ flat_map answer_bytes later
bytes_on [] later = refl
bytes_on (answer ∷ first) later =
    ap (λ (bs : List ℕ). answer_bytes answer ++ bs) (bytes_on first later)
    ∙ sym (append_assoc (answer_bytes answer) (flat_map answer_bytes first) (flat_map answer_bytes later))

-- nothing is sent at another place
apart_false : (a b : ℕ) → a ≢ b → nat_eq a b ≡ false
apart_false a b apart = by_test (eqb_tells a b) where
  by_test : ((eqb a b ≡ true) × (a ≡ b)) ⊎ ((eqb a b ≡ false) × (a ≢ b)) → nat_eq a b ≡ false
  by_test (inl (test, same)) = absurd (apart same)
  by_test (inr (test, other)) = test

sent_elsewhere : (place other : ℕ) (traffic : List Traffic) → place ≢ other → AreAt place traffic → sent_at other traffic ≡ []
sent_elsewhere place other [] apart there = refl
sent_elsewhere place other (received at bytes ∷ traffic) apart (here, there) = sent_elsewhere place other traffic apart there
sent_elsewhere place other (failed at kind ∷ traffic) apart (here, there) = sent_elsewhere place other traffic apart there
sent_elsewhere place other (finished at ∷ traffic) apart (here, there) = sent_elsewhere place other traffic apart there
sent_elsewhere place other (seated at ∷ traffic) apart none = absurd none
sent_elsewhere place other (vacated at reason ∷ traffic) apart none = absurd none
sent_elsewhere place other (sent at bytes ∷ traffic) apart (here, there) =
    ap (λ (b : Bool). (if b then bytes else []) ++ sent_at other traffic) (apart_false at other (λ same. apart (sym here ∙ same)))
    ∙ sent_elsewhere place other traffic apart there

-- ---- one place, after another was set

within : (n : ℕ) (lanes : Lanes) (lane : Lane) → lane_at n lanes ≡ Some lane → n < length lanes
within n [] lane there = let e : None ≡ Some lane = there in absurd cc
within zero (one ∷ lanes) lane there = omega arith
within (suc n) (one ∷ lanes) lane there = omega (arith, within n lanes lane there)

some_same : {X : Type 0} {x y : X} → Some x ≡ Some y → x ≡ y
some_same e = cc

-- ---- the replies to a connection

-- what was under way before and the replies since are what was sent since and what is under way
abbrev GoesOut : ℕ → Lanes → Lane → List (Option Answer) → List Traffic → Type 0
GoesOut place new was given traffic =
    (is : Lane) × (lane_at place new ≡ Some is) × (was.outgoing.left ++ flat_map answer_bytes given ≡ sent_at place traffic ++ is.outgoing.left)

-- nothing was done for it
kept : (place : ℕ) (new : Lanes) (was : Lane) → lane_at place new ≡ Some was → GoesOut place new was [] []
kept place new was there = (was, there, append-nil was.outgoing.left)

-- a part of the bytes was sent, and no more was answered; or one message was
one_sent : (rest left went : List ℕ) (answer : Option Answer) → AreSent rest answer went left → rest ++ (answer_bytes answer ++ []) ≡ went ++ left
one_sent rest left went None balance = append-nil rest ∙ balance
one_sent rest left went (Some answer) (part, first, whole) =
    ap (λ (bs : List ℕ). rest ++ bs) (append-nil (answer_bytes (Some answer)) ∙ whole) ∙ sym (append_assoc rest part left) ∙ ap (λ (bs : List ℕ). bs ++ left) (sym first)

-- one after the other
out_on : (place : ℕ) (mid new : Lanes) (was : Lane) (first later : List (Option Answer)) (traffic more : List Traffic)
    → (went : GoesOut place mid was first traffic) → GoesOut place new went.0 later more → GoesOut place new was (first ++ later) (traffic ++ more)
out_on place mid new was first later traffic more (is, there, balance) (last, at_last, after) = (
  last,
  at_last,
  ap (λ (bs : List ℕ). was.outgoing.left ++ bs) (bytes_on first later)
      ∙ sym (append_assoc was.outgoing.left (flat_map answer_bytes first) (flat_map answer_bytes later))
      ∙ ap (λ (bs : List ℕ). bs ++ flat_map answer_bytes later) balance
      ∙ append_assoc (sent_at place traffic) is.outgoing.left (flat_map answer_bytes later)
      ∙ ap (λ (bs : List ℕ). sent_at place traffic ++ bs) after
      ∙ sym (append_assoc (sent_at place traffic) (sent_at place more) last.outgoing.left)
      ∙ ap (λ (bs : List ℕ). bs ++ last.outgoing.left) (sym (sent_on place traffic more)),
)

-- a step, of this connection or of another
stepped : (conn : Conn) (step : Step) (old mid : Lanes) (was before is : Lane) → lane_at conn.number old ≡ Some was → lane_at step.conn.number old ≡ Some before
    → IsStepOn step before is → mid ≡ slice_set old step.conn.number (Some is)
    → GoesOut conn.number mid was (if nat_eq step.conn.number conn.number then step.answer ∷ [] else []) step.traffic
stepped conn step old mid was before is there had its put = by_number (eqb_tells step.conn.number conn.number) where
  by_number : ((eqb step.conn.number conn.number ≡ true) × (step.conn.number ≡ conn.number)) ⊎ ((eqb step.conn.number conn.number ≡ false) × (step.conn.number ≢ conn.number))
      → GoesOut conn.number mid was (if nat_eq step.conn.number conn.number then step.answer ∷ [] else []) step.traffic
  by_number (inl (test, same)) =
      let one : before ≡ was = some_same (sym had ∙ ap (λ (n : ℕ). lane_at n old) same ∙ there) in
      rw test (
        is,
        ap (lane_at conn.number) put ∙ ap (λ (n : ℕ). lane_at conn.number (slice_set old n (Some is))) same
            ∙ get_or-set_same old conn.number (Some is) None (within conn.number old was there),
        ap (λ (l : Lane). l.outgoing.left ++ (answer_bytes step.answer ++ [])) (sym one)
            ∙ one_sent before.outgoing.left is.outgoing.left (sent_at step.conn.number step.traffic) step.answer its.sent
            ∙ ap (λ (n : ℕ). sent_at n step.traffic ++ is.outgoing.left) same,
      )
  by_number (inr (test, apart)) =
      rw test (
        was,
        ap (lane_at conn.number) put ∙ get_or-set_other old step.conn.number conn.number (Some is) None (λ same. apart (sym same)) ∙ there,
        append-nil was.outgoing.left ∙ ap (λ (bs : List ℕ). bs ++ was.outgoing.left) (sym (sent_elsewhere step.conn.number conn.number step.traffic apart its.there)),
      )

-- deeds, one after another
goes_out : (conn : Conn) (deeds : List Deed) (old new : Lanes) (was : Lane) → AreDone deeds old new → lane_at conn.number old ≡ Some was → LeaveOpen conn deeds
    → GoesOut conn.number new was (answers_to conn deeds) (traffic_of deeds)
goes_out conn [] old new was same there leave = kept conn.number new was (ap (lane_at conn.number) same ∙ there)
goes_out conn (opens other access ∷ deeds) old new was (mid, (lane, free, nothing, put), done) there (apart, leave) =
    goes_out conn deeds mid new was done
    (ap (lane_at conn.number) put ∙ get_or-set_other old other.number conn.number (Some lane) None (λ same. apart (sym same)) ∙ there) leave
goes_out conn (closes other reason ∷ deeds) old new was (mid, (lane, had, put), done) there (apart, leave) =
    goes_out conn deeds mid new was done
    (ap (lane_at conn.number) put ∙ get_or-set_other old other.number conn.number None None (λ same. apart (sym same)) ∙ there) leave
goes_out conn (steps step ∷ deeds) old new was (mid, (before, is, had, its, room, put), done) there (none, leave) =
    let first = stepped conn step old mid was before is there had its put in
    out_on conn.number mid new was (if nat_eq step.conn.number conn.number then step.answer ∷ [] else []) (answers_to conn deeds) step.traffic (traffic_of deeds)
    first (goes_out conn deeds mid new first.0 done first.1 leave)

-- ---- its stream

-- events that are played have a rest, behind those of one deed
abbrev pub HasRest : Conn → List Event → List Outcome → List Event → List Outcome → List (Option Next) → Lines → List ℕ → Type 0
HasRest conn events outcomes more rest nexts new bytes =
    (others : List (Option Next)) × (mid : Lines) × Plays more rest others mid new
    × (bytes_fed (steps_on conn (events ++ more) nexts (outcomes ++ rest)) ≡ bytes ++ bytes_fed (steps_on conn more others rest))
    × (LeaveEach conn more → LeaveEach conn (events ++ more))

own_bytes : (conn other : Conn) (piece read : List ℕ) (later : List Made) → piece ≡ read
    → bytes_fed (own_step conn other (feeds piece) ++ later) ≡ (if nat_eq other.number conn.number then read else []) ++ bytes_fed later
own_bytes conn other piece read later same = by_test (nat_eq other.number conn.number) where
  by_test : (b : Bool) → bytes_fed ((if b then feeds piece ∷ [] else []) ++ later) ≡ (if b then read else []) ++ bytes_fed later
  by_test true = ap (λ (bs : List ℕ). bs ++ bytes_fed later) same
  by_test false = refl

own_nothing : (conn other : Conn) (given : Next) (later : List Made) → bytes_fed (own_step conn other (answers given) ++ later) ≡ bytes_fed later
own_nothing conn other given later = by_test (nat_eq other.number conn.number) where
  by_test : (b : Bool) → bytes_fed ((if b then answers given ∷ [] else []) ++ later) ≡ bytes_fed later
  by_test true = refl
  by_test false = refl

none_either : (b : Bool) (bytes later : List ℕ) → bytes ≡ [] → later ≡ (if b then bytes else []) ++ later
none_either true bytes later none = ap (λ (bs : List ℕ). bs ++ later) (sym none)
none_either false bytes later none = refl

pub fed_rest : (conn who : Conn) (read dropped : List ℕ) (events more : List Event) (outcomes rest : List Outcome) (nexts : List (Option Next)) (old new : Lines)
    → IsFed who read dropped events outcomes → Plays (events ++ more) (outcomes ++ rest) nexts old new
    → HasRest conn events outcomes more rest nexts new (if nat_eq who.number conn.number then read else [])
fed_rest conn who read dropped [] more [] rest nexts old new none plays =
    (nexts, old, plays, none_either (nat_eq who.number conn.number) read (bytes_fed (steps_on conn more nexts rest)) none, λ leave. leave)
fed_rest conn who read dropped (event.Piece other piece ∷ []) more (outcome.Held (Ok done) ∷ []) rest (given ∷ nexts) old new (same, all, left) (mid, does, plays) = (
  nexts,
  mid,
  plays,
  own_bytes conn other piece.now read (steps_on conn more nexts rest) all
      ∙ ap (λ (c : Conn). (if nat_eq c.number conn.number then read else []) ++ bytes_fed (steps_on conn more nexts rest)) same,
  λ leave. (tt, leave),
)
fed_rest conn who read dropped (event.Piece other piece ∷ []) more (outcome.Held (Err error) ∷ []) rest (given ∷ nexts) old new (same, all, none) (mid, does, plays) =
    (nexts, mid, plays, none_either (nat_eq who.number conn.number) read (bytes_fed (steps_on conn more nexts rest)) none, λ leave. (tt, leave))
fed_rest conn who read dropped (event.Piece other piece ∷ []) more (outcome.Held (Ok done) ∷ []) rest [] old new is none = absurd none
fed_rest conn who read dropped (event.Piece other piece ∷ []) more (outcome.Held (Err error) ∷ []) rest [] old new is none = absurd none
fed_rest conn who read dropped [] more (o ∷ outcomes) rest nexts old new none plays = absurd none
fed_rest conn who read dropped (event.Begin ∷ events) more outcomes rest nexts old new none plays = absurd none
fed_rest conn who read dropped (event.Answer other moment ∷ events) more outcomes rest nexts old new none plays = absurd none
fed_rest conn who read dropped (event.Finish other ∷ events) more outcomes rest nexts old new none plays = absurd none
fed_rest conn who read dropped (event.Piece other piece ∷ e ∷ events) more outcomes rest nexts old new none plays = absurd none
fed_rest conn who read dropped (event.Piece other piece ∷ []) more [] rest nexts old new none plays = absurd none
fed_rest conn who read dropped (event.Piece other piece ∷ []) more (outcome.Begun result ∷ outcomes) rest nexts old new none plays = absurd none
fed_rest conn who read dropped (event.Piece other piece ∷ []) more (outcome.Answered result ∷ outcomes) rest nexts old new none plays = absurd none
fed_rest conn who read dropped (event.Piece other piece ∷ []) more (outcome.Finished result ∷ outcomes) rest nexts old new none plays = absurd none
fed_rest conn who read dropped (event.Piece other piece ∷ []) more (outcome.Held (Ok done) ∷ o ∷ outcomes) rest nexts old new none plays = absurd none
fed_rest conn who read dropped (event.Piece other piece ∷ []) more (outcome.Held (Err error) ∷ o ∷ outcomes) rest nexts old new none plays = absurd none

pub asked_rest : (conn who : Conn) (answer : Option Answer) (events more : List Event) (outcomes rest : List Outcome) (nexts : List (Option Next)) (old new : Lines)
    → IsAsked who answer events outcomes → Plays (events ++ more) (outcomes ++ rest) nexts old new → HasRest conn events outcomes more rest nexts new []
asked_rest conn who answer [] more [] rest nexts old new none plays = (nexts, old, plays, refl, λ leave. leave)
asked_rest conn who answer (event.Answer other moment ∷ []) more (outcome.Answered (Ok given_back) ∷ []) rest (Some given ∷ nexts) old new is (mid, does, plays) =
    (nexts, mid, plays, own_nothing conn other given (steps_on conn more nexts rest), λ leave. (tt, leave))
asked_rest conn who answer (event.Answer other moment ∷ []) more (outcome.Answered (Ok given_back) ∷ []) rest (None ∷ nexts) old new is (mid, does, plays) =
    (nexts, mid, plays, refl, λ leave. (tt, leave))
asked_rest conn who answer (event.Answer other moment ∷ []) more (outcome.Answered (Err error) ∷ []) rest (Some given ∷ nexts) old new is (mid, does, plays) =
    (nexts, mid, plays, own_nothing conn other given (steps_on conn more nexts rest), λ leave. (tt, leave))
asked_rest conn who answer (event.Answer other moment ∷ []) more (outcome.Answered (Err error) ∷ []) rest (None ∷ nexts) old new is (mid, does, plays) =
    (nexts, mid, plays, refl, λ leave. (tt, leave))
asked_rest conn who answer (event.Answer other moment ∷ []) more (outcome.Answered (Ok given_back) ∷ []) rest [] old new is none = absurd none
asked_rest conn who answer (event.Answer other moment ∷ []) more (outcome.Answered (Err error) ∷ []) rest [] old new is none = absurd none
asked_rest conn who answer [] more (o ∷ outcomes) rest nexts old new none plays = absurd none
asked_rest conn who answer (event.Begin ∷ events) more outcomes rest nexts old new none plays = absurd none
asked_rest conn who answer (event.Piece other piece ∷ events) more outcomes rest nexts old new none plays = absurd none
asked_rest conn who answer (event.Finish other ∷ events) more outcomes rest nexts old new none plays = absurd none
asked_rest conn who answer (event.Answer other moment ∷ e ∷ events) more outcomes rest nexts old new none plays = absurd none
asked_rest conn who answer (event.Answer other moment ∷ []) more [] rest nexts old new none plays = absurd none
asked_rest conn who answer (event.Answer other moment ∷ []) more (outcome.Begun result ∷ outcomes) rest nexts old new none plays = absurd none
asked_rest conn who answer (event.Answer other moment ∷ []) more (outcome.Held result ∷ outcomes) rest nexts old new none plays = absurd none
asked_rest conn who answer (event.Answer other moment ∷ []) more (outcome.Finished result ∷ outcomes) rest nexts old new none plays = absurd none
asked_rest conn who answer (event.Answer other moment ∷ []) more (outcome.Answered (Ok given_back) ∷ o ∷ outcomes) rest nexts old new none plays = absurd none
asked_rest conn who answer (event.Answer other moment ∷ []) more (outcome.Answered (Err error) ∷ o ∷ outcomes) rest nexts old new none plays = absurd none

-- the bytes that came to its stream by these calls, none of which closes it
abbrev IsRead : Conn → List Deed → List (Option Next) → Type 0
IsRead conn deeds nexts =
    (bytes_fed (steps_on conn (calls_of deeds).events nexts (calls_of deeds).outcomes) ≡ read_on conn deeds) × LeaveEach conn (calls_of deeds).events

-- those of a step, and of deeds after it
step_read : (conn : Conn) (step : Step) (deeds : List Deed) (nexts : List (Option Next)) (was is : Lane) (old new : Lines) → IsStepOn step was is
    → Plays (calls_of (steps step ∷ deeds)).events (calls_of (steps step ∷ deeds)).outcomes nexts old new
    → ((others : List (Option Next)) (mid : Lines) → Plays (calls_of deeds).events (calls_of deeds).outcomes others mid new → IsRead conn deeds others)
    → IsRead conn (steps step ∷ deeds) nexts
step_read conn step deeds nexts was is old new its plays later =
    let E = (calls_of deeds).events in
    let O = (calls_of deeds).outcomes in
    let of_events = append_assoc step.fed.events step.asked.events E in
    let of_outcomes = append_assoc step.fed.outcomes step.asked.outcomes O in
    let regrouped : Plays (step.fed.events ++ (step.asked.events ++ E)) (step.fed.outcomes ++ (step.asked.outcomes ++ O)) nexts old new =
    subst (λ (es : List Event). Plays es (step.fed.outcomes ++ (step.asked.outcomes ++ O)) nexts old new) of_events
    (subst (λ (os : List Outcome). Plays (step.fed.events ++ step.asked.events ++ E) os nexts old new) of_outcomes plays) in
    let first = fed_rest conn step.conn step.read step.dropped step.fed.events (step.asked.events ++ E) step.fed.outcomes (step.asked.outcomes ++ O) nexts old new its.fed regrouped in
    let next_of = asked_rest conn step.conn step.answer step.asked.events E step.asked.outcomes O first.0 first.1 new its.asked first.2 in
    let on = later next_of.0 next_of.1 next_of.2 in (
      ap (λ (es : List Event). bytes_fed (steps_on conn es nexts (step.fed.outcomes ++ step.asked.outcomes ++ O))) of_events
          ∙ ap (λ (os : List Outcome). bytes_fed (steps_on conn (step.fed.events ++ (step.asked.events ++ E)) nexts os)) of_outcomes
          ∙ first.3
          ∙ ap (λ (bs : List ℕ). (if nat_eq step.conn.number conn.number then step.read else []) ++ bs) (next_of.3 ∙ on.0),
      subst (LeaveEach conn) (sym of_events) (first.4 (next_of.4 on.1)),
    )

is_read : (conn : Conn) (deeds : List Deed) (nexts : List (Option Next)) (lanes_old lanes_new : Lanes) (old new : Lines) → AreDone deeds lanes_old lanes_new → LeaveOpen conn deeds
    → Plays (calls_of deeds).events (calls_of deeds).outcomes nexts old new → IsRead conn deeds nexts
is_read conn [] nexts lanes_old lanes_new old new done leave plays = (refl, tt)
is_read conn (opens other access ∷ deeds) (given ∷ nexts) lanes_old lanes_new old new (lanes, does, done) (apart, leave) (mid, opened, plays) =
    let on = is_read conn deeds nexts lanes lanes_new mid new done leave plays in (on.0, (tt, on.1))
is_read conn (closes other reason ∷ deeds) (given ∷ nexts) lanes_old lanes_new old new (lanes, does, done) (apart, leave) (mid, closed, plays) =
    let on = is_read conn deeds nexts lanes lanes_new mid new done leave plays in (on.0, (apart, on.1))
is_read conn (steps step ∷ deeds) nexts lanes_old lanes_new old new (lanes, (was, is, had, its, room, put), done) (none, leave) plays =
    step_read conn step deeds nexts was is old new its plays (λ others mid more. is_read conn deeds others lanes lanes_new mid new done leave more)
is_read conn (opens other access ∷ deeds) [] lanes_old lanes_new old new does leave none = absurd none
is_read conn (closes other reason ∷ deeds) [] lanes_old lanes_new old new does leave none = absurd none

-- ---- the law

pub streams : StreamsOfSittings
streams conn deeds nexts lanes_old lanes_new lines_old lines_new was stream done plays there is_open leave =
    let out = goes_out conn deeds lanes_old lanes_new was done there leave in
    let bytes = is_read conn deeds nexts lanes_old lanes_new lines_old lines_new done leave plays in
    let on = lines_are conn (calls_of deeds).events (calls_of deeds).outcomes nexts lines_old lines_new stream plays is_open bytes.1 in
    record {
      lane = out.0;
      after = on.0;
      rest = on.1;
      in_lane = out.1;
      in_line = on.2;
      sent = out.2;
      cuts = subst (λ (bs : List ℕ). Cuts (fed stream bs) (map (λ exchange. exchange.0) (exchanges_on conn (calls_of deeds).events nexts (calls_of deeds).outcomes)) on.1) bytes.0 on.4;
      stops = on.5;
      replies = are_replies conn deeds nexts lanes_old lanes_new lines_old lines_new stream done plays is_open leave;
    }
