-- Messages that are turned away, among events that are played.
use Rattle.std.proofs.Common.{◌≡◌, ℤ, true, false, List, [], ◌∷◌, ◌++◌, Option, Some, None, Result, Ok, Err, IsTrue, refl, ap, sym, subst, ◌∙◌}
use Rattle.std.proofs.lemmas.Bool.{false≢true}
use Rattle.std.proofs.lemmas.List.{append_assoc}
use Rattle.xa_http.specs.declared.message.Message.{Message}
use Rattle.xa_http.specs.declared.session.Look.TheVariants as look
use Rattle.xa_http.specs.declared.session.Next.{Next}
use Rattle.xa_http.specs.declared.session.Next.TheVariants as next
use Rattle.xa_http.specs.Changing.{TellsChange, asks_for_change}
use Rattle.xa_http.specs.Messages.{IsCut, IsFirst}
use Rattle.xa_http.specs.Stream.{Stream}
use Rattle.xa_http.proofs.LawLemmas.{answers_messages, whole_not_faulty, whole_not_unfinished}
use Rattle.xa_records.specs.Keeper.{Custody}
use Rattle.xa_server.specs.Alone as messages
use Rattle.xa_server.specs.Connection.{answer_after}
use Rattle.xa_server.specs.declared.connection.Answered.TheVariants as answered
use Rattle.xa_server.specs.declared.connection.turning_away.TurnedAway.{TurnedAway}
use Rattle.xa_server.specs.declared.connection.Answer.{Answer}
use Rattle.xa_server.specs.declared.event.Event.{Event}
use Rattle.xa_server.specs.declared.event.Event.TheVariants as event
use Rattle.xa_server.specs.declared.event.Outcome.{Outcome}
use Rattle.xa_server.specs.declared.event.Outcome.TheVariants as outcome
use Rattle.xa_server.specs.declared.front.Front.{Front}
use Rattle.xa_server.specs.declared.front_error.FrontError.{FrontError}
use Rattle.xa_server.specs.declared.front_error.FrontError.TheVariants.{Memory}
use Rattle.xa_server.specs.declared.lines.Conn.{Conn}
use Rattle.xa_server.specs.declared.replies.Reply.{Reply}
use Rattle.xa_server.specs.Front.{AnswersAt, IsPlayed, Plays, message_cut, messages_cut, replies_given, reply_given}
use Rattle.xa_server.specs.Lines.{IsOpen, Lines, with_line}
use Rattle.xa_server.specs.Serving.{AreServed, HaveServed}
use Rattle.xa_server.specs.TurningAway.{AreHandled, Handling, IsHandled, IsPlayedBeside, TurnsAway, TurnsAwayAt, TurnsAwayFirst, message_served, messages_served, replies_served, reply_served, serves, serves_unchanging, turned_away_reply, turns_away}
use Rattle.xa_server.proofs.LineLemmas.{line_kept}
use Rattle.xa_server.proofs.ServingLemmas.{are_served, none_served, served_on}

-- ---- a connection

-- no message of it is whole
pub uncut : (s t : Stream) (given : Next) → IsCut s given t → ((message : Message) → ¬ (given ≡ next.Message message)) → TurnsAway s None t
uncut s t next.More (on, more, same) other = (λ message rest first. whole_not_unfinished s.held message rest.held first.1 more, same)
uncut s t (next.Fault fault) ((on, faulty), same) other = (λ message rest first. whole_not_faulty s.held message rest.held fault first.1 faulty, same)
uncut s t next.Ended (over, same) other = (λ message rest first. false≢true (sym first.0 ∙ over), same)
uncut s t (next.Message message) is other = absurd (other message refl)

-- ---- a connection of a front

-- one message of it was turned away, or none
pub turned_at : (conn : Conn) (old new : Lines) (s t : Stream) (turned : TurnedAway) → IsOpen conn old s → new ≡ with_line conn (Some t) old → TurnsAway s (Some turned) t
    → TurnsAwayAt conn old (Ok (Some turned.answer)) new
turned_at conn old new s t turned opens put turns = (s, t, turned.message, opens, turns, put)

pub unturned_at : (conn : Conn) (old new : Lines) (s t : Stream) → IsOpen conn old s → new ≡ with_line conn (Some t) old → TurnsAway s None t → TurnsAwayAt conn old (Ok None) new
unturned_at conn old new s t opens put (none, same) = (s, opens, none, line_kept conn old new s t opens put same)

pub kept_at : (conn : Conn) (old new : Lines) (s t : Stream) → IsOpen conn old s → new ≡ with_line conn (Some t) old → t ≡ s → TurnsAwayAt conn old (Err Memory) new
kept_at conn old new s t opens put same = (s, opens, line_kept conn old new s t opens put same)

-- ---- the first message of a stream

some_same : {X : Type 0} {x y : X} → Some x ≡ Some y → x ≡ y
some_same e = cc

message_same : {m n : Message} → next.Message m ≡ next.Message n → m ≡ n
message_same e = cc

-- it is one
first_same : (stream : Stream) (m n : Message) (rest last : Stream) → IsFirst stream m rest → IsFirst stream n last → n ≡ m
first_same stream m n rest last first other = message_same (answers_messages stream m rest (next.Message n) last first other).0

asks_alone : (stream : Stream) (message : Message) (after : Stream) → IsFirst stream message after → TellsChange stream true → asks_for_change message ≡ true
asks_alone stream message after first (other, rest, is, asks) = ap asks_for_change (first_same stream other message rest after is first) ∙ asks

-- ---- events after others

-- what they do, how they were made, the messages that are served, and the replies to these
joined : (hows more : List Handling) (events others : List Event) (outcomes rest : List Outcome) (nexts later : List (Option Next)) (old mid new : Lines)
    → Plays events outcomes nexts old mid → AreHandled hows nexts outcomes → Plays others rest later mid new → AreHandled more later rest
    → Plays (events ++ others) (outcomes ++ rest) (nexts ++ later) old new
    × AreHandled (hows ++ more) (nexts ++ later) (outcomes ++ rest)
    × (messages_served (hows ++ more) (events ++ others) (nexts ++ later) ≡ messages_served hows events nexts ++ messages_served more others later)
    × (replies_served (hows ++ more) (nexts ++ later) (outcomes ++ rest) ≡ replies_served hows nexts outcomes ++ replies_served more later rest)
joined [] more [] others [] rest [] later old mid new same none plays handled = (subst (λ (l : Lines). Plays others rest later l new) same plays, handled, refl, refl)
joined (how ∷ hows) more [] others [] rest [] later old mid new same none plays handled = absurd none
joined [] more (e ∷ events) others (o ∷ outcomes) rest (given ∷ nexts) later old mid new is none plays handled = absurd none
joined (how ∷ hows) more (e ∷ events) others (o ∷ outcomes) rest (given ∷ nexts) later old mid new (first, did, behind) (is, are) plays handled =
    let on = joined hows more events others outcomes rest nexts later first mid new behind are plays handled in (
      (first, did, on.0),
      (is, on.1),
      ap (λ (ms : List messages.Event). message_served how e given ++ ms) on.2
          ∙ sym (append_assoc (message_served how e given) (messages_served hows events nexts) (messages_served more others later)),
      ap (λ (rs : List Reply). reply_served how given o ++ rs) on.3
          ∙ sym (append_assoc (reply_served how given o) (replies_served hows nexts outcomes) (replies_served more later rest)),
    )
joined hows more _ others _ rest _ later old mid new none handled plays on = absurd none

-- ---- none was turned away

abbrev pub NoneAway : List Handling → Type 0
NoneAway [] = Unit {0}
NoneAway (serves ∷ hows) = NoneAway hows
NoneAway (serves_unchanging ∷ hows) = NoneAway hows
NoneAway (turns_away ∷ hows) = ⊥

all_served : (hows : List Handling) (events : List Event) (outcomes : List Outcome) (nexts : List (Option Next)) (old new : Lines) → NoneAway hows → AreHandled hows nexts outcomes
    → Plays events outcomes nexts old new
    → (messages_served hows events nexts ≡ messages_cut events nexts) × (replies_served hows nexts outcomes ≡ replies_given nexts outcomes)
all_served [] [] [] [] old new none handled same = (refl, refl)
all_served (how ∷ hows) [] [] [] old new none absent same = absurd absent
all_served [] (e ∷ events) (o ∷ outcomes) (given ∷ nexts) old new none absent plays = absurd absent
all_served (serves ∷ hows) (e ∷ events) (o ∷ outcomes) (given ∷ nexts) old new none (is, are) (mid, did, plays) =
    let on = all_served hows events outcomes nexts mid new none are plays in
    (ap (λ (ms : List messages.Event). message_cut e given ++ ms) on.0, ap (λ (rs : List Reply). reply_given given o ++ rs) on.1)
all_served (serves_unchanging ∷ hows) (e ∷ events) (o ∷ outcomes) (given ∷ nexts) old new none (is, are) (mid, did, plays) =
    let on = all_served hows events outcomes nexts mid new none are plays in
    (ap (λ (ms : List messages.Event). message_cut e given ++ ms) on.0, ap (λ (rs : List Reply). reply_given given o ++ rs) on.1)
all_served (turns_away ∷ hows) (e ∷ events) (o ∷ outcomes) (given ∷ nexts) old new none handled plays = absurd none
all_served hows _ _ _ old new none handled absent = absurd absent

-- then events were played, and no more
pub plays_all : {R : Type 0} (custody : R → Custody) (old new : Front R) (hows : List Handling) (events : List Event) (outcomes : List Outcome) → NoneAway hows
    → IsPlayedBeside custody old new hows events outcomes → IsPlayed custody old new events outcomes
plays_all {R} custody old new hows events outcomes none beside =
    let all = all_served hows events outcomes beside.nexts old.lines new.lines none beside.handled beside.plays in
    record {
      nexts = beside.nexts;
      plays = beside.plays;
      served =
          subst (λ (ms : List messages.Event). AreServed custody old.server new.server ms (replies_given beside.nexts outcomes)) all.0
          (subst (λ (rs : List Reply). AreServed custody old.server new.server (messages_served hows events beside.nexts) rs) all.1 beside.served);
    }

module _ {R : Type 0} (custody : R → Custody) (is_open : (s : R) → (custody s).sound → IsTrue (custody s).is_open) where
  beside : (old new : Front R) (hows : List Handling) (events : List Event) (outcomes : List Outcome) (nexts : List (Option Next)) → Plays events outcomes nexts old.lines new.lines
      → AreHandled hows nexts outcomes → HaveServed custody old.server (messages_served hows events nexts) (replies_served hows nexts outcomes) new.server
      → IsPlayedBeside custody old new hows events outcomes
  beside old new hows events outcomes nexts plays handled (servers, each) = record {
    nexts = nexts;
    plays = plays;
    handled = handled;
    served = are_served custody is_open old.server new.server (messages_served hows events nexts) (replies_served hows nexts outcomes) servers each;
  }

  -- ---- nothing

  pub beside_none : (front : Front R) → IsPlayedBeside custody front front [] [] []
  beside_none front = beside front front [] [] [] [] refl tt (none_served custody front.server)

  -- nothing was done to the lines, nor to the server
  pub beside_same : (old new : Front R) → new.lines ≡ old.lines → new.server ≡ old.server → IsPlayedBeside custody old new [] [] []
  beside_same old new lines server = beside old new [] [] [] [] lines tt ([], server)

  -- ---- one message was turned away

  pub beside_turned : (conn : Conn) (moment : ℤ) (old new : Front R) (stream : Stream) (answer : Answer) → IsOpen conn old.lines stream → TellsChange stream true
      → TurnsAwayAt conn old.lines (Ok (Some answer)) new.lines → new.server ≡ old.server
      → IsPlayedBeside custody old new (turns_away ∷ []) (event.Answer conn moment ∷ []) (outcome.Answered (Ok (Some answer)) ∷ [])
  beside_turned conn moment old new stream answer opens tells (was, after, message, there, (first, is), put) server =
      let same : was ≡ stream = some_same (sym there ∙ opens) in
      beside old new (turns_away ∷ []) (event.Answer conn moment ∷ []) (outcome.Answered (Ok (Some answer)) ∷ []) (Some (next.Message message) ∷ []) (
        new.lines,
        (was, after, answered.Reply (answer_after after turned_away_reply), there, first, (turned_away_reply, refl), ap (λ (a : Answer). Some a) is, put),
        refl,
      ) (
        (
          asks_alone stream message after (subst (λ (s : Stream). IsFirst s message after) same first) tells,
          ap (λ (a : Answer). a.reply) is,
        ),
        tt,
      )
      ([], server)

  -- ---- one after another

  pub beside_on : (old mid new : Front R) (hows more : List Handling) (events others : List Event) (outcomes rest : List Outcome)
      → IsPlayedBeside custody old mid hows events outcomes → IsPlayedBeside custody mid new more others rest
      → IsPlayedBeside custody old new (hows ++ more) (events ++ others) (outcomes ++ rest)
  beside_on old mid new hows more events others outcomes rest first later =
      let on =
      joined hows more events others outcomes rest first.nexts later.nexts old.lines mid.lines new.lines first.plays first.handled later.plays later.handled in
      beside old new (hows ++ more) (events ++ others) (outcomes ++ rest) (first.nexts ++ later.nexts) on.0 on.1
      (rw (on.2, on.3)
      (served_on custody old.server mid.server new.server (messages_served hows events first.nexts)
      (messages_served more others later.nexts) (replies_served hows first.nexts outcomes) (replies_served more later.nexts rest)
      (first.served.servers, first.served.each) (later.served.servers, later.served.each)))

-- ---- one event, by which no message was turned away

module _ {R : Type 0} (custody : R → Custody) (old new : Front R) where
  pub beside_one : (e : Event) (o : Outcome) → IsPlayed custody old new (e ∷ []) (o ∷ []) → IsPlayedBeside custody old new (serves ∷ []) (e ∷ []) (o ∷ [])
  beside_one e o played = by_nexts played.nexts played.plays played.served where
    by_nexts : (nexts : List (Option Next)) → Plays (e ∷ []) (o ∷ []) nexts old.lines new.lines
        → AreServed custody old.server new.server (messages_cut (e ∷ []) nexts) (replies_given nexts (o ∷ []))
        → IsPlayedBeside custody old new (serves ∷ []) (e ∷ []) (o ∷ [])
    by_nexts (given ∷ []) plays served = record { nexts = given ∷ []; plays = plays; handled = (tt, tt); served = served }
    by_nexts [] none served = absurd none
    by_nexts (given ∷ other ∷ nexts) (mid, does, none) served = absurd none

  -- the first message of a stream asks for no change: so what was answered doesn't
  handled_so : (conn : Conn) (mid : Lines) (stream : Stream) (given : Option Next) (result : Result (Option Answer) FrontError) → IsOpen conn old.lines stream → TellsChange stream false
      → AnswersAt conn old.lines given result mid → IsHandled serves_unchanging given (outcome.Answered result)
  handled_so conn mid stream None result opens tells is = tt
  handled_so conn mid stream (Some next.More) result opens tells is = tt
  handled_so conn mid stream (Some (next.Fault fault)) result opens tells is = tt
  handled_so conn mid stream (Some next.Ended) result opens tells is = tt
  handled_so conn mid stream (Some (next.Message message)) (Err error) opens tells none = absurd none
  handled_so conn mid stream (Some (next.Message message)) (Ok answer) opens tells (was, after, given, there, first, gives, by, put) =
      tells message after (subst (λ (s : Stream). IsFirst s message after) (some_same (sym there ∙ opens)) first)

  pub beside_unchanging : (conn : Conn) (moment : ℤ) (result : Result (Option Answer) FrontError) (stream : Stream) → IsOpen conn old.lines stream → TellsChange stream false
      → IsPlayed custody old new (event.Answer conn moment ∷ []) (outcome.Answered result ∷ [])
      → IsPlayedBeside custody old new (serves_unchanging ∷ []) (event.Answer conn moment ∷ []) (outcome.Answered result ∷ [])
  beside_unchanging conn moment result stream opens tells played = by_nexts played.nexts played.plays played.served where
    by_nexts : (nexts : List (Option Next)) → Plays (event.Answer conn moment ∷ []) (outcome.Answered result ∷ []) nexts old.lines new.lines
        → AreServed custody old.server new.server (messages_cut (event.Answer conn moment ∷ []) nexts) (replies_given nexts (outcome.Answered result ∷ []))
        → IsPlayedBeside custody old new (serves_unchanging ∷ []) (event.Answer conn moment ∷ []) (outcome.Answered result ∷ [])
    by_nexts (given ∷ []) (mid, does, same) served =
        record { nexts = given ∷ []; plays = (mid, does, same); handled = (handled_so conn mid stream given result opens tells does, tt); served = served }
    by_nexts [] none served = absurd none
    by_nexts (given ∷ other ∷ nexts) (mid, does, none) served = absurd none
