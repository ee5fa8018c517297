-- The replies to a connection while it is open, among what is done for all: they are those to its messages, in their order.
use Rattle.std.proofs.Common.{◌≡◌, ◌≢◌, ◌⊎◌, inl, inr, ℤ, ℕ, Bool, true, false, List, [], ◌∷◌, ◌++◌, get_or, Option, Some, None, Ok, Err, nat_eq, refl, sym, ap, subst, ◌∙◌}
use Rattle.std.proofs.lemmas.Bool.Decides.{eqb_tells}
use Rattle.std.proofs.lemmas.List.{append_assoc, get_or-set_other, get_or-set_same}
use Rattle.std.specs.Prelude.{◌<◌, eqb, if◌then◌else◌, length, map, suc, zero}
use Rattle.std.proofs.Common.{arith}
use Rattle.xa_http.specs.declared.fault.SessionFault.{SessionFault}
use Rattle.xa_http.specs.declared.message.Message.{Message}
use Rattle.xa_http.specs.declared.session.Next.{Next}
use Rattle.xa_http.specs.declared.session.Next.TheVariants as next
use Rattle.xa_http.specs.Messages.{IsNext}
use Rattle.xa_http.specs.Stream.{Stream}
use Rattle.xa_server.specs.Connection.{IsGiven, answer_after, answer_of}
use Rattle.xa_server.specs.declared.connection.Answered.{Answered}
use Rattle.xa_server.specs.declared.connection.Answer.{Answer}
use Rattle.xa_server.specs.declared.event.Event.{Event}
use Rattle.xa_server.specs.declared.event.Event.TheVariants as event
use Rattle.xa_server.specs.declared.event.Outcome.{Outcome}
use Rattle.xa_server.specs.declared.event.Outcome.TheVariants as outcome
use Rattle.xa_server.specs.declared.front_error.FrontError.TheVariants.{Memory, NoSuchConnection, TooManyConnections, Full}
use Rattle.xa_server.specs.declared.lines.Conn.{Conn}
use Rattle.xa_server.specs.declared.replies.Reply.{Reply}
use Rattle.xa_server.specs.Front.{AnswersAt, Plays}
use Rattle.xa_server.specs.FrontLaws.{exchange_on, exchanges_on}
use Rattle.xa_server.specs.Lines.{IsOpen, Lines, line_at, with_line}
use Rattle.xa_server.proofs.FrontLawLemmas.{never_none}
use Rattle.xa_reactor.specs.Run.{AreReplies, LeaveOpen, answers_to, fault_reply, replies_in}
use Rattle.xa_reactor.specs.Step.{IsAsked, IsFed, Step}
use Rattle.xa_reactor.specs.Turn.{AreDone, Deed, Lanes, calls_of, closes, opens, steps}

-- ---- one line, after another was set

within : (n : ℕ) (lines : Lines) (stream : Stream) → get_or lines n None ≡ Some stream → n < length lines
within n [] stream there = let e : None ≡ Some stream = there in absurd cc
within zero (line ∷ lines) stream there = omega arith
within (suc n) (line ∷ lines) stream there = omega (arith, within n lines stream there)

some_same : {X : Type 0} {x y : X} → Some x ≡ Some y → x ≡ y
some_same e = cc

set_own : (conn other : Conn) (lines : Lines) (stream after : Stream) → other.number ≡ conn.number → IsOpen conn lines stream
    → IsOpen conn (with_line other (Some after) lines) after
set_own conn other lines stream after same there =
    ap (λ (n : ℕ). get_or (with_line (record { number = n }) (Some after) lines) conn.number None) same
    ∙ get_or-set_same lines conn.number (Some after) None (within conn.number lines stream there)

set_other : (conn other : Conn) (lines : Lines) (stream : Stream) (line : Option Stream) → other.number ≢ conn.number → IsOpen conn lines stream
    → IsOpen conn (with_line other line lines) stream
set_other conn other lines stream line apart there =
    get_or-set_other lines other.number conn.number line None (λ same. apart (sym same)) ∙ there

-- a connection is open still, and its session has ended exactly if it had
abbrev StaysOpen : Conn → Lines → Stream → Type 0
StaysOpen conn mid stream = (after : Stream) × IsOpen conn mid after × (after.ended ≡ stream.ended)

unchanged : (conn : Conn) (old mid : Lines) (stream : Stream) → mid ≡ old → IsOpen conn old stream → StaysOpen conn mid stream
unchanged conn old mid stream same there = (stream, ap (line_at conn) same ∙ there, refl)

-- a piece came to a connection: to this one, or to another
piece_came : (conn other : Conn) (old mid : Lines) (stream was after : Stream) → IsOpen other old was → mid ≡ with_line other (Some after) old → after.ended ≡ was.ended
    → IsOpen conn old stream → StaysOpen conn mid stream
piece_came conn other old mid stream was after had put same_end there = by_number (eqb_tells other.number conn.number) where
  by_number : ((eqb other.number conn.number ≡ true) × (other.number ≡ conn.number)) ⊎ ((eqb other.number conn.number ≡ false) × (other.number ≢ conn.number)) → StaysOpen conn mid stream
  by_number (inl (test, same)) =
      let one : was ≡ stream = some_same (sym had ∙ ap (λ (n : ℕ). get_or old n None) same ∙ there) in
      (after, ap (line_at conn) put ∙ set_own conn other old stream after same there, same_end ∙ ap (λ (s : Stream). s.ended) one)
  by_number (inr (test, apart)) = (stream, ap (line_at conn) put ∙ set_other conn other old stream (Some after) apart there, refl)

-- ---- one answer

-- the exchange that an answer is
abbrev exchange_of : Next → Option Answer → List (Message × Reply)
exchange_of (next.Message message) (Some answer) = (message, answer.reply) ∷ []
exchange_of _ _ = []

-- it is none; or it is that of a message; or it is the reply to a fault, and the session has ended with it
abbrev Comes : Stream → Stream → List (Message × Reply) → List Reply → Type 0
Comes was after exchanges replies =
    ((exchanges ≡ []) × (replies ≡ []) × (after.ended ≡ was.ended))
    ⊎ (((message : Message) × (reply : Reply) × (exchanges ≡ (message, reply) ∷ []) × (replies ≡ reply ∷ []) × (was.ended ≡ false))
    ⊎ ((fault : SessionFault) × (exchanges ≡ []) × (replies ≡ fault_reply fault ∷ []) × (was.ended ≡ false) × (after.ended ≡ true)))

one_answer : (given : Next) (was after : Stream) (answered : Answered) (answer : Option Answer) → IsNext was given after → IsGiven given after answered
    → answer ≡ answer_of answered → Comes was after (exchange_of given answer) (replies_in (answer ∷ []))
one_answer (next.Message message) was after answered (Some answer) is gives by = inr (inl (message, answer.reply, refl, refl, is.0))
one_answer (next.Message message) was after answered None is (reply, made) by = absurd (never_none (answer_after after reply) answered made by)
one_answer (next.Fault fault) was after answered answer is gives by =
    inr (inr (fault, refl, ap (λ (a : Option Answer). replies_in (a ∷ [])) (by ∙ ap answer_of gives), is.0, ap (λ (s : Stream). s.ended) is.2))
one_answer next.More was after answered answer is gives by =
    inl (refl, ap (λ (a : Option Answer). replies_in (a ∷ [])) (by ∙ ap answer_of gives), ap (λ (s : Stream). s.ended) is.2)
one_answer next.Ended was after answered answer is gives by =
    inl (refl, ap (λ (a : Option Answer). replies_in (a ∷ [])) (by ∙ ap answer_of gives), ap (λ (s : Stream). s.ended) is.1)

-- an answer on a connection: on this one, or on another
abbrev ComesTo : Conn → Conn → Lines → Stream → List (Message × Reply) → Option Answer → Type 0
ComesTo conn who mid stream exchanges answer =
    (after : Stream) × IsOpen conn mid after × Comes stream after exchanges (replies_in (if nat_eq who.number conn.number then answer ∷ [] else []))

-- none was answered
not_answered : (conn who : Conn) (old mid : Lines) (stream : Stream) (answer : Option Answer) → mid ≡ old → IsOpen conn old stream → answer ≡ None → ComesTo conn who mid stream [] answer
not_answered conn who old mid stream answer same there none =
    (stream, ap (line_at conn) same ∙ there, inl (refl, by_test (nat_eq who.number conn.number), refl)) where
      by_test : (b : Bool) → replies_in (if b then answer ∷ [] else []) ≡ []
      by_test true = ap (λ (a : Option Answer). replies_in (a ∷ [])) none
      by_test false = refl

exchange_is : (conn other : Conn) (moment : ℤ) (given : Next) (answer : Option Answer)
    → exchange_on conn (event.Answer other moment) (Some given) (outcome.Answered (Ok answer)) ≡ (if nat_eq other.number conn.number then exchange_of given answer else [])
exchange_is conn other moment (next.Message message) (Some answer) = refl
exchange_is conn other moment (next.Message message) None = none_either (nat_eq other.number conn.number) where
  none_either : (b : Bool) → [] ≡ (if b then exchange_of (next.Message message) None else [])
  none_either true = refl
  none_either false = refl
exchange_is conn other moment (next.Fault fault) answer = none_either (nat_eq other.number conn.number) where
  none_either : (b : Bool) → [] ≡ (if b then exchange_of (next.Fault fault) answer else [])
  none_either true = refl
  none_either false = refl
exchange_is conn other moment next.More answer = none_either (nat_eq other.number conn.number) where
  none_either : (b : Bool) → [] ≡ (if b then exchange_of next.More answer else [])
  none_either true = refl
  none_either false = refl
exchange_is conn other moment next.Ended answer = none_either (nat_eq other.number conn.number) where
  none_either : (b : Bool) → [] ≡ (if b then exchange_of next.Ended answer else [])
  none_either true = refl
  none_either false = refl

was_answered : (conn other : Conn) (moment : ℤ) (old mid : Lines) (given : Next) (answer : Option Answer) (stream : Stream) → AnswersAt other old (Some given) (Ok answer) mid
    → IsOpen conn old stream → ComesTo conn other mid stream (exchange_on conn (event.Answer other moment) (Some given) (outcome.Answered (Ok answer))) answer
was_answered conn other moment old mid given answer stream (was, after, answered, had, is, gives, by, put) there =
    subst (λ (xs : List (Message × Reply)). ComesTo conn other mid stream xs answer) (sym (exchange_is conn other moment given answer)) (by_number (eqb_tells other.number conn.number)) where
      by_number : ((eqb other.number conn.number ≡ true) × (other.number ≡ conn.number)) ⊎ ((eqb other.number conn.number ≡ false) × (other.number ≢ conn.number))
          → ComesTo conn other mid stream (if nat_eq other.number conn.number then exchange_of given answer else []) answer
      by_number (inl (test, same)) =
          let one : was ≡ stream = some_same (sym had ∙ ap (λ (n : ℕ). get_or old n None) same ∙ there) in
          rw test (
            after,
            ap (line_at conn) put ∙ set_own conn other old stream after same there,
            subst (λ (s : Stream). Comes s after (exchange_of given answer) (replies_in (answer ∷ []))) one (one_answer given was after answered answer is gives by),
          )
      by_number (inr (test, apart)) =
          rw test (stream, ap (line_at conn) put ∙ set_other conn other old stream (Some after) apart there, inl (refl, refl, refl))

-- ---- what is done for a connection, and what comes behind it

-- behind the events of a piece
abbrev HasFed : Conn → List Event → List Outcome → List Event → List Outcome → List (Option Next) → Lines → Stream → Type 0
HasFed conn events outcomes more rest nexts new stream =
    (others : List (Option Next)) × (mid : Lines) × Plays more rest others mid new × StaysOpen conn mid stream
    × (exchanges_on conn (events ++ more) nexts (outcomes ++ rest) ≡ exchanges_on conn more others rest)

fed_keeps : (conn who : Conn) (read dropped : List ℕ) (events more : List Event) (outcomes rest : List Outcome) (nexts : List (Option Next)) (old new : Lines) (stream : Stream)
    → IsFed who read dropped events outcomes → Plays (events ++ more) (outcomes ++ rest) nexts old new → IsOpen conn old stream
    → HasFed conn events outcomes more rest nexts new stream
fed_keeps conn who read dropped [] more [] rest nexts old new stream none plays there = (nexts, old, plays, unchanged conn old old stream refl there, refl)
fed_keeps conn who read dropped (event.Piece other piece ∷ []) more (outcome.Held (Ok done) ∷ []) rest (given ∷ nexts) old new stream is (mid, (none, (was, after, had, (few, fed_is), put)), plays) there =
    (nexts, mid, plays, piece_came conn other old mid stream was after had put (ap (λ (s : Stream). s.ended) fed_is) there, refl)
fed_keeps conn who read dropped (event.Piece other piece ∷ []) more (outcome.Held (Err NoSuchConnection) ∷ []) rest (given ∷ nexts) old new stream is (mid, does, plays) there =
    (nexts, mid, plays, unchanged conn old mid stream does.1.1 there, refl)
fed_keeps conn who read dropped (event.Piece other piece ∷ []) more (outcome.Held (Err _) ∷ []) rest (given ∷ nexts) old new stream is (mid, does, plays) there =
    (nexts, mid, plays, unchanged conn old mid stream does.1.5 there, refl)
fed_keeps conn who read dropped (event.Piece other piece ∷ []) more (outcome.Held (Ok done) ∷ []) rest [] old new stream is none there = absurd none
fed_keeps conn who read dropped (event.Piece other piece ∷ []) more (outcome.Held (Err error) ∷ []) rest [] old new stream is none there = absurd none
fed_keeps conn who read dropped [] more (o ∷ outcomes) rest nexts old new stream none plays there = absurd none
fed_keeps conn who read dropped (event.Begin ∷ events) more outcomes rest nexts old new stream none plays there = absurd none
fed_keeps conn who read dropped (event.Answer other moment ∷ events) more outcomes rest nexts old new stream none plays there = absurd none
fed_keeps conn who read dropped (event.Finish other ∷ events) more outcomes rest nexts old new stream none plays there = absurd none
fed_keeps conn who read dropped (event.Piece other piece ∷ e ∷ events) more outcomes rest nexts old new stream none plays there = absurd none
fed_keeps conn who read dropped (event.Piece other piece ∷ []) more [] rest nexts old new stream none plays there = absurd none
fed_keeps conn who read dropped (event.Piece other piece ∷ []) more (outcome.Begun result ∷ outcomes) rest nexts old new stream none plays there = absurd none
fed_keeps conn who read dropped (event.Piece other piece ∷ []) more (outcome.Answered result ∷ outcomes) rest nexts old new stream none plays there = absurd none
fed_keeps conn who read dropped (event.Piece other piece ∷ []) more (outcome.Finished result ∷ outcomes) rest nexts old new stream none plays there = absurd none
fed_keeps conn who read dropped (event.Piece other piece ∷ []) more (outcome.Held (Ok done) ∷ o ∷ outcomes) rest nexts old new stream none plays there = absurd none
fed_keeps conn who read dropped (event.Piece other piece ∷ []) more (outcome.Held (Err error) ∷ o ∷ outcomes) rest nexts old new stream none plays there = absurd none

-- behind those of an answer
abbrev HasAsked : Conn → Conn → Option Answer → List Event → List Outcome → List Event → List Outcome → List (Option Next) → Lines → Stream → Type 0
HasAsked conn who answer events outcomes more rest nexts new stream =
    (others : List (Option Next)) × (mid : Lines) × (exchanges : List (Message × Reply)) × Plays more rest others mid new × ComesTo conn who mid stream exchanges answer
    × (exchanges_on conn (events ++ more) nexts (outcomes ++ rest) ≡ exchanges ++ exchanges_on conn more others rest)

asked_keeps : (conn who : Conn) (answer : Option Answer) (events more : List Event) (outcomes rest : List Outcome) (nexts : List (Option Next)) (old new : Lines) (stream : Stream)
    → IsAsked who answer events outcomes → Plays (events ++ more) (outcomes ++ rest) nexts old new → IsOpen conn old stream
    → HasAsked conn who answer events outcomes more rest nexts new stream
asked_keeps conn who answer [] more [] rest nexts old new stream none plays there = (nexts, old, [], plays, not_answered conn who old old stream answer refl there none, refl)
asked_keeps conn who answer (event.Answer other moment ∷ []) more (outcome.Answered (Ok told) ∷ []) rest (Some given ∷ nexts) old new stream (same, is) (mid, does, plays) there = (
  nexts,
  mid,
  exchange_on conn (event.Answer other moment) (Some given) (outcome.Answered (Ok told)),
  plays,
  subst (λ (c : Conn). ComesTo conn c mid stream (exchange_on conn (event.Answer other moment) (Some given) (outcome.Answered (Ok told))) answer) same
      (subst (λ (a : Option Answer). ComesTo conn other mid stream (exchange_on conn (event.Answer other moment) (Some given) (outcome.Answered (Ok told))) a) (sym is)
      (was_answered conn other moment old mid given told stream does there)),
  refl,
)
asked_keeps conn who answer (event.Answer other moment ∷ []) more (outcome.Answered (Ok told) ∷ []) rest (None ∷ nexts) old new stream is (mid, none, plays) there = absurd none
asked_keeps conn who answer (event.Answer other moment ∷ []) more (outcome.Answered (Err error) ∷ []) rest (Some given ∷ nexts) old new stream is (mid, none, plays) there = absurd none
asked_keeps conn who answer (event.Answer other moment ∷ []) more (outcome.Answered (Err NoSuchConnection) ∷ []) rest (None ∷ nexts) old new stream is (mid, does, plays) there =
    (nexts, mid, [], plays, not_answered conn who old mid stream answer does.1 there is.1, refl)
asked_keeps conn who answer (event.Answer other moment ∷ []) more (outcome.Answered (Err Memory) ∷ []) rest (None ∷ nexts) old new stream is (mid, does, plays) there =
    (nexts, mid, [], plays, not_answered conn who old mid stream answer does.3 there is.1, refl)
asked_keeps conn who answer (event.Answer other moment ∷ []) more (outcome.Answered (Err TooManyConnections) ∷ []) rest (None ∷ nexts) old new stream is (mid, none, plays) there = absurd none
asked_keeps conn who answer (event.Answer other moment ∷ []) more (outcome.Answered (Err Full) ∷ []) rest (None ∷ nexts) old new stream is (mid, none, plays) there = absurd none
asked_keeps conn who answer (event.Answer other moment ∷ []) more (outcome.Answered (Ok told) ∷ []) rest [] old new stream is none there = absurd none
asked_keeps conn who answer (event.Answer other moment ∷ []) more (outcome.Answered (Err error) ∷ []) rest [] old new stream is none there = absurd none
asked_keeps conn who answer [] more (o ∷ outcomes) rest nexts old new stream none plays there = absurd none
asked_keeps conn who answer (event.Begin ∷ events) more outcomes rest nexts old new stream none plays there = absurd none
asked_keeps conn who answer (event.Piece other piece ∷ events) more outcomes rest nexts old new stream none plays there = absurd none
asked_keeps conn who answer (event.Finish other ∷ events) more outcomes rest nexts old new stream none plays there = absurd none
asked_keeps conn who answer (event.Answer other moment ∷ e ∷ events) more outcomes rest nexts old new stream none plays there = absurd none
asked_keeps conn who answer (event.Answer other moment ∷ []) more [] rest nexts old new stream none plays there = absurd none
asked_keeps conn who answer (event.Answer other moment ∷ []) more (outcome.Begun result ∷ outcomes) rest nexts old new stream none plays there = absurd none
asked_keeps conn who answer (event.Answer other moment ∷ []) more (outcome.Held result ∷ outcomes) rest nexts old new stream none plays there = absurd none
asked_keeps conn who answer (event.Answer other moment ∷ []) more (outcome.Finished result ∷ outcomes) rest nexts old new stream none plays there = absurd none
asked_keeps conn who answer (event.Answer other moment ∷ []) more (outcome.Answered (Ok told) ∷ o ∷ outcomes) rest nexts old new stream none plays there = absurd none
asked_keeps conn who answer (event.Answer other moment ∷ []) more (outcome.Answered (Err error) ∷ o ∷ outcomes) rest nexts old new stream none plays there = absurd none

-- ---- deeds, one after another

abbrev seconds : List (Message × Reply) → List Reply
seconds exchanges = map (λ exchange. exchange.1) exchanges

-- the replies are those to the messages; and if the session has ended before, there is none
abbrev Replied : Stream → List (Message × Reply) → List (Option Answer) → Type 0
Replied stream exchanges answers = AreReplies (seconds exchanges) (replies_in answers) × (stream.ended ≡ true → replies_in answers ≡ [])

both_none : (reply : Reply) (first : List Reply) → first ++ reply ∷ [] ≡ [] → ⊥
both_none reply [] none = cc
both_none reply (other ∷ first) none = cc

true_false : {b : Bool} → b ≡ true → b ≡ false → ⊥
true_false is isnt = cc

-- the replies to more answers
replies_on : (first later : List (Option Answer)) → replies_in (first ++ later) ≡ replies_in first ++ replies_in later
replies_on [] later = refl
replies_on (None ∷ first) later = replies_on first later
replies_on (Some answer ∷ first) later = ap (λ (rs : List Reply). answer.reply ∷ rs) (replies_on first later)

-- an answer, and those behind it
one_more : (stream after : Stream) (exchanges others : List (Message × Reply)) (mine answers : List (Option Answer)) → Comes stream after exchanges (replies_in mine)
    → Replied after others answers → Replied stream (exchanges ++ others) (mine ++ answers)
one_more stream after exchanges others mine answers (inl (none, nothing, same)) (are, ended) =
    let all : replies_in (mine ++ answers) ≡ replies_in answers = replies_on mine answers ∙ ap (λ (rs : List Reply). rs ++ replies_in answers) nothing in
    let exch : seconds (exchanges ++ others) ≡ seconds others = ap (λ (xs : List (Message × Reply)). seconds (xs ++ others)) none in (
      subst (λ (rs : List Reply). AreReplies (seconds (exchanges ++ others)) rs) (sym all) (subst (λ (xs : List Reply). AreReplies xs (replies_in answers)) (sym exch) are),
      λ over. all ∙ ended (same ∙ over),
    )
one_more stream after exchanges others mine answers (inr (inl (message, reply, one, its, on))) (are, ended) =
    let all : replies_in (mine ++ answers) ≡ reply ∷ replies_in answers = replies_on mine answers ∙ ap (λ (rs : List Reply). rs ++ replies_in answers) its in
    let exch : seconds (exchanges ++ others) ≡ reply ∷ seconds others = ap (λ (xs : List (Message × Reply)). seconds (xs ++ others)) one in (
      subst (λ (rs : List Reply). AreReplies (seconds (exchanges ++ others)) rs) (sym all)
          (subst (λ (xs : List Reply). AreReplies xs (reply ∷ replies_in answers)) (sym exch) (before reply (seconds others) (replies_in answers) are)),
      λ over. absurd (true_false over on),
    ) where
      before : (reply : Reply) (to_messages replies : List Reply) → AreReplies to_messages replies → AreReplies (reply ∷ to_messages) (reply ∷ replies)
      before reply to_messages replies (inl same) = inl (ap (λ (rs : List Reply). reply ∷ rs) same)
      before reply to_messages replies (inr (fault, same)) = inr (fault, ap (λ (rs : List Reply). reply ∷ rs) same)
one_more stream after exchanges others mine answers (inr (inr (fault, none, its, on, over))) (are, ended) =
    let nothing : replies_in answers ≡ [] = ended over in
    let all : replies_in (mine ++ answers) ≡ fault_reply fault ∷ [] = replies_on mine answers ∙ ap (λ (rs : List Reply). rs ++ replies_in answers) its ∙ ap (λ (rs : List Reply). fault_reply fault ∷ rs) nothing in
    let exch : seconds (exchanges ++ others) ≡ seconds others = ap (λ (xs : List (Message × Reply)). seconds (xs ++ others)) none in
    let empty : seconds others ≡ [] = no_messages (seconds others) (replies_in answers) are nothing in
    (inr (fault, all ∙ ap (λ (rs : List Reply). rs ++ fault_reply fault ∷ []) (sym (exch ∙ empty))), λ ends. absurd (true_false ends on)) where
      no_messages : (to_messages replies : List Reply) → AreReplies to_messages replies → replies ≡ [] → to_messages ≡ []
      no_messages to_messages replies (inl same) none = sym same ∙ none
      no_messages to_messages replies (inr (fault, same)) none = absurd (both_none (fault_reply fault) to_messages (sym same ∙ none))

abbrev RepliedBy : Conn → List Deed → List (Option Next) → Stream → Type 0
RepliedBy conn deeds nexts stream = Replied stream (exchanges_on conn (calls_of deeds).events nexts (calls_of deeds).outcomes) (answers_to conn deeds)

step_replied : (conn : Conn) (step : Step) (deeds : List Deed) (nexts : List (Option Next)) (old new : Lines) (stream : Stream)
    → IsFed step.conn step.read step.dropped step.fed.events step.fed.outcomes → IsAsked step.conn step.answer step.asked.events step.asked.outcomes
    → Plays (calls_of (steps step ∷ deeds)).events (calls_of (steps step ∷ deeds)).outcomes nexts old new → IsOpen conn old stream
    → ((others : List (Option Next)) (mid : Lines) (after : Stream) → Plays (calls_of deeds).events (calls_of deeds).outcomes others mid new → IsOpen conn mid after → RepliedBy conn deeds others after)
    → RepliedBy conn (steps step ∷ deeds) nexts stream
step_replied conn step deeds nexts old new stream is_fed is_asked plays there later =
    let E = (calls_of deeds).events in
    let O = (calls_of deeds).outcomes in
    let of_events = append_assoc step.fed.events step.asked.events E in
    let of_outcomes = append_assoc step.fed.outcomes step.asked.outcomes O in
    let regrouped : Plays (step.fed.events ++ (step.asked.events ++ E)) (step.fed.outcomes ++ (step.asked.outcomes ++ O)) nexts old new =
    subst (λ (es : List Event). Plays es (step.fed.outcomes ++ (step.asked.outcomes ++ O)) nexts old new) of_events
    (subst (λ (os : List Outcome). Plays (step.fed.events ++ step.asked.events ++ E) os nexts old new) of_outcomes plays) in
    let first = fed_keeps conn step.conn step.read step.dropped step.fed.events (step.asked.events ++ E) step.fed.outcomes (step.asked.outcomes ++ O) nexts old new stream is_fed regrouped there in
    let second = asked_keeps conn step.conn step.answer step.asked.events E step.asked.outcomes O first.0 first.1 new first.3.0 is_asked first.2 first.3.1 in
    let on = later second.0 second.1 second.4.0 second.3 second.4.1 in
    let mine : List (Option Answer) = if nat_eq step.conn.number conn.number then step.answer ∷ [] else [] in
    let all = one_more first.3.0 second.4.0 second.2 (exchanges_on conn E second.0 O) mine (answers_to conn deeds) second.4.2 on in
    let same : exchanges_on conn (step.fed.events ++ step.asked.events ++ E) nexts (step.fed.outcomes ++ step.asked.outcomes ++ O) ≡ second.2 ++ exchanges_on conn E second.0 O =
    ap (λ (es : List Event). exchanges_on conn es nexts (step.fed.outcomes ++ step.asked.outcomes ++ O)) of_events
    ∙ ap (λ (os : List Outcome). exchanges_on conn (step.fed.events ++ (step.asked.events ++ E)) nexts os) of_outcomes ∙ first.4 ∙ second.5 in
    subst (λ (xs : List (Message × Reply)). Replied stream xs (mine ++ answers_to conn deeds)) (sym same) (all.0, λ over. all.1 (first.3.2 ∙ over))

replied : (conn : Conn) (deeds : List Deed) (nexts : List (Option Next)) (lanes_old lanes_new : Lanes) (old new : Lines) (stream : Stream) → AreDone deeds lanes_old lanes_new
    → Plays (calls_of deeds).events (calls_of deeds).outcomes nexts old new → IsOpen conn old stream → LeaveOpen conn deeds → RepliedBy conn deeds nexts stream
replied conn [] nexts lanes_old lanes_new old new stream done plays there leave = (inl refl, λ over. refl)
replied conn (opens other access ∷ deeds) (given ∷ nexts) lanes_old lanes_new old new stream (lanes, is, done) (mid, does, plays) there (apart, leave) =
    replied conn deeds nexts lanes lanes_new mid new stream done plays (ap (line_at conn) does.1.1 ∙ set_other conn other old stream _ apart there) leave
replied conn (closes other reason ∷ deeds) (given ∷ nexts) lanes_old lanes_new old new stream (lanes, is, done) (mid, does, plays) there (apart, leave) =
    replied conn deeds nexts lanes lanes_new mid new stream done plays (ap (line_at conn) does.1.2 ∙ set_other conn other old stream None apart there) leave
replied conn (steps step ∷ deeds) nexts lanes_old lanes_new old new stream (lanes, (was, is, had, its, room, put), done) plays there (none, leave) =
    step_replied conn step deeds nexts old new stream its.fed its.asked plays there
    (λ others mid after more open_then. replied conn deeds others lanes lanes_new mid new after done more open_then leave)
replied conn (opens other access ∷ deeds) [] lanes_old lanes_new old new stream done none there leave = absurd none
replied conn (closes other reason ∷ deeds) [] lanes_old lanes_new old new stream done none there leave = absurd none

pub are_replies : (conn : Conn) (deeds : List Deed) (nexts : List (Option Next)) (lanes_old lanes_new : Lanes) (old new : Lines) (stream : Stream) → AreDone deeds lanes_old lanes_new
    → Plays (calls_of deeds).events (calls_of deeds).outcomes nexts old new → IsOpen conn old stream → LeaveOpen conn deeds
    → AreReplies (map (λ exchange. exchange.1) (exchanges_on conn (calls_of deeds).events nexts (calls_of deeds).outcomes)) (replies_in (answers_to conn deeds))
are_replies conn deeds nexts lanes_old lanes_new old new stream done plays there leave =
    (replied conn deeds nexts lanes_old lanes_new old new stream done plays there leave).0
