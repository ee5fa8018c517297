-- The messages of a connection, among the events of all.
use Rattle.std.proofs.Common.{◌≡◌, ◌≢◌, ◌⊎◌, inl, inr, ℕ, ◌<◌, zero, suc, Bool, true, false, List, [], ◌∷◌, ◌++◌}
use Rattle.std.proofs.Common.{length, get_or, set, option_map, IfSome, Option, Some, None, Ok, Err, nat_eq, refl, sym}
use Rattle.std.proofs.Common.{ap, subst, ◌∙◌, arith}
use Rattle.std.proofs.lemmas.Bool.Decides.{eqb_tells}
use Rattle.std.proofs.lemmas.List.{get_or-set_same, get_or-set_other, map-append}
use Rattle.std.specs.Prelude.{ℤ, eqb, map, if◌then◌else◌}
use Rattle.xa_http.specs.declared.message.Message.{Message}
use Rattle.xa_http.specs.declared.session.Next.{Next}
use Rattle.xa_http.specs.declared.session.Next.TheVariants as next
use Rattle.xa_http.specs.Laws.{GoesThrough, Step, answers, bytes_fed, feeds, messages_answered, with_answer}
use Rattle.xa_http.specs.Messages.{Cuts}
use Rattle.xa_http.specs.Stream.{Stream, fed}
use Rattle.xa_http.proofs.LawLemmas.{answers_first}
use Rattle.xa_server.specs.Connection.{answer_after, answer_of, empty_stream}
use Rattle.xa_server.specs.declared.connection.Answered.{Answered}
use Rattle.xa_server.specs.declared.connection.Answered.TheVariants as variant
use Rattle.xa_server.specs.declared.connection.Answer.{Answer}
use Rattle.xa_server.specs.declared.event.Event.{Event}
use Rattle.xa_server.specs.declared.event.Event.TheVariants as event
use Rattle.xa_server.specs.declared.event.Outcome.{Outcome}
use Rattle.xa_server.specs.declared.event.Outcome.TheVariants as outcome
use Rattle.xa_server.specs.declared.front_error.FrontError.TheVariants as error
use Rattle.xa_server.specs.declared.lines.Conn.{Conn}
use Rattle.xa_server.specs.declared.replies.Reply.{Reply}
use Rattle.xa_server.specs.Front.{AnswersAt, Does, Plays}
use Rattle.xa_server.specs.FrontLaws.{LeaveOpen, LeavesOpen, LinesAreStreams, exchange_on, exchanges_on, own_step}
use Rattle.xa_server.specs.FrontLaws.{step_on, steps_on}
use Rattle.xa_server.specs.Lines.{IsOpen, Lines, first_free, line_at, with_line}

-- ---- lines

-- a place with something has a number below the length
within : (n : ℕ) (lines : Lines) (stream : Stream) → get_or lines n None ≡ Some stream → n < length lines
within n [] stream there = let e : None ≡ Some stream = there in absurd cc
within zero (line ∷ lines) stream there = omega arith
within (suc n) (line ∷ lines) stream there = omega (arith, within n lines stream there)

-- a number that is free isn't that of a connection that is open
if_next : (found : Option ℕ) (P : ℕ → Type 0) → IfSome found (λ n. P (suc n)) → IfSome (option_map suc found) P
if_next None P is = tt
if_next (Some n) P is = is

free_none : (lines : Lines) → IfSome (first_free lines) (λ n. get_or lines n None ≡ None)
free_none [] = tt
free_none (None ∷ lines) = refl
free_none (Some stream ∷ lines) =
    if_next (first_free lines) (λ n. get_or (Some stream ∷ lines) n None ≡ None) (free_none lines)

-- a message has a reply
pub never_none : (answer : Answer) (answered : Answered) → answered ≡ variant.Reply answer → None ≡ answer_of answered
    → ⊥
never_none answer answered by none = let e : None ≡ Some answer = none ∙ ap answer_of by in cc

-- ---- one event

abbrev firsts : Message × Reply → Message
firsts exchange = exchange.0

-- what is known of a connection after events: it is open, its session went through their steps, and what it answered
-- are the messages of their exchanges
abbrev GoesOn : Conn → Lines → Stream → List Step → List (Message × Reply) → Type 0
GoesOn conn new stream steps exchanges =
    (after : Stream) × IsOpen conn new after × GoesThrough stream steps after
    × (map firsts exchanges ≡ messages_answered steps)

module _ (conn : Conn) (old mid : Lines) (stream : Stream) (there : IsOpen conn old stream) where
  -- nothing was done to it
  left : mid ≡ old → GoesOn conn mid stream [] []
  left same = (stream, ap (line_at conn) same ∙ there, refl, refl)

  elsewhere : (other : Conn) (line : Option Stream) → other.number ≢ conn.number → mid ≡ with_line other line old
      → IsOpen conn mid stream
  elsewhere other line apart put =
      ap (line_at conn) put
      ∙ get_or-set_other old other.number conn.number line None (λ same. apart (sym same)) ∙ there

  -- another connection was opened
  opened : (other : Conn) → first_free old ≡ Some other.number → mid ≡ with_line other (Some empty_stream) old
      → GoesOn conn mid stream [] []
  opened other free put =
      let none : get_or old other.number None ≡ None
      = subst (λ (found : Option ℕ). IfSome found (λ n. get_or old n None ≡ None)) free (free_none old) in
      let apart : other.number ≢ conn.number = λ same.
      let e : None ≡ Some stream = sym none ∙ ap (λ n. get_or old n None) same ∙ there in absurd cc in
      (stream, elsewhere other (Some empty_stream) apart put, refl, refl)

  -- a step was taken on a connection: this one, or another
  taken : (other : Conn) (was after : Stream) (step : Step) (exchanges : Bool → List (Message × Reply))
      → IsOpen other old was → mid ≡ with_line other (Some after) old → GoesThrough was (step ∷ []) after
      → map firsts (exchanges true) ≡ messages_answered (step ∷ []) → map firsts (exchanges false) ≡ []
      → GoesOn conn mid stream (own_step conn other step) (exchanges (nat_eq other.number conn.number))
  taken other was after step exchanges had put goes own none = by_number (eqb_tells other.number conn.number)
    where
      same_stream : {X : Type 0} {x y : X} → Some x ≡ Some y → x ≡ y
      same_stream e = cc

      by_number : ((eqb other.number conn.number ≡ true) × (other.number ≡ conn.number))
          ⊎ ((eqb other.number conn.number ≡ false) × (other.number ≢ conn.number))
          → GoesOn conn mid stream (own_step conn other step) (exchanges (nat_eq other.number conn.number))
      by_number (inl (test, same)) =
          let one : was ≡ stream = same_stream (sym had ∙ ap (λ n. get_or old n None) same ∙ there) in
          let opens : IsOpen conn mid after
          = ap (line_at conn) put ∙ ap (λ (n : ℕ). get_or (set old n (Some after)) conn.number None) same
          ∙ get_or-set_same old conn.number (Some after) None (within conn.number old stream there) in
          rw test (after, opens, subst (λ s. GoesThrough s (step ∷ []) after) one goes, own)
      by_number (inr (test, apart)) = rw test (stream, elsewhere other (Some after) apart put, refl, none)

  -- an answer on a connection
  asked : (other : Conn) (moment : ℤ) (given : Next) (answer : Option Answer)
      → AnswersAt other old (Some given) (Ok answer) mid
      → GoesOn conn mid stream (own_step conn other (answers given))
      (exchange_on conn (event.Answer other moment) (Some given) (outcome.Answered (Ok answer)))
  asked other moment (next.Message message) (Some answer) (was, after, made, had, is, given, by, put) =
      taken other was after (answers (next.Message message)) (λ b. if b then (message, answer.reply) ∷ [] else []) had
      put (after, is, refl) refl refl
  asked other moment (next.Message message) None (was, after, made, had, is, (reply, gives), by, put) =
      absurd (never_none (answer_after after reply) made gives by)
  asked other moment given answer (was, after, made, had, is, gives, by, put) =
      taken other was after (answers given) (λ b. []) had put (after, is, refl) refl refl

  -- an event leaves a connection that it doesn't close open
  one : (e : Event) (given : Option Next) (o : Outcome) → Does e old given o mid → LeavesOpen conn e
      → GoesOn conn mid stream (step_on conn e given o) (exchange_on conn e given o)
  one event.Begin given (outcome.Begun (Ok other)) (none, (free, put)) leaves = opened other free put
  one event.Begin given (outcome.Begun (Err error.TooManyConnections)) does leaves = left does.1.1
  one (event.Piece other piece) given (outcome.Held (Ok done)) (none, (was, after, had, (few, is), put)) leaves =
      taken other was after (feeds piece.now) (λ b. []) had put (sym is) refl refl
  one (event.Piece other piece) given (outcome.Held (Err error.NoSuchConnection)) does leaves = left does.1.1
  one (event.Piece other piece) given (outcome.Held (Err _)) does leaves = left does.1.5
  one (event.Answer other moment) (Some given) (outcome.Answered (Ok answer)) does leaves =
      asked other moment given answer does
  one (event.Answer other moment) None (outcome.Answered (Err error.NoSuchConnection)) does leaves = left does.1
  one (event.Answer other moment) None (outcome.Answered (Err error.Memory)) does leaves = left does.3
  one (event.Finish other) given (outcome.Finished (Ok done)) does leaves =
      (stream, elsewhere other None leaves does.1.2, refl, refl)
  one (event.Finish other) given (outcome.Finished (Err error.NoSuchConnection)) does leaves = left does.1.1
  one event.Begin given (outcome.Begun _) none leaves = absurd none.1
  one (event.Finish other) given (outcome.Finished _) none leaves = absurd none.1
  one _ given _ none leaves = absurd none

-- ---- one event after another

goes_on : (a b c : Stream) (first later : List Step) → GoesThrough a first b → GoesThrough b later c
    → GoesThrough a (first ++ later) c
goes_on a b c [] later same goes = subst (λ s. GoesThrough s later c) (sym same) goes
goes_on a b c (feeds piece ∷ first) later went goes = goes_on (fed a piece) b c first later went goes
goes_on a b c (answers given ∷ first) later (mid, is, went) goes =
    (mid, is, goes_on mid b c first later went goes)

joined : (given : Next) (first later : List Message)
    → with_answer given (first ++ later) ≡ with_answer given first ++ later
joined (next.Message message) first later = refl
joined _ first later = refl

answered_on : (first later : List Step)
    → messages_answered (first ++ later) ≡ messages_answered first ++ messages_answered later
answered_on [] later = refl
answered_on (feeds piece ∷ first) later = answered_on first later
answered_on (answers given ∷ first) later =
    ap (with_answer given) (answered_on first later)
    ∙ joined given (messages_answered first) (messages_answered later)

through : (conn : Conn) (events : List Event) (outcomes : List Outcome) (nexts : List (Option Next)) (old new : Lines)
    (stream : Stream) → Plays events outcomes nexts old new → IsOpen conn old stream → LeaveOpen conn events
    → GoesOn conn new stream (steps_on conn events nexts outcomes) (exchanges_on conn events nexts outcomes)
through conn [] [] [] old new stream same there leave = left conn old new stream there same
through conn (e ∷ events) (o ∷ outcomes) (given ∷ nexts) old new stream (mid, does, rest) there (leaves, leave) =
    let step = step_on conn e given o in
    let steps = steps_on conn events nexts outcomes in
    let more = exchanges_on conn events nexts outcomes in
    let first = one conn old mid stream there e given o does leaves in
    let later = through conn events outcomes nexts mid new first.0 rest first.1 leave in (
      later.0,
      later.1,
      goes_on stream first.0 later.0 step steps first.2 later.2,
      map-append firsts (exchange_on conn e given o) more ∙ ap (λ ms. ms ++ map firsts more) first.3
          ∙ ap (λ ms. messages_answered step ++ ms) later.3 ∙ sym (answered_on step steps),
    )
through conn _ _ _ old new stream none there leave = absurd none

pub lines_are : LinesAreStreams
lines_are conn events outcomes nexts old new stream plays there leave =
    let steps = steps_on conn events nexts outcomes in
    let on = through conn events outcomes nexts old new stream plays there leave in
    let first = answers_first stream steps on.0 on.2 in
    let cuts = subst (λ ms. Cuts (fed stream (bytes_fed steps)) ms first.0) (sym on.3) first.1 in
    (on.0, first.0, on.1, on.2, cuts, first.2)
