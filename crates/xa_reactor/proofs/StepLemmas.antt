-- What one call of a front does for a connection, and what goes over a network one after another.
use denote.Ref.{Bor}
use Rattle.std.proofs.Common.{◌≡◌, ◌<◌, ◌⊎◌, inl, inr, Bool, ℕ, ℤ, zero, suc, List, [], ◌∷◌, ◌++◌, length, get_or, set-set, IsTrue, Option, Some, None, Result, Ok, Err, nat_eq, refl, sym, ap, subst, ◌∙◌, arith}
use Rattle.std.specs.Prelude.{if◌then◌else◌, IsSomeAnd, false, is_ok, true}
use Rattle.std.proofs.lemmas.Bool.{eq-eqb}
use Rattle.std.proofs.lemmas.List.{append-nil, append_assoc, get_or-set_same}
use Rattle.xa_http.specs.declared.session.Next.{Next}
use Rattle.xa_http.specs.Stream.{Stream}
use Rattle.xa_records.specs.Keeper.{Custody}
use Rattle.xa_server.specs.declared.connection.Answer.{Answer}
use Rattle.xa_server.specs.declared.event.Event.TheVariants as event
use Rattle.xa_server.specs.declared.event.Outcome.TheVariants as outcome
use Rattle.xa_server.specs.declared.front.Front.{Front}
use Rattle.xa_server.specs.declared.front_error.FrontError.{FrontError}
use Rattle.xa_server.specs.declared.front_error.FrontError.TheVariants.{Memory, NoSuchConnection, TooManyConnections, Full}
use Rattle.xa_server.specs.declared.lines.Conn.{Conn}
use Rattle.xa_server.specs.Front.{AnswersAt, AnswersLine}
use Rattle.xa_server.specs.Lines.{IsHeld, IsOpen, Lines, line_at, with_line}
use Rattle.xa_http.specs.Changing.{TellsChange}
use Rattle.xa_server.specs.TurningAway.{Handling, TurnsAwayAt, serves, serves_unchanging, turns_away}
use Rattle.xa_server.proofs.LineLemmas.{line_kept}
use Rattle.xa_server.proofs.PlayLemmas.{answer_played, unasked_played}
use Rattle.xa_server.proofs.TurningAwayLemmas.{beside_same, beside_turned, beside_unchanging}
use Rattle.xa_reactor.specs.declared.access.Access.{Access}
use Rattle.xa_reactor.specs.declared.access.Access.TheVariants.{All, Changes}
use Rattle.xa_reactor.specs.Step.{AreHandledBy, IsAsked, IsHandledBy, Lasts, no_calls}
use Rattle.xa_reactor.specs.Traffic.{AreAt, HasFailedIn, Traffic, failed, finished, received, received_at, seated, sent, sent_at, vacated}
use Rattle.xa_reactor.specs.handling.Going.{AreAll, Asks, Feeds, FeedsBy, answer_in}
use Rattle.xa_reactor.proofs.WorksLemmas.{makes_beside, makes_none, makes_one}

-- ---- what goes over a network

pub at_on : (place : ℕ) (xs ys : List Traffic) → AreAt place xs → AreAt place ys → AreAt place (xs ++ ys)
at_on place [] ys none there = there
at_on place (received other bytes ∷ xs) ys (here, others) there = (here, at_on place xs ys others there)
at_on place (sent other bytes ∷ xs) ys (here, others) there = (here, at_on place xs ys others there)
at_on place (failed other kind ∷ xs) ys (here, others) there = (here, at_on place xs ys others there)
at_on place (finished other ∷ xs) ys (here, others) there = (here, at_on place xs ys others there)
at_on place (seated other ∷ xs) ys none there = absurd none
at_on place (vacated other reason ∷ xs) ys none there = absurd none

pub received_on : (place : ℕ) (xs ys : List Traffic) → received_at place (xs ++ ys) ≡ received_at place xs ++ received_at place ys
received_on place [] ys = refl
received_on place (received other bytes ∷ xs) ys =
    ap (λ (l : List ℕ). (if nat_eq other place then bytes else []) ++ l) (received_on place xs ys)
    ∙ sym (append_assoc (if nat_eq other place then bytes else []) (received_at place xs) (received_at place ys))
received_on place (sent other bytes ∷ xs) ys = received_on place xs ys
received_on place (failed other kind ∷ xs) ys = received_on place xs ys
received_on place (seated other ∷ xs) ys = received_on place xs ys
received_on place (finished other ∷ xs) ys = received_on place xs ys
received_on place (vacated other reason ∷ xs) ys = received_on place xs ys

pub sent_on : (place : ℕ) (xs ys : List Traffic) → sent_at place (xs ++ ys) ≡ sent_at place xs ++ sent_at place ys
sent_on place [] ys = refl
sent_on place (received other bytes ∷ xs) ys = sent_on place xs ys
sent_on place (sent other bytes ∷ xs) ys =
    ap (λ (l : List ℕ). (if nat_eq other place then bytes else []) ++ l) (sent_on place xs ys)
    ∙ sym (append_assoc (if nat_eq other place then bytes else []) (sent_at place xs) (sent_at place ys))
sent_on place (failed other kind ∷ xs) ys = sent_on place xs ys
sent_on place (seated other ∷ xs) ys = sent_on place xs ys
sent_on place (finished other ∷ xs) ys = sent_on place xs ys
sent_on place (vacated other reason ∷ xs) ys = sent_on place xs ys

same_number : (n : ℕ) → nat_eq n n ≡ true
same_number n = eq-eqb n n refl

-- what was read here is all of it
pub received_here : (place : ℕ) (bytes : List ℕ) → received_at place (received place bytes ∷ []) ≡ bytes
received_here place bytes = rw (same_number place) (append-nil bytes)

-- a failure, before others and behind them
pub failed_before : (xs ys : List Traffic) → HasFailedIn xs → HasFailedIn (xs ++ ys)
failed_before [] ys none = absurd none
failed_before (failed place kind ∷ xs) ys (inl here) = inl here
failed_before (failed place kind ∷ xs) ys (inr later) = inr (failed_before xs ys later)
failed_before (sent place [] ∷ xs) ys is = tt
failed_before (sent place (b ∷ bytes) ∷ xs) ys is = failed_before xs ys is
failed_before (received place bytes ∷ xs) ys is = failed_before xs ys is
failed_before (seated place ∷ xs) ys is = failed_before xs ys is
failed_before (finished place ∷ xs) ys is = failed_before xs ys is
failed_before (vacated place reason ∷ xs) ys is = failed_before xs ys is

pub failed_behind : (xs ys : List Traffic) → HasFailedIn ys → HasFailedIn (xs ++ ys)
failed_behind [] ys is = is
failed_behind (failed place kind ∷ xs) ys is = inr (failed_behind xs ys is)
failed_behind (sent place [] ∷ xs) ys is = tt
failed_behind (sent place (b ∷ bytes) ∷ xs) ys is = failed_behind xs ys is
failed_behind (received place bytes ∷ xs) ys is = failed_behind xs ys is
failed_behind (seated place ∷ xs) ys is = failed_behind xs ys is
failed_behind (finished place ∷ xs) ys is = failed_behind xs ys is
failed_behind (vacated place reason ∷ xs) ys is = failed_behind xs ys is

-- ---- a connection stays open

within : (n : ℕ) (lines : Lines) (stream : Stream) → get_or lines n None ≡ Some stream → n < length lines
within n [] stream there = let e : None ≡ Some stream = there in absurd cc
within zero (line ∷ lines) stream there = omega arith
within (suc n) (line ∷ lines) stream there = omega (arith, within n lines stream there)

-- nothing was done
pub lasts_none : (conn : Conn) (lines : Lines) → Lasts conn lines lines
lasts_none conn lines = λ stream opens. (stream, sym (line_kept conn lines (with_line conn (Some stream) lines) stream stream opens refl refl))

pub lasts_same : (conn : Conn) (old new : Lines) → new ≡ old → Lasts conn old new
lasts_same conn old new same = subst (λ (l : Lines). Lasts conn old l) (sym same) (lasts_none conn old)

-- something else is there
pub lasts_put : (conn : Conn) (old new : Lines) (after : Stream) → new ≡ with_line conn (Some after) old → Lasts conn old new
lasts_put conn old new after put = λ stream opens. (after, put)

-- it wasn't open
pub lasts_shut : (conn : Conn) (old new : Lines) → line_at conn old ≡ None → Lasts conn old new
lasts_shut conn old new none = λ stream opens. absurd (shut stream opens) where
  shut : (stream : Stream) → IsOpen conn old stream → ⊥
  shut stream opens = let e : None ≡ Some stream = sym none ∙ opens in cc

-- one after another
pub lasts_on : (conn : Conn) (old mid new : Lines) → Lasts conn old mid → Lasts conn mid new → Lasts conn old new
lasts_on conn old mid new first later = λ stream opens.
    let was = first stream opens in
    let there : IsOpen conn mid was.0 =
    ap (line_at conn) was.1 ∙ get_or-set_same old conn.number (Some was.0) None (within conn.number old stream opens) in
    let is = later was.0 there in
    (is.0, is.1 ∙ ap (λ (l : Lines). with_line conn (Some is.0) l) was.1 ∙ set-set old conn.number (Some was.0) (Some is.0))

-- ---- one call

lasts_held : (conn : Conn) (piece : List ℕ) (old new : Lines) (result : Result (Unit {0}) FrontError) → IsHeld conn piece old result new → Lasts conn old new
lasts_held conn piece old new (Ok done) (stream, after, opens, takes, put) = lasts_put conn old new after put
lasts_held conn piece old new (Err NoSuchConnection) (none, same) = lasts_same conn old new same
lasts_held conn piece old new (Err Memory) (stream, why, opens, takes, by, same) = lasts_same conn old new same
lasts_held conn piece old new (Err Full) (stream, why, opens, takes, by, same) = lasts_same conn old new same
lasts_held conn piece old new (Err TooManyConnections) (stream, why, opens, takes, by, same) = lasts_same conn old new same

lasts_answered : (conn : Conn) (old new : Lines) (given : Option Next) (result : Result (Option Answer) FrontError) → AnswersAt conn old given result new → Lasts conn old new
lasts_answered conn old new (Some given) (Ok answer) is = lasts_put conn old new is.1 is.7
lasts_answered conn old new None (Err NoSuchConnection) is = lasts_same conn old new is.1
lasts_answered conn old new None (Err Memory) is = lasts_same conn old new is.3
lasts_answered conn old new None (Err Full) none = absurd none
lasts_answered conn old new None (Err TooManyConnections) none = absurd none
lasts_answered conn old new None (Ok answer) none = absurd none
lasts_answered conn old new (Some given) (Err error) none = absurd none

module _ {R : Type 0} (custody : R → Custody) where
  module _ (is_open : (s : R) → (custody s).sound → IsTrue (custody s).is_open) where
    -- a piece was handed on: all of it came to the stream, or for want of memory none
    pub fed_piece : (conn : Conn) (piece : Bor (List ℕ)) (result : Result (Unit {0}) FrontError) (old new : Front R)
        → IsHeld conn piece.now old.lines result new.lines → new.server ≡ old.server
        → FeedsBy custody conn piece.now (is_ok result) old new
    fed_piece conn piece (Ok done) old new held same = record {
      feeds = record {
        read = piece.now;
        dropped = [];
        calls = record { hows = serves ∷ []; events = event.Piece conn piece ∷ []; outcomes = outcome.Held (Ok done) ∷ [] };
        served = (tt, tt);
        all = sym (append-nil piece.now);
        fed = (refl, refl, refl);
        makes =
            makes_one custody (event.Piece conn piece) (outcome.Held (Ok done)) old new
            (unasked_played custody is_open old new (event.Piece conn piece) (outcome.Held (Ok done)) (refl, held) same);
        lasts = lasts_held conn piece.now old.lines new.lines (Ok done) held;
      };
      kept = λ whole. refl;
    }
    fed_piece conn piece (Err error) old new held same = record {
      feeds = record {
        read = [];
        dropped = piece.now;
        calls = record { hows = serves ∷ []; events = event.Piece conn piece ∷ []; outcomes = outcome.Held (Err error) ∷ [] };
        served = (tt, tt);
        all = refl;
        fed = (refl, refl, refl);
        makes =
            makes_one custody (event.Piece conn piece) (outcome.Held (Err error)) old new
            (unasked_played custody is_open old new (event.Piece conn piece) (outcome.Held (Err error)) (refl, held) same);
        lasts = lasts_held conn piece.now old.lines new.lines (Err error) held;
      };
      kept = λ whole. absurd cc;
    }

    -- an answer is the call that is asked for by it
    asked_of : (conn : Conn) (moment : ℤ) (result : Result (Option Answer) FrontError)
        → IsAsked conn (answer_in result) (event.Answer conn moment ∷ []) (outcome.Answered result ∷ [])
    asked_of conn moment (Ok given) = (refl, refl)
    asked_of conn moment (Err error) = (refl, refl)

    -- an answer was asked for, and whatever its message asked for was served
    pub asked_next : (conn : Conn) (moment : ℤ) (result : Result (Option Answer) FrontError) (old new : Front R)
        → AnswersLine custody conn moment old result new → Asks custody conn (AreAll serves) (answer_in result) old new
    asked_next conn moment result old new line = record {
      calls = record { hows = serves ∷ []; events = event.Answer conn moment ∷ []; outcomes = outcome.Answered result ∷ [] };
      handled = (refl, tt);
      asked = asked_of conn moment result;
      makes =
          makes_one custody (event.Answer conn moment) (outcome.Answered result) old new
          (answer_played custody is_open conn moment old new result line);
      lasts = lasts_answered conn old.lines new.lines line.0 result line.1;
    }

    -- and its message asked for no change
    pub asked_unchanging : (conn : Conn) (moment : ℤ) (result : Result (Option Answer) FrontError) (old new : Front R)
        (stream : Stream) → IsOpen conn old.lines stream → TellsChange stream false
        → AnswersLine custody conn moment old result new
        → Asks custody conn (AreAll serves_unchanging) (answer_in result) old new
    asked_unchanging conn moment result old new stream opens tells line =
        record {
          calls = record { hows = serves_unchanging ∷ []; events = event.Answer conn moment ∷ []; outcomes = outcome.Answered result ∷ [] };
          handled = (refl, tt);
          asked = asked_of conn moment result;
          makes =
              makes_beside custody (record { hows = serves_unchanging ∷ []; events = event.Answer conn moment ∷ []; outcomes = outcome.Answered result ∷ [] }) old new
              (beside_unchanging custody old new conn moment result stream opens tells
              (answer_played custody is_open conn moment old new result line));
          lasts = lasts_answered conn old.lines new.lines line.0 result line.1;
        }

    -- nothing was handed on, and no answer was asked for, because there was nothing to; or it was dropped
    abbrev pub fed_none : (conn : Conn) (piece : List ℕ) (front : Front R) → Feeds custody conn piece front front
    fed_none conn piece front = record {
      read = [];
      dropped = piece;
      calls = no_calls;
      all = refl;
      fed = refl;
      served = tt;
      makes = makes_none custody is_open front;
      lasts = lasts_none conn front.lines;
    }

    pub asked_none : (conn : Conn) (are : List Handling → Type 0) (front : Front R) → are [] → Asks custody conn are None front front
    asked_none conn are front none = record { calls = no_calls; handled = none; asked = refl; makes = makes_none custody is_open front; lasts = lasts_none conn front.lines }

    -- what is the same in its connections and its server
    asked_same : (conn : Conn) (are : List Handling → Type 0) (old new : Front R) → are [] → new.lines ≡ old.lines → new.server ≡ old.server → Asks custody conn are None old new
    asked_same conn are old new none lines server = record {
      calls = no_calls;
      handled = none;
      asked = refl;
      makes = makes_beside custody no_calls old new (beside_same custody is_open old new lines server);
      lasts = lasts_same conn old.lines new.lines lines;
    }

    -- its message, which asks for a change, was turned away; or for want of memory nothing was done
    pub asked_away : (conn : Conn) (moment : ℤ) (result : Result (Option Answer) FrontError) (old new : Front R) (stream : Stream) → IsOpen conn old.lines stream → TellsChange stream true
        → TurnsAwayAt conn old.lines result new.lines → new.server ≡ old.server → Asks custody conn (AreAll turns_away) (answer_in result) old new
    asked_away conn moment (Ok (Some answer)) old new stream opens tells turns server = record {
      calls = record { hows = turns_away ∷ []; events = event.Answer conn moment ∷ []; outcomes = outcome.Answered (Ok (Some answer)) ∷ [] };
      handled = (refl, tt);
      asked = (refl, refl);
      makes =
          makes_beside custody (record { hows = turns_away ∷ []; events = event.Answer conn moment ∷ []; outcomes = outcome.Answered (Ok (Some answer)) ∷ [] }) old new
          (beside_turned custody is_open conn moment old new stream answer opens tells turns server);
      lasts = lasts_put conn old.lines new.lines turns.1 turns.5;
    }
    asked_away conn moment (Ok None) old new stream opens tells (was, there, none, lines) server = asked_same conn (AreAll turns_away) old new tt lines server
    asked_away conn moment (Err NoSuchConnection) old new stream opens tells (none, lines) server = asked_same conn (AreAll turns_away) old new tt lines server
    asked_away conn moment (Err Memory) old new stream opens tells (was, there, lines) server = asked_same conn (AreAll turns_away) old new tt lines server
    asked_away conn moment (Err TooManyConnections) old new stream opens tells none server = absurd none
    asked_away conn moment (Err Full) old new stream opens tells none server = absurd none

-- what is known of something that is there
pub some_and : {X : Type 0} (o : Option X) (P : X → Type 0) → IsSomeAnd o P → (x : X) × (o ≡ Some x) × P x
some_and None P none = absurd none
some_and (Some x) P it = (x, refl, it)

-- how it was handled, by the address at which its connection came
pub all_by : (access : Access) (how : Handling) (hows : List Handling) → IsHandledBy access how → AreAll how hows → AreHandledBy access hows
all_by access how [] by none = tt
all_by access how (one ∷ hows) by (same, are) = (subst (λ (h : Handling). IsHandledBy access h) (sym same) by, all_by access how hows by are)

-- what is known of how it was handled is so, too
pub asked_by : {R : Type 0} (custody : R → Custody) (conn : Conn) (are others : List Handling → Type 0) (answer : Option Answer) (old new : Front R)
    → ((hows : List Handling) → are hows → others hows) → Asks custody conn are answer old new → Asks custody conn others answer old new
asked_by custody conn are others answer old new so asks =
    record { calls = asks.calls; handled = so asks.calls.hows asks.handled; asked = asks.asked; makes = asks.makes; lasts = asks.lasts }

-- it was handled by the front as it was before
pub asked_from : {R : Type 0} (custody : R → Custody) (conn : Conn) (are : List Handling → Type 0) (answer : Option Answer) (old mid new : Front R) → mid ≡ old
    → Asks custody conn are answer mid new → Asks custody conn are answer old new
asked_from {R} custody conn are answer old mid new same asks = subst (λ (f : Front R). Asks custody conn are answer f new) same asks

-- what was told of a connection is so of it still
pub told_so : {R : Type 0} (conn : Conn) (asked now : Front R) (says told : Bool) → now ≡ asked → says ≡ told
    → IsSomeAnd (line_at conn asked.lines) (λ stream. TellsChange stream says) → IsSomeAnd (line_at conn now.lines) (λ stream. TellsChange stream told)
told_so {R} conn asked now says told same is tells =
    subst (λ (f : Front R). IsSomeAnd (line_at conn f.lines) (λ stream. TellsChange stream told)) (sym same)
    (subst (λ (b : Bool). IsSomeAnd (line_at conn asked.lines) (λ stream. TellsChange stream b)) is tells)

-- at the only address, and at that for changes, what comes is served
pub serves_by : (access : Access) → (access ≡ All) ⊎ (access ≡ Changes) → IsHandledBy access serves
serves_by access (inl is) = subst (λ (a : Access). IsHandledBy a serves) (sym is) tt
serves_by access (inr is) = subst (λ (a : Access). IsHandledBy a serves) (sym is) tt
