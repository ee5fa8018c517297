-- The run of a reactor: turns, one after another; and what they come to for each connection.
use Rattle.std.specs.Prelude.{◌≡◌, ◌≢◌, ◌⊎◌, ℕ, true, List, [], ◌∷◌, ◌++◌, map, Option, Some, None, if◌then◌else◌}
use Rattle.std.specs.Prelude.{Bool, false, nat_eq}
use Rattle.std.specs.List.{Contains, flat_map}
use Rattle.std.specs.declared.time.Duration.{Duration}
use Rattle.xa_http.specs.declared.fault.SessionFault.{SessionFault}
use Rattle.xa_http.specs.declared.message.Message.{Message}
use Rattle.xa_http.specs.declared.session.Next.{Next}
use Rattle.xa_http.specs.Laws.{StopsAt}
use Rattle.xa_http.specs.Messages.{Cuts}
use Rattle.xa_http.specs.Stream.{Stream, fed}
use Rattle.xa_records.specs.Keeper.{Custody}
use Rattle.xa_server.specs.declared.connection.Answer.{Answer}
use Rattle.xa_server.specs.declared.front.Front.{Front}
use Rattle.xa_server.specs.declared.lines.Conn.{Conn}
use Rattle.xa_server.specs.declared.replies.Reply.{Reply}
use Rattle.xa_server.specs.declared.replies.Reply.TheVariants.{Sent}
use Rattle.xa_server.specs.ErrorCode.{code_of_session_fault, error_reply}
use Rattle.xa_server.specs.Front.{IsPlayed, Plays, front_is_sound}
use Rattle.xa_server.specs.FrontLaws.{exchanges_on}
use Rattle.xa_server.specs.Lines.{IsOpen, Lines}
use Rattle.xa_reactor.specs.declared.lane.Lane.{Lane}
use Rattle.xa_reactor.specs.Sending.{answer_bytes}
use Rattle.xa_reactor.specs.Step.{Calls, Works, joined}
use Rattle.xa_reactor.specs.Traffic.{Traffic, sent_at}
use Rattle.xa_reactor.specs.Turn.{AreDone, Deed, FitAll, IsTurn, Lanes, Turn, calls_of, closes, deeds_in, lane_at}
use Rattle.xa_reactor.specs.Turn.{no_lanes, opens, steps, traffic_of}

-- what was done in turns
abbrev pub deeds_of : List Turn → List Deed
deeds_of turns = flat_map deeds_in turns

-- turns were taken, one after another
abbrev pub AreTurns : List Turn → Lanes → Lanes → Type 0
AreTurns [] old new = new ≡ old
AreTurns (turn ∷ turns) old new = (mid : Lanes) × IsTurn turn old mid × AreTurns turns mid new

-- Connections were served at once, turn after turn, which came at one address, or at two; `begun` was done of a turn
-- that was broken off. All of their messages but those that were turned away, in the order in which they were cut off,
-- are one run of the server, with its headline beside refusals and its work (`Works`, by `IsPlayedBeside`). Nothing
-- else was read or written at any place.
pub record IsServedAtOnce {R N : Type 0} (custody : R → Custody) (done : N → Option (List Traffic)) (split : Bool)
    (front_old front_new : Front R) (network_old network_new : N) : Type 0 where
  pub turns : List Turn
  pub begun : List Deed
  pub mid : Lanes
  pub left : Lanes
  pub are_turns : AreTurns turns no_lanes mid
  pub are_done : AreDone begun mid left
  pub fit : FitAll split (deeds_of turns ++ begun)
  pub works : Works custody done (calls_of (deeds_of turns ++ begun)) (traffic_of (deeds_of turns ++ begun)) front_old
      front_new network_old network_new
  -- at one address no message is turned away: all of them are that run
  pub one : split ≡ false → IsPlayed custody front_old front_new (calls_of (deeds_of turns ++ begun)).events
      (calls_of (deeds_of turns ++ begun)).outcomes

-- the program was told to end: when a turn began that was known
abbrev pub AreToldToEnd : List Turn → Type 0
AreToldToEnd turns = (turn : Turn) × Contains turns turn × (turn.board.end ≡ true)

-- connections were served at once, turn after turn, until all had ended; and the program was told to end, or had been
-- before
pub record IsServedWhole {R N : Type 0} (custody : R → Custody) (done : N → Option (List Traffic))
    (split : Bool) (leaving : Option Duration) (front_old front_new : Front R) (network_old network_new : N)
    : Type 0 where
  pub turns : List Turn
  pub are_turns : AreTurns turns no_lanes no_lanes
  pub told : (leaving ≢ None) ⊎ AreToldToEnd turns
  pub fit : FitAll split (deeds_of turns)
  pub works : Works custody done (calls_of (deeds_of turns)) (traffic_of (deeds_of turns)) front_old front_new
      network_old network_new
  pub one : split ≡ false → IsPlayed custody front_old front_new (calls_of (deeds_of turns)).events
      (calls_of (deeds_of turns)).outcomes

-- ---- sittings

-- a deed neither opens nor closes the connection
abbrev pub LeavesOpen : Conn → Deed → Type 0
LeavesOpen conn (opens other access) = other.number ≢ conn.number
LeavesOpen conn (closes other reason) = other.number ≢ conn.number
LeavesOpen conn (steps step) = Unit {0}

-- none of them does: they are of one sitting of the connection, or of others
abbrev pub LeaveOpen : Conn → List Deed → Type 0
LeaveOpen conn [] = Unit {0}
LeaveOpen conn (deed ∷ deeds) = LeavesOpen conn deed × LeaveOpen conn deeds

-- the answers to a connection
abbrev pub answers_to : Conn → List Deed → List (Option Answer)
answers_to conn [] = []
answers_to conn (steps step ∷ deeds) =
    (if nat_eq step.conn.number conn.number then step.answer ∷ [] else []) ++ answers_to conn deeds
answers_to conn (_ ∷ deeds) = answers_to conn deeds

-- the bytes that came to a connection's stream
abbrev pub read_on : Conn → List Deed → List ℕ
read_on conn [] = []
read_on conn (steps step ∷ deeds) =
    (if nat_eq step.conn.number conn.number then step.read else []) ++ read_on conn deeds
read_on conn (_ ∷ deeds) = read_on conn deeds

-- the replies among answers
abbrev pub replies_in : List (Option Answer) → List Reply
replies_in [] = []
replies_in (None ∷ answers) = replies_in answers
replies_in (Some answer ∷ answers) = answer.reply ∷ replies_in answers

-- the reply to the fault by which a stream ends
abbrev pub fault_reply : SessionFault → Reply
fault_reply fault = Sent (error_reply (code_of_session_fault fault))

-- replies are those to the messages, in their order; behind them there may be one, to the fault by which the stream
-- ends
abbrev pub AreReplies : List Reply → List Reply → Type 0
AreReplies to_messages replies =
    (replies ≡ to_messages) ⊎ ((fault : SessionFault) × (replies ≡ to_messages ++ fault_reply fault ∷ []))

-- what a connection came to, in a sitting that goes on
pub record Sits (conn : Conn) (deeds : List Deed) (exchanges : List (Message × Reply)) (was : Lane) (stream : Stream)
    (lanes_new : Lanes) (lines_new : Lines) : Type 0 where
  pub lane : Lane
  pub after : Stream
  pub rest : Stream
  pub in_lane : lane_at conn.number lanes_new ≡ Some lane
  pub in_line : IsOpen conn lines_new after
  -- replies go out whole, once and in order: what was under way before, and the replies since, are what was sent since
  -- and what is under way
  pub sent : was.outgoing.left ++ flat_map answer_bytes (answers_to conn deeds)
      ≡ sent_at conn.number (traffic_of deeds) ++ lane.outgoing.left
  -- the messages are the first of its stream: of what it held before and of the bytes that came to it since; and it
  -- holds the rest
  pub cuts : Cuts (fed stream (read_on conn deeds)) (map (λ exchange. exchange.0) exchanges) rest
  pub stops : StopsAt rest after
  -- the k-th reply is that to the k-th message
  pub replies : AreReplies (map (λ exchange. exchange.1) exchanges) (replies_in (answers_to conn deeds))

-- the law: while a connection is open, it sits as `Sits` says, whatever is done for others
abbrev pub StreamsOfSittings : Type 0
StreamsOfSittings =
    (conn : Conn) (deeds : List Deed) (nexts : List (Option Next)) (lanes_old lanes_new : Lanes)
    (lines_old lines_new : Lines) (was : Lane) (stream : Stream)
    → AreDone deeds lanes_old lanes_new
    → Plays (calls_of deeds).events (calls_of deeds).outcomes nexts lines_old lines_new
    → lane_at conn.number lanes_old ≡ Some was → IsOpen conn lines_old stream → LeaveOpen conn deeds
    → Sits conn deeds (exchanges_on conn (calls_of deeds).events nexts (calls_of deeds).outcomes) was stream lanes_new
    lines_new

-- deeds and those behind them: what each did, and what sessions gave in each
pub record AreParts (deeds more : List Deed) (nexts : List (Option Next)) (lanes_old lanes_new : Lanes)
    (lines_old lines_new : Lines) : Type 0 where
  pub first : List (Option Next)
  pub later : List (Option Next)
  pub lanes : Lanes
  pub lines : Lines
  pub all : nexts ≡ first ++ later
  pub first_done : AreDone deeds lanes_old lanes
  pub later_done : AreDone more lanes lanes_new
  pub first_plays : Plays (calls_of deeds).events (calls_of deeds).outcomes first lines_old lines
  pub later_plays : Plays (calls_of more).events (calls_of more).outcomes later lines lines_new

-- the law: turns, and others after them, are turns, and their deeds are done one after another; deeds can be parted
-- anywhere, as where a connection is opened or closed; and what a front and a network did in both of two parts is what
-- they did in the first and then in the other
pub record TurnsGoOn {R N : Type 0} (custody : R → Custody) (done : N → Option (List Traffic)) : Type 0 where
  pub turns : (turns others : List Turn) (old mid new : Lanes) → AreTurns turns old mid → AreTurns others mid new
      → AreTurns (turns ++ others) old new
  pub deeds : (turns : List Turn) (old new : Lanes) → AreTurns turns old new → AreDone (deeds_of turns) old new
  pub parts : (deeds more : List Deed) (nexts : List (Option Next)) (lanes_old lanes_new : Lanes)
      (lines_old lines_new : Lines)
      → AreDone (deeds ++ more) lanes_old lanes_new
      → Plays (calls_of (deeds ++ more)).events (calls_of (deeds ++ more)).outcomes nexts lines_old lines_new
      → AreParts deeds more nexts lanes_old lanes_new lines_old lines_new
  pub works : (calls more : Calls) (traffic later : List Traffic) (front_old front_mid front_new : Front R)
      (network_old network_mid network_new : N)
      → (front_is_sound custody front_new → front_is_sound custody front_mid)
      → Works custody done calls traffic front_old front_mid network_old network_mid
      → Works custody done more later front_mid front_new network_mid network_new
      → Works custody done (joined calls more) (traffic ++ later) front_old front_new network_old network_new
