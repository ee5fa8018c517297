-- The connections of a front, each with its stream.
use Rattle.std.specs.Prelude.{◌≡◌, ℕ, suc, List, [], ◌∷◌, replicate, slice_index_or, slice_set, Option, Some, None}
use Rattle.std.specs.Prelude.{option_map, Result, Ok, Err}
use Rattle.xa_http.specs.Stream.{Stream}
use Rattle.xa_server.specs.Connection.{TakesPiece, empty_stream}
use Rattle.xa_server.specs.declared.front_error.FrontError.{FrontError}
use Rattle.xa_server.specs.declared.front_error.FrontError.TheVariants.{Memory, NoSuchConnection}
use Rattle.xa_server.specs.declared.front_error.FrontError.TheVariants.{TooManyConnections}
use Rattle.xa_server.specs.declared.lines.Conn.{Conn}
use Rattle.xa_server.specs.declared.front_error.FrontError.TheVariants as refused
use Rattle.xa_server.specs.declared.connection.TakeError.{TakeError}
use Rattle.xa_server.specs.declared.connection.TakeError.TheVariants as take

-- the lines: the 64 connections by their numbers, the stream of each that is open
abbrev pub Lines : Type 0
Lines = List (Option Stream)

-- the lines of which none is open
abbrev pub none_open : Lines
none_open = replicate 64 None

-- the lines of which each is open, and nothing has come on it
abbrev pub all_open : Lines
all_open = replicate 64 (Some empty_stream)

-- the stream of a connection, if that is open
abbrev pub line_at : Conn → Lines → Option Stream
line_at conn lines = slice_index_or lines conn.number None

-- the lines with another stream at a connection, or with none
abbrev pub with_line : Conn → Option Stream → Lines → Lines
with_line conn line lines = slice_set lines conn.number line

-- a connection is open, with that stream
abbrev pub IsOpen : Conn → Lines → Stream → Type 0
IsOpen conn lines stream = line_at conn lines ≡ Some stream

-- the least number of which no connection is open
abbrev pub first_free : Lines → Option ℕ
first_free [] = None
first_free (None ∷ lines) = Some 0
first_free (Some _ ∷ lines) = option_map suc (first_free lines)

-- why a question about a connection isn't answered: it isn't open, or there is no memory
abbrev pub IsUnasked : Option Stream → FrontError → Type 0
IsUnasked None error = error ≡ NoSuchConnection
IsUnasked (Some stream) error = error ≡ Memory

-- a connection is opened by the least number of which none is open, and holds nothing; none can be if all 64 are open
abbrev pub IsOpened : Lines → Result Conn FrontError → Lines → Type 0
IsOpened old (Ok conn) new = (first_free old ≡ Some conn.number) × (new ≡ with_line conn (Some empty_stream) old)
IsOpened old (Err TooManyConnections) new = (first_free old ≡ None) × (new ≡ old)
IsOpened old (Err _) new = ⊥

-- the refusal of a call for which a connection didn't take a piece
abbrev pub refusal_of : TakeError → FrontError
refusal_of take.Memory = refused.Memory
refusal_of take.Full = refused.Full

-- a piece comes to a connection, and no other changes; or nothing is done, because it doesn't take it, or isn't open
abbrev pub IsHeld : Conn → List ℕ → Lines → Result (Unit {0}) FrontError → Lines → Type 0
IsHeld conn piece old (Ok done) new =
    (stream after : Stream) × IsOpen conn old stream × TakesPiece piece stream (Ok done) after
    × (new ≡ with_line conn (Some after) old)
IsHeld conn piece old (Err NoSuchConnection) new = (line_at conn old ≡ None) × (new ≡ old)
IsHeld conn piece old (Err error) new =
    (stream : Stream) × (why : TakeError) × IsOpen conn old stream × TakesPiece piece stream (Err why) stream
    × (error ≡ refusal_of why) × (new ≡ old)

-- a connection is closed, and its bytes are gone
abbrev pub IsClosed : Conn → Lines → Result (Unit {0}) FrontError → Lines → Type 0
IsClosed conn old (Ok _) new = (stream : Stream) × IsOpen conn old stream × (new ≡ with_line conn None old)
IsClosed conn old (Err NoSuchConnection) new = (line_at conn old ≡ None) × (new ≡ old)
IsClosed conn old (Err _) new = ⊥
