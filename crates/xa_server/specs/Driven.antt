-- What a connection is answered until it ends, and how its reader, its writer and the clock were called for it.
use Rattle.std.specs.Prelude.{◌≡◌, ◌≢◌, ◌<◌, ◌+◌, ◌⊎◌, ℕ, ℤ, Bool, true, false, List, [], ◌∷◌, ◌++◌, length, map}
use Rattle.std.specs.Prelude.{Option, Some, None, Err}
use Rattle.std.specs.Io.KnownBytes.{Appends, Consumes, IsAtEnd}
use Rattle.std.specs.List.{All}
use Rattle.std.specs.declared.io.ErrorKind.{ErrorKind}
use Rattle.std.specs.declared.io.ErrorKind.TheVariants.{Interrupted}
use Rattle.xa_http.specs.declared.fault.SessionFault.{SessionFault}
use Rattle.xa_http.specs.declared.message.Message.{Message}
use Rattle.xa_http.specs.declared.session.Next.TheVariants as next
use Rattle.xa_http.specs.Messages.{Cuts, IsFirst, IsNext}
use Rattle.xa_http.specs.Stream.{Stream, fed}
use Rattle.xa_records.specs.declared.refusal.Failure.TheVariants.{Store}
use Rattle.xa_records.specs.Keeper.{Custody}
use Rattle.xa_server.specs.declared.clock.Clock.{Ghosts as ClockGhosts}
use Rattle.xa_server.specs.declared.drive_end.DriveEnd.{DriveEnd}
use Rattle.xa_server.specs.declared.drive_end.DriveEnd.TheVariants.{Ended, ReadFault, WriteFault, NoClock, TooManyReads}
use Rattle.xa_server.specs.declared.drive_end.DriveEnd.TheVariants.{Memory, Shut}
use Rattle.xa_server.specs.declared.front.Front.{Front}
use Rattle.xa_server.specs.declared.connection.TakeError.TheVariants as refused
use Rattle.xa_server.specs.declared.lines.Conn.{Conn}
use Rattle.xa_server.specs.declared.replies.Reply.{Reply}
use Rattle.xa_server.specs.declared.replies.Reply.TheVariants.{Refused}
use Rattle.xa_server.specs.declared.writer.Writer.{Ghosts as WriterGhosts}
use Rattle.xa_server.specs.Alone.{Event, message_of, moment_of}
use Rattle.xa_server.specs.Connection.{TakesPiece, messages_of}
use Rattle.xa_server.specs.ErrorCode.{code_of_session_fault, error_reply}
use Rattle.xa_server.specs.Interruption.{ServesMessage}
use Rattle.xa_server.specs.Lines.{line_at, with_line}
use Rattle.xa_server.specs.Replies.{bytes_of}
use Rattle.xa_server.specs.Served.{may_go_on}
use Rattle.xa_server.specs.Serving.{AreServed, HaveServed}
use Rattle.xa_server.specs.Transfers.{Grows, IsReadOn, IsWritten, IsWrittenWhole, ReadEnd, WriteEnd, bytes_read}
use Rattle.xa_server.specs.Transfers.{bytes_taken, gave, unread}
use Rattle.xa_server.specs.World.{ServerModel}

-- ---- the calls

-- how the calls for a connection ended, one after another: the reads; the writes and flushes; and what the clock told
pub record Calls : Type 0 where
  pub reads : List ReadEnd
  pub writes : List WriteEnd
  pub told : List (Option ℤ)

-- what is known so far of the calls for a connection, and of the bytes that the reader has left and the writer holds
pub record Known : Type 0 where
  pub left : Option (List ℕ)
  pub reads : Option (List ReadEnd)
  pub contents : Option (List ℕ)
  pub writes : Option (List WriteEnd)
  pub told : Option (List (Option ℤ))

-- a `Known` by what a writer and a clock say, and by a reader, which has left these bytes and was read from so: an
-- answer has no reader, and so it holds whatever these are
abbrev pub seen_by : {W C : Type 0} → WriterGhosts W → ClockGhosts C → Option (List ℕ) → Option (List ReadEnd) → W → C
    → Known
seen_by writer_says clock_says left reads writer clock = record {
  left = left;
  reads = reads;
  contents = writer_says.contents writer;
  writes = writer_says.writes writer;
  told = clock_says.told clock;
}

-- what is known has grown by the calls, and by no others
pub record AreMade (calls : Calls) (known_old known_new : Known) : Type 0 where
  pub left : Consumes known_old.left known_new.left (bytes_read calls.reads)
  pub reads : Grows known_old.reads known_new.reads calls.reads
  pub contents : Appends known_old.contents known_new.contents (bytes_taken calls.writes)
  pub writes : Grows known_old.writes known_new.writes calls.writes
  pub told : Grows known_old.told known_new.told calls.told

-- the situation of a connection: its server, its stream, and what is known of the calls for it
pub record Situation (R : Type 0) : Type 0 where
  pub server : ServerModel R
  pub stream : Stream
  pub known : Known

-- the situation of a connection, by what is seen of all these
abbrev pub situation : {R W C : Type 0} → WriterGhosts W → ClockGhosts C → Option (List ℕ) → Option (List ReadEnd)
    → ServerModel R → Stream → W → C → Situation R
situation writer_says clock_says left reads server stream writer clock =
    record { server = server; stream = stream; known = seen_by writer_says clock_says left reads writer clock }

-- ---- replies, and what is wanted then

-- the replies were written, each whole and once, in order (RFC 9112, section 9.3.2), and each was flushed before the
-- next
abbrev pub AreSent : List (List ℕ) → List WriteEnd → Type 0
AreSent [] writes = writes ≡ []
AreSent (reply ∷ replies) writes =
    (first rest : List WriteEnd) × IsWrittenWhole reply first × AreSent replies rest × (writes ≡ first ++ rest)

-- a session holds no whole message, and wants more bytes
abbrev pub IsWaiting : Stream → Type 0
IsWaiting stream = IsNext stream next.More stream

-- ---- what came last

-- a read came last, and nothing else has changed
pub record ReadsLast {R : Type 0} (read : ReadEnd) (old new : Situation R) : Type 0 where
  pub left : Consumes old.known.left new.known.left (bytes_read (read ∷ []))
  pub reads : Grows old.known.reads new.known.reads (read ∷ [])
  pub same : new ≡ record old { known = record old.known { left = new.known.left; reads = new.known.reads } }

-- the clock told this last, and nothing else has changed
pub record TellsLast {R : Type 0} (told : Option ℤ) (old new : Situation R) : Type 0 where
  pub grows : Grows old.known.told new.known.told (told ∷ [])
  pub same : new ≡ record old { known = record old.known { told = new.known.told } }

-- the fault by which the stream ends came last; its reply was written whole or in part, and nothing else has changed
pub record FaultLast {R : Type 0} (whole : Bool) (old new : Situation R) : Type 0 where
  pub fault : SessionFault
  pub is_next : IsNext old.stream (next.Fault fault) new.stream
  pub written : IsWritten whole (error_reply (code_of_session_fault fault)) old.known.contents new.known.contents
      old.known.writes new.known.writes
  pub same : new ≡ record {
    server = old.server;
    stream = new.stream;
    known = record old.known { contents = new.known.contents; writes = new.known.writes };
  }

module _ {R : Type 0} (custody : R → Custody) where
  -- ---- messages that were answered

  -- the connection could go on after each of the replies, by the server behind it: after each refusal for want of
  -- storage the keeper was open
  abbrev pub WentOn : List Reply → List (ServerModel R) → Type 0
  WentOn (reply ∷ replies) (server ∷ servers) =
      (may_go_on reply (custody server.records).is_open ≡ true) × WentOn replies servers
  WentOn [] [] = Unit {0}
  WentOn _ _ = ⊥

  -- after so many reads, each with room for 65,536 bytes, messages were served one after another, each at the moment
  -- that the clock told for it and answered with one whole reply, and the connection goes on
  pub record HasAnswered (count : ℕ) (old new : Situation R) : Type 0 where
    pub calls : Calls
    pub events : List Event
    pub run : List Reply
    pub made : AreMade calls old.known new.known
    pub messages : Cuts (fed old.stream (bytes_read calls.reads)) (messages_of events) new.stream
    pub served : HaveServed custody old.server events run new.server
    pub read : All IsReadOn calls.reads
    pub counted : length calls.reads ≡ count
    pub told : calls.told ≡ map (λ event. Some (moment_of event)) events
    pub written : AreSent (map bytes_of run) calls.writes
    pub went_on : WentOn run served.0

  -- a message came last: it was served at the moment that the clock told, and its reply was written whole or in part
  pub record MessageLast (whole : Bool) (old new : Situation R) (event : Event) (reply : Reply) : Type 0 where
    pub first : IsFirst old.stream (message_of event) new.stream
    pub serves : ServesMessage custody old.server new.server event reply
    pub told : Grows old.known.told new.known.told (Some (moment_of event) ∷ [])
    pub written : IsWritten whole (bytes_of reply) old.known.contents new.known.contents old.known.writes
        new.known.writes
    pub left : new.known.left ≡ old.known.left
    pub reads : new.known.reads ≡ old.known.reads

  -- how a connection ended, when it might have been read from so often yet. `events` and `replies` are of the message
  -- that came last, unless the connection could have gone on after it: at `Ended` the session has ended by its last
  -- message or by a fault, or the stream has; at `NoClock` a message is whole, and there was no moment for it; at
  -- `Memory` it was wanted for a message or a fault, or for the piece that was read last; and at `Shut` a message was
  -- refused for want of storage, and the keeper isn't open
  abbrev pub Ends : DriveEnd → ℕ → Situation R → Situation R → List Event → List Reply → Type 0
  Ends Ended spare old new [] [] =
      ((new ≡ old) × (old.stream.ended ≡ true))
      ⊎ (FaultLast true old new
      ⊎ (ReadsLast (gave 65_536 []) old new × IsWaiting old.stream × IsAtEnd new.known.left × (0 < spare)))
  Ends ReadFault spare old new [] [] =
      (kind : ErrorKind) × (kind ≢ Interrupted) × ReadsLast (unread kind) old new × IsWaiting old.stream × (0 < spare)
  Ends TooManyReads spare old new [] [] = (new ≡ old) × IsWaiting old.stream × (spare ≡ 0)
  Ends WriteFault spare old new [] [] = FaultLast false old new
  Ends WriteFault spare old new (event ∷ []) (reply ∷ []) = MessageLast false old new event reply
  Ends NoClock spare old new [] [] =
      (message : Message) × (rest : Stream) × IsFirst old.stream message rest × TellsLast None old new
  Ends Memory spare old new [] [] =
      (new ≡ old)
      ⊎ (((moment : ℤ) × TellsLast (Some moment) old new)
      ⊎ ((piece : List ℕ) × IsReadOn (gave 65_536 piece) × ReadsLast (gave 65_536 piece) old new
      × IsWaiting old.stream × TakesPiece piece old.stream (Err refused.Memory) new.stream × (0 < spare)))
  Ends Shut spare old new (event ∷ []) (reply ∷ []) =
      MessageLast true old new event reply × (reply ≡ Refused Store)
      × ((custody new.server.records).is_open ≡ false)
  Ends _ spare old new _ _ = ⊥

  -- ---- a connection

  -- a connection was driven to its end, with at most so many reads: messages at the front of what it held and was read
  -- were answered, and then it ended. All were served one after another: they are one run of the server, in which each
  -- domain's replies are those of its own machine, used by it alone
  pub record IsDrivenWithin (most : ℕ) (end : DriveEnd) (old new : Situation R) : Type 0 where
    pub count : ℕ
    pub spare : ℕ
    pub left : Situation R
    pub last_events : List Event
    pub last_replies : List Reply
    pub all : count + spare ≡ most
    pub goes : HasAnswered count old left
    pub ends : Ends end spare left new last_events last_replies
    pub served : AreServed custody old.server new.server (goes.events ++ last_events) (goes.run ++ last_replies)

  -- `IsDrivenWithin` 1,000,000 reads, of a connection of a front that is open with that stream; it stays open, and no
  -- other connection has changed. One that isn't open has ended, and nothing was done
  abbrev pub IsConnectionOf : Option Stream → DriveEnd → Conn → Front R → Front R → Known → Known → Type 0
  IsConnectionOf (Some stream) end conn old new known_old known_new =
      (after : Stream) × (new.lines ≡ with_line conn (Some after) old.lines)
      × IsDrivenWithin 1_000_000 end (record { server = old.server; stream = stream; known = known_old })
      (record { server = new.server; stream = after; known = known_new })
  IsConnectionOf None end conn old new known_old known_new = (end ≡ Ended) × (new ≡ old) × (known_new ≡ known_old)

  -- `IsConnectionOf` the connection of a front
  abbrev pub IsConnection : DriveEnd → Conn → Front R → Front R → Known → Known → Type 0
  IsConnection end conn old new known_old known_new =
      IsConnectionOf (line_at conn old.lines) end conn old new known_old known_new
