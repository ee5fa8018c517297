-- How a connection is driven: one read, one reply, and what is known of its messages and of its end.
use Rattle.std.specs.Prelude.{◌≡◌, ◌≢◌, ℕ, Bool, true, false, List, [], ◌∷◌, Option, Result, Ok, Err}
use Rattle.std.specs.Io.KnownBytes.{Consumes, IsAtEnd}
use Rattle.std.specs.declared.io.ErrorKind.{ErrorKind}
use Rattle.std.specs.declared.io.ErrorKind.TheVariants.{Interrupted}
use Rattle.xa_http.specs.Stream.{Stream, fed}
use Rattle.xa_records.specs.Keeper.{Custody}
use Rattle.xa_server.specs.Alone.{Event}
use Rattle.xa_server.specs.Connection.{TakesPiece}
use Rattle.xa_server.specs.declared.drive_end.DriveEnd.{DriveEnd}
use Rattle.xa_server.specs.declared.drive_end.DriveEnd.TheVariants.{Ended, ReadFault, WriteFault, Memory, Shut}
use Rattle.xa_server.specs.declared.connection.TakeError.TheVariants as refused
use Rattle.xa_server.specs.declared.replies.Reply.{Reply}
use Rattle.xa_server.specs.Driven.{Ends, HasAnswered, IsWaiting, Situation}
use Rattle.xa_server.specs.Serving.{HaveServed}
use Rattle.xa_server.specs.Transfers.{Grows, IsReadOn, ReadEnd, bytes_read, gave, unread}

-- ---- one read

-- how a connection has ended by a read, if it has, and what it then holds
abbrev pub IsReadAs : Result (Unit {0}) DriveEnd → ReadEnd → Option (List ℕ) → Stream → Stream → Type 0
IsReadAs (Ok _) read left old new = IsReadOn read × (new ≡ fed old (bytes_read (read ∷ [])))
IsReadAs (Err Ended) read left old new = (read ≡ gave 65_536 []) × IsAtEnd left × (new ≡ old)
IsReadAs (Err ReadFault) read left old new =
    (kind : ErrorKind) × (kind ≢ Interrupted) × (read ≡ unread kind) × (new ≡ old)
IsReadAs (Err Memory) read left old new =
    (piece : List ℕ) × (read ≡ gave 65_536 piece) × IsReadOn read × TakesPiece piece old (Err refused.Memory) new
IsReadAs (Err _) read left old new = ⊥

-- a reader was read from once, and what it gave was handed over
pub record ReadsOnce (result : Result (Unit {0}) DriveEnd) (old new : Stream) (left_old left_new : Option (List ℕ))
    (reads_old reads_new : Option (List ReadEnd)) : Type 0 where
  pub read : ReadEnd
  pub left : Consumes left_old left_new (bytes_read (read ∷ []))
  pub reads : Grows reads_old reads_new (read ∷ [])
  pub is_read : IsReadAs result read left_new old new

-- ---- one answer

-- how a connection goes on after an answer, by whether its reply was written whole, whether it may go on after that
-- reply, and whether the answer is its last
abbrev pub IsSentAs : (Bool → Type 0) → Bool → Bool → Result (Unit {0}) DriveEnd → Type 0
IsSentAs written may_go_on last (Ok _) = written true × (may_go_on ≡ true) × (last ≡ false)
IsSentAs written may_go_on last (Err Ended) = written true × (may_go_on ≡ true) × (last ≡ true)
IsSentAs written may_go_on last (Err Shut) = written true × (may_go_on ≡ false)
IsSentAs written may_go_on last (Err WriteFault) = written false
IsSentAs written may_go_on last _ = ⊥

module _ {R : Type 0} (custody : R → Custody) where
  -- a connection has ended, when it might have been read from so often yet: what came last, and how that was served
  pub record HasEnded (end : DriveEnd) (spare : ℕ) (old new : Situation R) : Type 0 where
    pub events : List Event
    pub replies : List Reply
    pub ends : Ends custody end spare old new events replies
    pub served : HaveServed custody old.server events replies new.server

  -- the next message was answered; or there is none yet, and nothing was done; or the connection has ended, maybe after
  -- a message, however often it might have been read from yet
  abbrev pub IsNextAnswered : Result Bool DriveEnd → Situation R → Situation R → Type 0
  IsNextAnswered (Ok true) old new = HasAnswered custody 0 old new
  IsNextAnswered (Ok false) old new = (new ≡ old) × IsWaiting new.stream
  IsNextAnswered (Err end) old new =
      (mid : Situation R) × HasAnswered custody 0 old mid × ((spare : ℕ) → HasEnded end spare mid new)
