-- What a connection is told by one answer after another.
use Rattle.std.specs.Prelude.{◌≡◌, ℕ, ℤ, ◌+◌, ◌≤◌, ◌⊎◌, Bool, true, false, List, length, Option, Some, None}
use Rattle.std.specs.Io.KnownBytes.{Appends}
use Rattle.xa_http.specs.declared.fault.SessionFault.{SessionFault}
use Rattle.xa_http.specs.declared.message.Message.{Message}
use Rattle.xa_http.specs.declared.session.Next.TheVariants as next
use Rattle.xa_http.specs.Messages.{Cuts, IsNext}
use Rattle.xa_http.specs.Stream.{Stream}
use Rattle.xa_records.specs.Keeper.{Custody}
use Rattle.xa_server.specs.declared.replies.Reply.{Reply}
use Rattle.xa_server.specs.Connection.{all_replies}
use Rattle.xa_server.specs.Serving.{AreServed}
use Rattle.xa_server.specs.World.{ServerModel}
use Rattle.pdpd.specs.declared.replay.heading.Heading.{Heading}
use Rattle.pdpd.specs.Entry.{events_at, reply_entries}

-- the stream stands where messages that were cut off leave it, or it has ended there by the fault
abbrev pub LeavesOff : Option SessionFault → Stream → Stream → Type 0
LeavesOff None last after = after ≡ last
LeavesOff (Some fault) last after = IsNext last (next.Fault fault) after

-- a part of what a stream held was answered: messages at its front, each at that moment, and after them the fault by
-- which it ends, if that was reached
pub record AreTold {R : Type 0} (custody : R → Custody) (moment : ℤ) (old new : ServerModel R)
    (stream after : Stream) (replies : List (List ℕ)) : Type 0 where
  pub messages : List Message
  pub fault : Option SessionFault
  pub run : List Reply
  pub last : Stream
  pub cuts : Cuts stream messages last
  pub are_one : AreServed custody old new (events_at moment messages) run
  pub ends : LeavesOff fault last after
  pub are_all : replies ≡ all_replies run fault

-- `AreTold`, and the replies were written
unfoldable pub IsToldAndWritten : {R : Type 0} → (R → Custody) → Heading → ServerModel R → ServerModel R → Stream
    → Stream → Option (List ℕ) → Option (List ℕ) → Type 0
IsToldAndWritten custody heading old new stream after before now =
    (replies : List (List ℕ)) × AreTold custody heading.moment old new stream after replies
    × Appends before now (reply_entries heading.connection replies)

-- how a stream stands after an answer: its session goes on, and another message may be whole; or it waits for more, or
-- its session has ended
unfoldable pub Stands : Bool → Stream → Type 0
Stands true stream = stream.ended ≡ false
Stands false stream = IsNext stream next.More stream ⊎ (stream.ended ≡ true)

-- a stream has room for a piece of 65,536 bytes, if its session goes on
unfoldable pub HasRoom : Stream → Type 0
HasRoom stream = stream.ended ≡ false → length stream.held + 65_536 ≤ 1_048_576
