-- What the bytes of an entry are answered, and what is written of the replies.
use Rattle.std.specs.Prelude.{◌≡◌, ℕ, ℤ, List, ◌++◌, length, map, Option, codes, decimal}
use Rattle.std.specs.List.{flat_map}
use Rattle.xa_http.specs.declared.message.Message.{Message}
use Rattle.xa_http.specs.declared.fault.SessionFault.{SessionFault}
use Rattle.xa_http.specs.Stream.{Stream}
use Rattle.xa_records.specs.Keeper.{Custody}
use Rattle.xa_server.specs.declared.replies.Reply.{Reply}
use Rattle.xa_server.specs.Alone.{Event}
use Rattle.xa_server.specs.Connection.{HasMessages, all_replies}
use Rattle.xa_server.specs.Serving.{AreServed}
use Rattle.xa_server.specs.World.{ServerModel}

-- the messages, each at that moment
abbrev pub events_at : ℤ → List Message → List Event
events_at moment messages = map (λ message. (moment, message)) messages

-- what is written of a reply: a line of its connection and the count of its bytes, the bytes, and a line feed
abbrev pub reply_entry : ℕ → List ℕ → List ℕ
reply_entry connection bytes =
    decimal connection ++ codes " " ++ decimal (length bytes) ++ codes "\n" ++ bytes ++ codes "\n"

-- the replies to a connection, one after another
abbrev pub reply_entries : ℕ → List (List ℕ) → List ℕ
reply_entries connection replies = flat_map (reply_entry connection) replies

-- the replies to what a stream holds: those of a run of the server on the whole messages, each at that moment, and
-- after them the reply to the fault by which it ends, if it does
pub record IsStreamAnswered {R : Type 0} (custody : R → Custody) (moment : ℤ) (old new : ServerModel R)
    (stream after : Stream) (replies : List (List ℕ)) : Type 0 where
  pub messages : List Message
  pub fault : Option SessionFault
  pub run : List Reply
  pub has_messages : HasMessages stream messages fault after
  pub are_one : AreServed custody old new (events_at moment messages) run
  pub are_all : replies ≡ all_replies run fault
