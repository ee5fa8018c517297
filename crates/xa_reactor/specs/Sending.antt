-- The reply that is under way to a peer, and what is sent of it.
use Rattle.std.specs.Prelude.{◌≡◌, ◌⊎◌, ℕ, Bool, false, List, [], ◌++◌, length, Option, Some, None}
use Rattle.xa_server.specs.declared.connection.Answer.{Answer}
use Rattle.xa_server.specs.Replies.{bytes_of}
use Rattle.xa_server.specs.Transfers.{Grows}
use Rattle.xa_reactor.specs.declared.outgoing.Sending.{Sending}
use Rattle.xa_reactor.specs.declared.outgoing.Sending.TheVariants.{Went, Blocked, Broke}
use Rattle.xa_reactor.specs.Traffic.{AreAt, HasFailedIn, Traffic, received_at, sent_at}

-- ---- what is under way

-- a reply that is under way: what of it is left to be sent; how many bytes it has in all, which are held until the last
-- of them is sent; and whether it is the last of its connection
pub record UnderWay : Type 0 where
  pub left : List ℕ
  pub held : ℕ
  pub last : Bool

-- none is
abbrev pub none_under_way : UnderWay
none_under_way = record { left = []; held = 0; last = false }

-- the bytes of an answer's reply, if there is one
abbrev pub answer_bytes : Option Answer → List ℕ
answer_bytes None = []
answer_bytes (Some answer) = bytes_of answer.reply

-- whether an answer is the last of its connection
abbrev pub is_last : Option Answer → Bool
is_last None = false
is_last (Some answer) = answer.last

-- the reply of an answer, of which nothing is sent yet
abbrev pub under_way_of : Option Answer → UnderWay
under_way_of answer =
    record { left = answer_bytes answer; held = length (answer_bytes answer); last = is_last answer }

-- what is under way if a message is answered then, or if none is
abbrev pub then_under_way : UnderWay → Option Answer → UnderWay
then_under_way was None = was
then_under_way was (Some answer) = under_way_of (Some answer)

-- a reply is held whole, until all of it is sent and none is under way
abbrev pub IsHeldOn : UnderWay → UnderWay → Type 0
IsHeldOn old new = ((new.held ≡ old.held) × (new.last ≡ old.last)) ⊎ (new ≡ none_under_way)

-- ---- what is sent of it

-- how many bytes a write took
abbrev pub count_of : Sending → ℕ
count_of (Went count) = count
count_of Blocked = 0
count_of Broke = 0

-- if a write broke, it has failed
abbrev pub BreaksIn : Sending → List Traffic → Type 0
BreaksIn Broke traffic = HasFailedIn traffic
BreaksIn _ traffic = Unit {0}

-- one write took a part from the front of what was left, and the rest is left still
pub record IsSentOf (how : Sending) (place : ℕ) (old new : UnderWay) (done_old done_new : Option (List Traffic))
    : Type 0 where
  pub traffic : List Traffic
  pub there : AreAt place traffic
  pub nothing_read : received_at place traffic ≡ []
  pub balance : old.left ≡ sent_at place traffic ++ new.left
  pub counted : count_of how ≡ length (sent_at place traffic)
  pub held : new.held ≡ old.held
  pub last : new.last ≡ old.last
  pub breaks : BreaksIn how traffic
  pub grows : Grows done_old done_new traffic

-- What was sent, if a message was answered meanwhile or none was: all that was left goes before the reply to it, and of
-- that reply a part from its front was sent. So replies are sent whole, once and in order, each before the next message
-- is answered.
abbrev pub AreSent : List ℕ → Option Answer → List ℕ → List ℕ → Type 0
AreSent rest None sent left = rest ≡ sent ++ left
AreSent rest (Some answer) sent left =
    (part : List ℕ) × (sent ≡ rest ++ part) × (bytes_of answer.reply ≡ part ++ left)
