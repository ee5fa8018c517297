-- Which messages ask for a change, and whether the first of a stream does.
use Rattle.std.proofs.Common.{◌≡◌, Bool, true, false, ℕ, List, [], refl, sym, ap, ◌∙◌}
use Rattle.std.proofs.lemmas.Bool.{false≢true}
use Rattle.httparse.specs.Grammar.{RequestHead}
use Rattle.xa_http.specs.declared.beginning.Head.{Head}
use Rattle.xa_http.specs.declared.command.Command.{Command}
use Rattle.xa_http.specs.declared.command.Command.TheVariants as asks
use Rattle.xa_http.specs.declared.fault.SessionFault.{SessionFault}
use Rattle.xa_http.specs.declared.message.Message.{Message}
use Rattle.xa_http.specs.Changing.{TellsChange, asks_for_change, is_change}
use Rattle.xa_http.specs.Messages.{BeginsWithMessage, BeginsWithSome, IsFaulty, IsUnfinished, message_of}
use Rattle.xa_http.specs.parsing.Front.{HasHead}
use Rattle.xa_http.specs.Routes.{route_of, route_to}
use Rattle.xa_http.specs.Stream.{Stream}
use Rattle.xa_http.specs.Table.{changes}
use Rattle.xa_http.proofs.LawLemmas.{same_head, whole_not_faulty, whole_not_unfinished}

-- what a route asks for is what its command does
pub changes_to : (path : List ℕ) (command : Command) → is_change (route_to path command) ≡ changes command
changes_to path asks.Domains = refl
changes_to path (asks.Operator command) = refl
changes_to path asks.Decide = refl
changes_to path (asks.Domain command) = refl
changes_to path (asks.Document command) = refl

-- a body makes no difference
body_asks : (message : Message) (body : List ℕ) → asks_for_change (record message { body = body }) ≡ asks_for_change message
unfolding asks_for_change route_of
body_asks message body = refl

-- the first message asks for what its head does
pub head_asks : (held : List ℕ) (head : Head) (message : Message) (rest : List ℕ) → HasHead held head → BeginsWithMessage held message rest
    → asks_for_change message ≡ asks_for_change head.message
unfolding HasHead BeginsWithMessage
head_asks held head message rest has begins =
    let same = same_head held begins.0 has.0 _ _ begins.1 has.1 in
    ap asks_for_change begins.3
    ∙ ap (λ (h : RequestHead). asks_for_change (message_of h message.body)) same.0
    ∙ body_asks (message_of has.0 []) message.body
    ∙ ap asks_for_change (sym has.4)

-- no message is whole, so none asks for a change
pub none_asks : (stream : Stream) → stream.ended ≡ true → TellsChange stream false
none_asks stream ended = λ message rest first. absurd (false≢true (sym first.0 ∙ ended))

pub unfinished_asks : (stream : Stream) → IsUnfinished stream.held → TellsChange stream false
unfinished_asks stream is = λ message rest first. absurd (whole_not_unfinished stream.held message rest.held first.1 is)

pub faulty_asks : (stream : Stream) (fault : SessionFault) → IsFaulty stream.held fault → TellsChange stream false
faulty_asks stream fault is = λ message rest first. absurd (whole_not_faulty stream.held message rest.held fault first.1 is)

-- one is, and its head was read
pub whole_asks : (stream : Stream) (head : Head) → stream.ended ≡ false → HasHead stream.held head → BeginsWithSome stream.held
    → TellsChange stream (asks_for_change head.message)
whole_asks stream head on has (message, rest, begins) = by_test (asks_for_change head.message) refl where
  by_test : (b : Bool) → asks_for_change head.message ≡ b → TellsChange stream b
  by_test true is = (message, record { held = rest; ended = message.close }, (on, begins, refl), head_asks stream.held head message rest has begins ∙ is)
  by_test false is = λ other behind first. head_asks stream.held head other behind.held has first.1 ∙ is
