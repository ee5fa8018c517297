-- The bytes that come to a stream, and the messages that are cut off it, one after another.
use Rattle.std.proofs.Common.{◌≡◌, ℕ, List, [], ◌∷◌, ◌++◌, sym, subst}
use Rattle.std.proofs.lemmas.List.{append-nil, append_assoc}
use Rattle.xa_http.specs.declared.message.Message.{Message}
use Rattle.xa_http.specs.Messages.{Cuts}
use Rattle.xa_http.specs.Stream.{Stream, fed}

pub fed_twice : (s : Stream) (one two : List ℕ) → fed (fed s one) two ≡ fed s (one ++ two)
fed_twice s one two = λ i. record { held = append_assoc s.held one two i; ended = s.ended }

pub fed_nothing : (s : Stream) → fed s [] ≡ s
fed_nothing s = λ i. record { held = append-nil s.held i; ended = s.ended }

-- messages that are taken after others
pub cuts_trans : (a b c : Stream) (ms ns : List Message) → Cuts a ms b → Cuts b ns c → Cuts a (ms ++ ns) c
cuts_trans a b c [] ns same later = subst (λ (s : Stream). Cuts s ns c) (sym same) later
cuts_trans a b c (m ∷ ms) ns (mid, is, first) later = (mid, is, cuts_trans mid b c ms ns first later)
