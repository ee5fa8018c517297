-- What the parser's offsets say of the bytes, and what stands at the front of a stream.
use Rattle.std.specs.Prelude.{◌≡◌, ℕ, List, [], length, drop, Option, Some, None, Ok}
use Rattle.httparse.specs.Grammar.{RequestHead, print_request, ReadsRequest}
use Rattle.httparse.specs.Spans.{span_bytes}
use Rattle.httparse.specs.declared.spans.HeaderSpan.{HeaderSpan}
use Rattle.xa_http.specs.declared.message.Field.{Field}
use Rattle.xa_http.specs.declared.message.Message.{Message}
use Rattle.xa_http.specs.declared.beginning.Head.{Head}
use Rattle.xa_http.specs.declared.beginning.Beginning.{Beginning}
use Rattle.xa_http.specs.declared.beginning.Beginning.TheVariants as beginning
use Rattle.xa_http.specs.Length.{body_length}
use Rattle.xa_http.specs.Messages.{message_of, fields_of, BeginsWithHead, IsUnfinished, IsFaulty}

-- the field line that the spans cover
abbrev pub field_at : List ℕ → HeaderSpan → Field
field_at bytes header = record { name = span_bytes bytes header.name; value = span_bytes bytes header.value }

-- the message is a head alone, that of the first len bytes of the window
abbrev pub IsHeadOf : List ℕ → Message → ℕ → Type 0
IsHeadOf bytes message len =
    (h : RequestHead) × ReadsRequest bytes h (drop len bytes) × (len ≡ length (print_request h))
    × (message ≡ message_of h [])

-- the bytes held begin with that head, and the body that it announces is taken
unfoldable pub HasHead : List ℕ → Head → Type 0
HasHead held head =
    (h : RequestHead) × BeginsWithHead held h (drop head.len held) × (head.len ≡ length (print_request h))
    × (body_length (fields_of h) ≡ Ok head.body_len) × (head.message ≡ message_of h [])

-- a head that was kept stands at the front of the bytes held
abbrev pub KeepsHead : List ℕ → Option Head → Type 0
KeepsHead held None = Unit {0}
KeepsHead held (Some head) = HasHead held head

-- what a stream begins with stands at the front of the bytes held
abbrev pub IsFront : List ℕ → Beginning → Type 0
IsFront held (beginning.Head head) = HasHead held head
IsFront held beginning.More = IsUnfinished held
IsFront held (beginning.Fault fault) = IsFaulty held fault
