-- What stands at the front of a stream, from what the parser says of the window.
use Rattle.std.proofs.Common.{◌≡◌, ℕ, ◌+◌, ◌*◌, ◌<◌, ◌≤◌, List, [], ◌∷◌, ◌++◌, length, take, drop, map, refl, sym, ap, ◌∙◌, subst, arith, inr, Bool, Option, Some, None, Ok, Err, length-append, append_assoc}
use Rattle.std.specs.Prelude.{flat_map}
use Rattle.std.proofs.lemmas.List.{take-append-drop, drop-drop, length-take, length-take-le, drop-append-le}
use Rattle.std.proofs.lemmas.Simd.{map-map}
use Rattle.std.proofs.Math.Seq.{drop-append_seam}
use Rattle.httparse.specs.Grammar.{LineEnd, crlf, lf, print_end, print_field, print_blank, print_version, RequestHead, print_request, ReadsRequest}
use Rattle.httparse.specs.Grammar as grammar
use Rattle.httparse.proofs.GrammarLemmas.{ReadsRequest-append}
use Rattle.httparse.specs.Spans.{RequestExceeds, IsRequestOf, span_bytes, header_bytes, name_and_value}
use Rattle.httparse.specs.declared.spans.HeaderSpan.{HeaderSpan}
use Rattle.httparse.specs.declared.spans.RequestSpans.{RequestSpans}
use Rattle.xa_http.specs.declared.message.Field.{Field}
use Rattle.xa_http.specs.declared.message.Message.{Message}
use Rattle.xa_http.specs.declared.fault.SessionFault.{SessionFault}
use Rattle.xa_http.specs.declared.beginning.Head.{Head}
use Rattle.xa_http.specs.Length.{body_length}
use Rattle.xa_http.specs.Closing.{closes}
use Rattle.xa_http.specs.Messages.{window, fields_of, BeginsWithHead, BeginsWithMessage, BeginsWithSome, IsUnfinished, IsFaulty}
use Rattle.xa_http.specs.declared.open_head.OpenHead.{OpenHead}
use Rattle.xa_http.specs.parsing.OpenHead.{IsOpenHead}
use Rattle.xa_http.proofs.OpenHeadLemmas.{follows_on}
use Rattle.xa_http.specs.parsing.Front.{field_at, HasHead, IsHeadOf, KeepsHead}

-- a line end has a byte at least
end_fits : (e : LineEnd) → 1 ≤ length (print_end e)
end_fits crlf = omega arith
end_fits lf = omega arith

-- each field line has a colon and a line end
fields_fit : (fs : List grammar.Field) → 2 * length fs ≤ length (flat_map print_field fs)
fields_fit [] = omega arith
fields_fit (f ∷ fs) =
    let e : length (print_field f ++ flat_map print_field fs)
    ≡ length f.name + (1 + length f.raw) + length (print_end f.end) + length (flat_map print_field fs)
    = simp length-append (omega arith) in
    omega (arith, fields_fit fs, end_fits f.end, e)

-- so a head has two bytes a field at least
pub head_fits : (h : RequestHead) → 2 * length h.fields ≤ length (print_request h)
unfolding print_request
head_fits h =
    let before = print_blank h.blank ++ h.method ++ 32 ∷ h.target ++ 32 ∷ print_version h.minor ++ print_end h.line_end in
    let e : length (before ++ (flat_map print_field h.fields ++ print_end h.last))
    ≡ length before + (length (flat_map print_field h.fields) + length (print_end h.last))
    = simp length-append in
    omega (arith, fields_fit h.fields, e)

-- so no window holds a head of more fields than the room
pub too_many : (held : List ℕ) (room : ℕ) → 8192 ≤ room → RequestExceeds room (window held) → ⊥
unfolding window
too_many held room fits exceeds =
    let front = exceeds.0 in
    let rest = exceeds.1 in
    let h = exceeds.3 in
    let whole : take 16_384 held ≡ front ++ rest = exceeds.2 in
    let read : front ++ print_end lf ≡ print_request h ++ [] = exceeds.4.1 in
    omega (arith, fits, head_fits h, exceeds.5, length-take 16_384 held, simp length-append at (ap length whole), simp length-append at (ap length read))

-- the field line of a name and a value
field_from : List ℕ × List ℕ → Field
field_from p = record { name = p.0; value = p.1 }

-- the message whose parts the parser's spans cover is the head
pub head_read : (bytes : List ℕ) (headers : List HeaderSpan) (spans : RequestSpans) (method target body : List ℕ) (fields : List Field) (close : Bool)
    → IsRequestOf bytes headers spans → method ≡ span_bytes bytes spans.method → target ≡ span_bytes bytes spans.path
    → fields ≡ map (field_at bytes) (take spans.headers headers) → body ≡ [] → close ≡ closes spans.version fields
    → IsHeadOf bytes (record { method = method; target = target; fields = fields; body = body; close = close }) spans.len
unfolding field_from
head_read bytes headers spans method target body fields close found m t f e last =
    let h = found.0 in
    let at = found.1 in
    let covered : map (header_bytes bytes) (take spans.headers headers) ≡ map name_and_value h.fields = at.fields in
    let a : method ≡ h.method = m ∙ at.method in
    let b : target ≡ h.target = t ∙ at.path in
    let c : fields ≡ fields_of h
    = f ∙ sym (map-map field_from (header_bytes bytes) (take spans.headers headers))
    ∙ ap (map field_from) covered ∙ map-map field_from name_and_value h.fields in
    let d : close ≡ closes h.minor (fields_of h) = last ∙ ap (λ (k : ℕ). closes k fields) at.version ∙ ap (closes h.minor) c in
    (h, at.reads, at.len, λ i. record { method = a i; target = b i; fields = c i; body = e i; close = d i })

-- a head that begins the window begins the bytes held
pub begins : (held : List ℕ) (h : RequestHead) (len : ℕ) → ReadsRequest (window held) h (drop len (window held))
    → len ≡ length (print_request h) → BeginsWithHead held h (drop len held)
unfolding window
begins held h len reads is =
    let front = take 16_384 held in
    let rest = drop len front ++ drop 16_384 held in
    let split : front ++ drop 16_384 held ≡ held = take-append-drop 16_384 held in
    let read : front ≡ print_request h ++ drop len front = reads.1 in
    let whole : held ≡ print_request h ++ rest
    = sym split ∙ ap (λ (x : List ℕ). x ++ drop 16_384 held) read ∙ append_assoc (print_request h) (drop len front) (drop 16_384 held) in
    let after : drop len held ≡ rest = ap (λ (x : List ℕ). drop len x) whole ∙ ap (λ (k : ℕ). drop k (print_request h ++ rest)) is ∙ drop-append_seam (print_request h) rest in
    let same : held ≡ print_request h ++ drop len held = whole ∙ ap (λ (x : List ℕ). print_request h ++ x) (sym after) in
    ((reads.0, same), omega (arith, length-take 16_384 held, simp length-append at (ap length read)))

-- the head is whole, and its body is taken
pub has_head : (held : List ℕ) (message : Message) (len n : ℕ) → IsHeadOf (window held) message len
    → body_length message.fields ≡ Ok n → HasHead held (record { message = message; len = len; body_len = n })
unfolding HasHead
has_head held message len n found announced =
    let h = found.0 in
    (h, begins held h len found.1 found.2, found.2, ap (λ (m : Message). body_length m.fields) (sym found.3) ∙ announced, found.3)

-- the head is whole, and the body that it announces is not taken
pub head_faulty : (held : List ℕ) (message : Message) (len : ℕ) (fault : SessionFault) → IsHeadOf (window held) message len
    → body_length message.fields ≡ Err fault → IsFaulty held fault
unfolding IsFaulty
head_faulty held message len fault found announced =
    let h = found.0 in
    inr (h, drop len held, begins held h len found.1 found.2, ap (λ (m : Message). body_length m.fields) (sym found.3) ∙ announced)

-- the head is whole, and bytes of its body are wanted
pub body_open : (held : List ℕ) (head : Head) → HasHead held head → length (drop head.len held) < head.body_len → IsUnfinished held
unfolding IsUnfinished HasHead
body_open held head has short = inr (has.0, drop head.len held, head.body_len, has.1, has.3, short)

-- a head is no longer than what it begins
pub head_within : (held : List ℕ) (head : Head) → HasHead held head → head.len ≤ length held
unfolding HasHead
head_within held head has =
    let read : held ≡ print_request has.0 ++ drop head.len held = has.1.0.1 in
    omega (arith, has.2, simp length-append at (ap length read))

-- the head and its body are whole
pub whole : (held body : List ℕ) (head : Head) → HasHead held head → head.body_len ≤ length (drop head.len held)
    → body ≡ take head.body_len (drop head.len held)
    → BeginsWithMessage held (record head.message { body = body }) (drop (head.len + head.body_len) held)
unfolding BeginsWithMessage HasHead
whole held body head has enough is =
    let h = has.0 in
    let b = has.1 in
    let n = head.body_len in
    let after = drop head.len held in
    let count : length body ≡ n = ap length is ∙ length-take-le n after enough in
    let split : after ≡ body ++ drop (head.len + n) held
    = sym (take-append-drop n after) ∙ ap (λ (x : List ℕ). x ++ drop n after) (sym is) ∙ ap (λ (x : List ℕ). body ++ x) (drop-drop n head.len held) in (
      h,
      ((b.0.0, b.0.1 ∙ ap (λ (x : List ℕ). print_request h ++ x) split), b.1),
      has.3 ∙ ap (λ (k : ℕ). Ok k) (sym count),
      ap (λ (m : Message). record m { body = body }) has.4,
    )

-- so the bytes begin with a message
pub begins_whole : (held : List ℕ) (head : Head) → HasHead held head → head.body_len ≤ length (drop head.len held) → BeginsWithSome held
begins_whole held head has enough =
    let body = take head.body_len (drop head.len held) in
    (record head.message { body = body }, drop (head.len + head.body_len) held, whole held body head has enough refl)

-- bytes that follow leave a head that is kept as it was
kept_on : (held more : List ℕ) (head : Option Head) → KeepsHead held head → KeepsHead (held ++ more) head
unfolding HasHead
kept_on held more None kept = tt
kept_on held more (Some head) has =
    let on : drop head.len (held ++ more) ≡ drop head.len held ++ more = drop-append-le head.len held more (head_within held head has) in
    let reads : ReadsRequest (held ++ more) has.0 (drop head.len held ++ more) = ReadsRequest-append held has.0 (drop head.len held) more has.1.0 in
    (has.0, (subst (λ (rest : List ℕ). ReadsRequest (held ++ more) has.0 rest) (sym on) reads, has.1.1), has.2, has.3, has.4)

-- the same, of the bytes from a place on, and of a head that was followed
pub fed_on : (bytes piece new old : List ℕ) (start : ℕ) (head : Option Head) (opened : OpenHead) → start ≤ length bytes → new ≡ bytes ++ piece
    → drop start bytes ≡ old → KeepsHead old head → IsOpenHead old opened
    → (start ≤ length new) × KeepsHead (drop start new) head × IsOpenHead (drop start new) opened
fed_on bytes piece new old start head opened within more same kept followed =
    let held : drop start new ≡ old ++ piece
    = ap (drop start) more ∙ drop-append-le start bytes piece within ∙ ap (λ (x : List ℕ). x ++ piece) same in (
      omega (arith, within, simp length-append at (ap length more)),
      subst (λ (x : List ℕ). KeepsHead x head) (sym held) (kept_on old piece head kept),
      subst (λ (x : List ℕ). IsOpenHead x opened) (sym held) (follows_on old piece opened followed),
    )
