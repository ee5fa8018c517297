-- However a stream is cut into pieces, the messages at its front are the same.
use Rattle.std.proofs.Common.{◌≡◌, false, true, ℕ, ◌+◌, ◌-◌, ◌≤◌, List, [], ◌∷◌, ◌++◌, length, take, refl, sym, ap, subst, ◌∙◌, arith, inl, inr, Ok, Err, length-append, append_assoc, zero, suc}
use Rattle.std.proofs.lemmas.Bool.{false≢true}
use Rattle.std.proofs.lemmas.List.{append-nil, take-append-le, append_cancel_left}
use Rattle.std.proofs.Math.Seq.{take-append_seam, take-append-add}
use Rattle.httparse.specs.Grammar.{RequestHead, print_request, ReadsRequest, HasNoRequest, NeverHasRequest}
use Rattle.httparse.proofs.GrammarLemmas.{ReadsRequest-append, request_unique}
use Rattle.xa_http.specs.declared.message.Message.{Message}
use Rattle.xa_http.specs.declared.fault.SessionFault.{SessionFault}
use Rattle.xa_http.specs.declared.fault.SessionFault.TheVariants.{BadHead, BodyTooLarge, HeadTooLarge, TransferCoding}
use Rattle.xa_http.specs.declared.session.Next.TheVariants as next
use Rattle.xa_http.specs.Length.{body_length}
use Rattle.xa_http.specs.Stream.{Stream, fed}
use Rattle.xa_http.specs.Messages.{Cuts, IsFirst, window, message_of, fields_of, BeginsWithHead, BeginsWithMessage, IsUnfinished, IsOpeningFaulty, IsFaulty}
use Rattle.xa_http.specs.Laws.{KeepsMessages, KeepsFaults, FaultsAreFinal, AnswersMessages, FeedsOn, TakesOn, HasOneCut, feeds, answers, GoesThrough, bytes_fed, messages_answered, StopsAt, AnswersFirstMessages}

-- the front of more bytes begins with the front of those
front_of_more : (n : ℕ) (held more : List ℕ) → (rest : List ℕ) × (take n (held ++ more) ≡ take n held ++ rest)
front_of_more zero held more = ([], refl)
front_of_more (suc n) [] more = (take (suc n) more, refl)
front_of_more (suc n) (x ∷ xs) more = let r = front_of_more n xs more in (r.0, ap (λ (l : List ℕ). x ∷ l) r.1)

-- two splits of one list at one place are the same
same_split : (a b r q : List ℕ) → length a ≡ length b → a ++ r ≡ b ++ q → (a ≡ b) × (r ≡ q)
same_split a b r q l e =
    let front : a ≡ b = sym (take-append_seam a r) ∙ ap (λ (k : ℕ). take k (a ++ r)) l ∙ ap (λ (x : List ℕ). take (length b) x) e ∙ take-append_seam b q in
    (front, append_cancel_left b r q (ap (λ (x : List ℕ). x ++ r) (sym front) ∙ e))

-- a head at the front stays there
head_kept : (held more : List ℕ) (h : RequestHead) (after : List ℕ) → BeginsWithHead held h after → BeginsWithHead (held ++ more) h (after ++ more)
head_kept held more h after b = (ReadsRequest-append held h after more b.0, b.1)

-- a head at the front is whole in the window
head_in_window : (held : List ℕ) (h : RequestHead) (after : List ℕ) → BeginsWithHead held h after
    → (tail : List ℕ) × ReadsRequest (window held) h tail
unfolding window
head_in_window held h after b =
    let printed = print_request h in
    let left = 16_384 - length printed in
    let sum : 16_384 ≡ length printed + left = omega (arith, b.1) in (
      take left after,
      (b.0.0, ap (λ (x : List ℕ). take 16_384 x) b.0.1 ∙ ap (λ (k : ℕ). take k (printed ++ after)) sum ∙ take-append-add printed after left),
    )

-- so it is no opened one
head_not_open : (held : List ℕ) (h : RequestHead) (after : List ℕ) → BeginsWithHead held h after → HasNoRequest (window held) → ⊥
head_not_open held h after b none = let w = head_in_window held h after b in none h w.0 w.1

-- nor one that never can be
head_not_never : (held : List ℕ) (h : RequestHead) (after : List ℕ) → BeginsWithHead held h after → NeverHasRequest (window held) → ⊥
head_not_never held h after b never =
    let w = head_in_window held h after b in
    never [] h (w.0 ++ []) (ReadsRequest-append (window held) h w.0 [] w.1)

-- the window of at least as many bytes as it has stays
window_full : (held more : List ℕ) → 16_384 ≤ length held → window (held ++ more) ≡ window held
unfolding window
window_full held more full = take-append-le 16_384 held more full

-- bytes that follow change no certainty
never_kept : (held more : List ℕ) → NeverHasRequest (window held) → NeverHasRequest (window (held ++ more))
unfolding window
never_kept held more never = λ m h rest reads.
    let r = front_of_more 16_384 held more in
    let same : take 16_384 (held ++ more) ++ m ≡ take 16_384 held ++ (r.0 ++ m)
    = ap (λ (x : List ℕ). x ++ m) r.1 ∙ append_assoc (take 16_384 held) r.0 m in
    never (r.0 ++ m) h rest (reads.0, sym same ∙ reads.1)

pub keeps_messages : KeepsMessages
unfolding BeginsWithMessage
keeps_messages held more message rest begins =
    let h = begins.0 in
    let b = head_kept held more h (message.body ++ rest) begins.1 in
    (h, ((b.0.0, b.0.1 ∙ ap (λ (x : List ℕ). print_request h ++ x) (append_assoc message.body rest more)), b.1), begins.2, begins.3)

opening_kept : (held more : List ℕ) (fault : SessionFault) → IsOpeningFaulty held fault → IsOpeningFaulty (held ++ more) fault
opening_kept held more BadHead never = never_kept held more never
opening_kept held more HeadTooLarge opened =
    let same = window_full held more opened.1 in
    ((rw same opened.0.0, rw same opened.0.1), omega (arith, opened.1, length-append held more))
opening_kept held more TransferCoding none = absurd none
opening_kept held more BodyTooLarge none = absurd none

pub keeps_faults : KeepsFaults
unfolding IsFaulty
keeps_faults held more fault (inl opening) = inl (opening_kept held more fault opening)
keeps_faults held more fault (inr head) = inr (head.0, head.1 ++ more, head_kept held more head.0 head.1 head.2, head.3)

opening_not_whole : (held : List ℕ) (fault : SessionFault) (h : RequestHead) (after : List ℕ) → BeginsWithHead held h after → IsOpeningFaulty held fault → ⊥
opening_not_whole held BadHead h after b never = head_not_never held h after b never
opening_not_whole held HeadTooLarge h after b opened = head_not_open held h after b opened.0.0
opening_not_whole held TransferCoding h after b none = none
opening_not_whole held BodyTooLarge h after b none = none

-- the same head has the same bytes after it
pub same_head : (held : List ℕ) (h k : RequestHead) (after other : List ℕ) → BeginsWithHead held h after → BeginsWithHead held k other
    → (h ≡ k) × (after ≡ other)
same_head held h k after other b d = request_unique held h k after other b.0 d.0

same_message : (held : List ℕ) (m n : Message) (r q : List ℕ) → BeginsWithMessage held m r → BeginsWithMessage held n q → (m ≡ n) × (r ≡ q)
unfolding BeginsWithMessage
same_message held m n r q x y =
    let s = same_head held x.0 y.0 (m.body ++ r) (n.body ++ q) x.1 y.1 in
    let lengths : Ok (length m.body) ≡ Ok (length n.body) = sym x.2 ∙ ap (λ (h : RequestHead). body_length (fields_of h)) s.0 ∙ y.2 in
    let l : length m.body ≡ length n.body = cc in
    let split = same_split m.body n.body r q l s.1 in
    (x.3 ∙ ap (λ (h : RequestHead). message_of h m.body) s.0 ∙ ap (λ (b : List ℕ). message_of y.0 b) split.0 ∙ sym y.3, split.1)

pub whole_not_unfinished : (held : List ℕ) (m : Message) (r : List ℕ) → BeginsWithMessage held m r → IsUnfinished held → ⊥
unfolding BeginsWithMessage IsUnfinished
whole_not_unfinished held m r x (inl opened) = head_not_open held x.0 (m.body ++ r) x.1 opened.0.0
whole_not_unfinished held m r x (inr opened) =
    let s = same_head held x.0 opened.0 (m.body ++ r) opened.1 x.1 opened.3 in
    let lengths : Ok (length m.body) ≡ Ok opened.2 = sym x.2 ∙ ap (λ (h : RequestHead). body_length (fields_of h)) s.0 ∙ opened.4 in
    let l : length m.body ≡ opened.2 = cc in
    omega (arith, l, opened.5, ap length s.1, length-append m.body r)

pub whole_not_faulty : (held : List ℕ) (m : Message) (r : List ℕ) (fault : SessionFault) → BeginsWithMessage held m r → IsFaulty held fault → ⊥
unfolding BeginsWithMessage IsFaulty
whole_not_faulty held m r fault x (inl opening) = opening_not_whole held fault x.0 (m.body ++ r) x.1 opening
whole_not_faulty held m r fault x (inr head) =
    let s = same_head held x.0 head.0 (m.body ++ r) head.1 x.1 head.2 in
    let both : Ok (length m.body) ≡ Err fault = sym x.2 ∙ ap (λ (h : RequestHead). body_length (fields_of h)) s.0 ∙ head.3 in
    cc

pub faults_are_final : FaultsAreFinal
faults_are_final held more fault message rest faulty begins = whole_not_faulty (held ++ more) message rest fault begins (keeps_faults held more fault faulty)

pub answers_messages : AnswersMessages
answers_messages old message rest (next.Message other) new first is =
    let s = same_message old.held message other rest.held new.held first.1 is.1 in (
      ap (λ (m : Message). next.Message m) (sym s.0),
      λ i. record { held = sym s.1 i; ended = (is.2 ∙ ap (λ (m : Message). m.close) (sym s.0) ∙ sym first.2) i },
    )
answers_messages old message rest next.More new first is = absurd (whole_not_unfinished old.held message rest.held first.1 is.1)
answers_messages old message rest (next.Fault fault) new first is =
    absurd (whole_not_faulty old.held message rest.held fault first.1 is.1)
answers_messages old message rest next.Ended new first is = absurd (false≢true (sym first.0 ∙ is.0))

-- one stream has one first message, and goes on in one way
same_first : (stream : Stream) (m n : Message) (rest last : Stream) → IsFirst stream m rest → IsFirst stream n last → (m ≡ n) × (rest ≡ last)
same_first stream m n rest last x y =
    let s = same_message stream.held m n rest.held last.held x.1 y.1 in
    (s.0, λ i. record { held = s.1 i; ended = (x.2 ∙ ap (λ (k : Message). k.close) s.0 ∙ sym y.2) i })

pub feeds_on : FeedsOn
feeds_on first [] now piece cut = ap (λ (s : Stream). fed s piece) cut
feeds_on first (message ∷ taken) now piece cut =
    let is = cut.1 in (
      fed cut.0 piece,
      (is.0, keeps_messages first.held piece message cut.0.held is.1, is.2),
      feeds_on cut.0 taken now piece cut.2,
    )

pub takes_on : TakesOn
takes_on first [] now message rest cut is = (rest, subst (λ (s : Stream). IsFirst s message rest) (sym cut) is, refl)
takes_on first (one ∷ taken) now message rest cut is = (cut.0, cut.1, takes_on cut.0 taken now message rest cut.2 is)

pub one_cut : HasOneCut
one_cut stream [] [] rest last a ended b none = (refl, sym a ∙ b)
one_cut stream [] (n ∷ others) rest last a ended b none =
    absurd (ended n b.0 (subst (λ (s : Stream). IsFirst s n b.0) a b.1))
one_cut stream (m ∷ messages) [] rest last a ended b none =
    absurd (none m a.0 (subst (λ (s : Stream). IsFirst s m a.0) b a.1))
one_cut stream (m ∷ messages) (n ∷ others) rest last a ended b none =
    let same = same_first stream m n a.0 b.0 a.1 b.1 in
    let rests = one_cut a.0 messages others rest last a.2 ended (subst (λ (s : Stream). Cuts s others last) (sym same.1) b.2) none in
    (ap (λ (x : Message). x ∷ messages) same.0 ∙ ap (λ (xs : List Message). n ∷ xs) rests.0, rests.1)

-- a message of a stream stays its first
first_kept : (old : Stream) (message : Message) (new : Stream) (piece : List ℕ) → IsFirst old message new → IsFirst (fed old piece) message (fed new piece)
first_kept old message new piece is = (is.0, keeps_messages old.held piece message new.held is.1, is.2)

-- what a session answers after a fault is none of the stream's messages
after_fault : (stream : Stream) (piece : List ℕ) (fault : SessionFault) (messages : List Message) (rest new : Stream)
    → stream.ended ≡ false → IsFaulty stream.held fault → Cuts (fed (record stream { ended = true }) piece) messages rest → StopsAt rest new
    → (last : Stream) × Cuts (fed stream piece) messages last × StopsAt last new
after_fault stream piece fault (m ∷ messages) rest new on faulty cut stops = absurd (false≢true (sym cut.1.0))
after_fault stream piece fault [] rest new on faulty cut (inl same) =
    (fed stream piece, refl, inr (fault, on, keeps_faults stream.held piece fault faulty, sym same ∙ sym cut))
after_fault stream piece fault [] rest new on faulty cut (inr other) =
    absurd (false≢true (sym other.1 ∙ ap (λ (s : Stream). s.ended) (sym cut)))

pub answers_first : AnswersFirstMessages
answers_first stream [] new went =
    (stream, (λ i. record { held = append-nil stream.held i; ended = stream.ended }), inl went)
answers_first stream (feeds piece ∷ steps) new went =
    let later = answers_first (fed stream piece) steps new went in
    let same : fed (fed stream piece) (bytes_fed steps) ≡ fed stream (piece ++ bytes_fed steps)
    = λ i. record { held = append_assoc stream.held piece (bytes_fed steps) i; ended = stream.ended } in
    (later.0, subst (λ (s : Stream). Cuts s (messages_answered steps) later.0) same later.1, later.2)
answers_first stream (answers (next.Message message) ∷ steps) new went =
    let later = answers_first went.0 steps new went.2 in
    (later.0, (fed went.0 (bytes_fed steps), first_kept stream message went.0 (bytes_fed steps) went.1, later.1), later.2)
answers_first stream (answers next.More ∷ steps) new went =
    answers_first stream steps new (subst (λ (s : Stream). GoesThrough s steps new) went.1.2 went.2)
answers_first stream (answers next.Ended ∷ steps) new went =
    answers_first stream steps new (subst (λ (s : Stream). GoesThrough s steps new) went.1.1 went.2)
answers_first stream (answers (next.Fault fault) ∷ steps) new went =
    let later = answers_first (record stream { ended = true }) steps new (subst (λ (s : Stream). GoesThrough s steps new) went.1.2 went.2) in
    after_fault stream (bytes_fed steps) fault (messages_answered steps) later.0 new went.1.0 went.1.1 later.1 later.2
