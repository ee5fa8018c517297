-- The next answer of one connection, and of a front.
use Rattle.std.proofs.Common.{◌≡◌, ℤ, Bool, List, [], ◌∷◌, Option, Some, None, Ok, Err, refl, ap, subst}
use Rattle.std.specs.declared.alloc.AllocError.{AllocError}
use Rattle.xa_http.specs.declared.fault.SessionFault.{SessionFault}
use Rattle.xa_http.specs.declared.message.Message.{Message}
use Rattle.xa_http.specs.declared.session.Look.TheVariants as look
use Rattle.xa_http.specs.declared.session.Next.{Next}
use Rattle.xa_http.specs.declared.session.Next.TheVariants as next
use Rattle.xa_http.specs.Messages.{IsCut, IsFirst, IsLook, IsNext}
use Rattle.xa_http.specs.Stream.{Stream}
use Rattle.xa_http.proofs.LawLemmas.{answers_messages}
use Rattle.xa_records.specs.Keeper.{Custody}
use Rattle.xa_server.specs.Connection.{AnswersNext, AnswersNow, EndsBy, answer_of}
use Rattle.xa_server.specs.declared.connection.Answered.{Answered}
use Rattle.xa_server.specs.declared.connection.Answered.TheVariants as answered
use Rattle.xa_server.specs.declared.connection.Answer.{Answer}
use Rattle.xa_server.specs.declared.front.Front.{Front}
use Rattle.xa_server.specs.declared.front_error.FrontError.TheVariants.{Memory}
use Rattle.xa_server.specs.declared.lines.Conn.{Conn}
use Rattle.xa_server.specs.Front.{AnswersLine}
use Rattle.xa_server.specs.Interruption.{ServesMessage}
use Rattle.xa_server.specs.Lines.{IsOpen, with_line}
use Rattle.xa_server.specs.Transfers.{Grows}
use Rattle.xa_server.specs.World.{ServerModel}
use Rattle.xa_server.proofs.LineLemmas.{line_kept}

-- where a message stands at the front, it is what a session gives
pub only_message : (old new : Stream) (given : Next) → IsLook old look.Message → IsNext old given new
    → (message : Message) × (given ≡ next.Message message)
only_message old new given (on, (message, rest, begins)) is =
    let first : IsFirst old message (record { held = rest; ended = message.close }) = (on, begins, refl) in
    (message, (answers_messages old message (record { held = rest; ended = message.close }) given new first is).0)

-- ---- what a connection is answered

module _ {R : Type 0} (custody : R → Custody) (moment : ℤ) (old : ServerModel R) (s t : Stream) where
  pub message_answered : (new : ServerModel R) (message : Message) (answer : Answer) → IsFirst s message t
      → answer.last ≡ t.ended → ServesMessage custody old new (moment, message) answer.reply
      → AnswersNext custody moment old s (Ok (answered.Reply answer)) new t
  message_answered new message answer first over serves = (
    next.Message message,
    first,
    (answer.reply, ap (λ (last : Bool). answered.Reply (record { reply = answer.reply; last = last })) over),
    serves,
  )

  pub fault_answered : (looked : Stream) (fault : SessionFault) (answer : Answer) → looked ≡ s
      → EndsBy fault looked answer t → AnswersNext custody moment old s (Ok (answered.Reply answer)) old t
  fault_answered looked fault answer same (is, said) = (
    next.Fault fault,
    subst (λ (u : Stream). IsNext u (next.Fault fault) t) same is,
    ap (λ (a : Answer). answered.Reply a) said,
    refl,
  )

  pub waits_answered : IsCut s next.More t → AnswersNext custody moment old s (Ok answered.Waits) old t
  waits_answered is = (next.More, is, refl, refl)

  pub ended_answered : IsCut s next.Ended t → AnswersNext custody moment old s (Ok answered.Ended) old t
  ended_answered is = (next.Ended, is, refl, refl)

  -- by a clock
  pub message_now : (told told_new : Option (List (Option ℤ))) (new : ServerModel R) (answered : Answered)
      → IsLook s look.Message → Grows told told_new (Some moment ∷ [])
      → AnswersNext custody moment old s (Ok answered) new t
      → AnswersNow custody told told_new old s (Ok answered) new t
  message_now told told_new new answered stands tells (given, is, gives, serves) =
      (moment, (given, is, gives, serves), rw (only_message s t given stands is).1 tells)

-- ---- what a connection of a front is answered

module _ {R : Type 0} (custody : R → Custody) (conn : Conn) (moment : ℤ) (old new : Front R) (s t : Stream)
    (opens : IsOpen conn old.lines s) (put : new.lines ≡ with_line conn (Some t) old.lines) where
  pub answered_at : (answered : Answered) → AnswersNext custody moment old.server s (Ok answered) new.server t
      → AnswersLine custody conn moment old (Ok (answer_of answered)) new
  answered_at answered (given, is, gives, serves) = (Some given, (s, t, answered, opens, is, gives, refl, put), serves)

  pub unanswered_at : (error : AllocError) → AnswersNext custody moment old.server s (Err error) new.server t
      → AnswersLine custody conn moment old (Err Memory) new
  unanswered_at error (on, still, same) =
      (None, (s, opens, on, line_kept conn old.lines new.lines s t opens put same), still)
