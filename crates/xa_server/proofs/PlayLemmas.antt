-- What is played, one event after another: the messages that events cut off are served one after another.
use Rattle.std.proofs.Common.{◌≡◌, ℤ, List, [], ◌∷◌, ◌++◌, Option, Some, None, Result, Ok, Err, IsTrue, refl, ap, sym}
use Rattle.std.proofs.Common.{subst, ◌∙◌}
use Rattle.std.proofs.lemmas.List.{append_assoc}
use Rattle.xa_http.specs.declared.session.Next.{Next}
use Rattle.xa_http.specs.declared.session.Next.TheVariants as next
use Rattle.xa_records.specs.Keeper.{Custody}
use Rattle.xa_server.specs.Alone as messages
use Rattle.xa_server.specs.Connection.{ServesNext, answer_after}
use Rattle.xa_server.specs.declared.connection.Answer.{Answer}
use Rattle.xa_server.specs.declared.event.Event.{Event}
use Rattle.xa_server.specs.declared.event.Event.TheVariants as event
use Rattle.xa_server.specs.declared.event.Outcome.{Outcome}
use Rattle.xa_server.specs.declared.event.Outcome.TheVariants as outcome
use Rattle.xa_server.specs.declared.front.Front.{Front}
use Rattle.xa_server.specs.declared.front_error.FrontError.{FrontError}
use Rattle.xa_server.specs.declared.lines.Conn.{Conn}
use Rattle.xa_server.specs.declared.replies.Reply.{Reply}
use Rattle.xa_server.specs.Front.{AnswersAt, AnswersLine, Does, IsPlayed, Plays, message_cut, messages_cut}
use Rattle.xa_server.specs.Front.{replies_given, reply_given, reply_in_result}
use Rattle.xa_server.specs.FrontLaws.{PlaysGoOn}
use Rattle.xa_server.specs.Lines.{Lines}
use Rattle.xa_server.specs.Serving.{HaveServed}
use Rattle.xa_server.proofs.FrontLawLemmas.{never_none}
use Rattle.xa_server.proofs.ServingLemmas.{are_served, none_served, served_on}

-- one by which no session is asked cuts off no message
none_cut : (e : Event) → message_cut e None ≡ []
none_cut event.Begin = refl
none_cut _ = refl

-- ---- events after others

-- what they do, the messages that they cut off, and the replies to these
joined : (events others : List Event) (outcomes rest : List Outcome) (nexts more : List (Option Next))
    (old mid new : Lines) → Plays events outcomes nexts old mid → Plays others rest more mid new
    → Plays (events ++ others) (outcomes ++ rest) (nexts ++ more) old new
    × (messages_cut (events ++ others) (nexts ++ more) ≡ messages_cut events nexts ++ messages_cut others more)
    × (replies_given (nexts ++ more) (outcomes ++ rest) ≡ replies_given nexts outcomes ++ replies_given more rest)
joined [] others [] rest [] more old mid new same plays =
    (subst (λ (l : Lines). Plays others rest more l new) same plays, refl, refl)
joined (e ∷ events) others (o ∷ outcomes) rest (given ∷ nexts) more old mid new (first, did, later) plays =
    let on = joined events others outcomes rest nexts more first mid new later plays in (
      (first, did, on.0),
      ap (λ (ms : List messages.Event). message_cut e given ++ ms) on.1
          ∙ sym (append_assoc (message_cut e given) (messages_cut events nexts) (messages_cut others more)),
      ap (λ (rs : List Reply). reply_given given o ++ rs) on.2
          ∙ sym (append_assoc (reply_given given o) (replies_given nexts outcomes) (replies_given more rest)),
    )
joined _ others _ rest _ more old mid new none plays = absurd none

module _ {R : Type 0} (custody : R → Custody) (is_open : (s : R) → (custody s).sound → IsTrue (custody s).is_open) where
  played : (old new : Front R) (events : List Event) (outcomes : List Outcome) (nexts : List (Option Next))
      → Plays events outcomes nexts old.lines new.lines
      → HaveServed custody old.server (messages_cut events nexts) (replies_given nexts outcomes) new.server
      → IsPlayed custody old new events outcomes
  played old new events outcomes nexts plays (servers, each) =
      let cut = messages_cut events nexts in
      let told = replies_given nexts outcomes in
      record {
        nexts = nexts;
        plays = plays;
        served = are_served custody is_open old.server new.server cut told servers each;
      }

  -- ---- one event

  pub unasked_played : (old new : Front R) (e : Event) (o : Outcome) → Does e old.lines None o new.lines
      → new.server ≡ old.server → IsPlayed custody old new (e ∷ []) (o ∷ [])
  unasked_played old new e o does same =
      played old new (e ∷ []) (o ∷ []) (None ∷ []) (new.lines, does, refl)
      (subst (λ (ms : List messages.Event). HaveServed custody old.server (ms ++ []) [] new.server) (sym (none_cut e))
      ([], same))

  -- an answer: one message was served, or none
  answer_served : (conn : Conn) (moment : ℤ) (old new : Front R) (given : Option Next)
      (result : Result (Option Answer) FrontError) → AnswersAt conn old.lines given result new.lines
      → ServesNext custody moment old.server given (reply_in_result result) new.server
      → HaveServed custody old.server (messages_cut (event.Answer conn moment ∷ []) (given ∷ []))
      (replies_given (given ∷ []) (outcome.Answered result ∷ [])) new.server
  answer_served conn moment old new (Some (next.Message message)) (Ok (Some answer)) is serves =
      (new.server ∷ [], (serves, refl))
  answer_served conn moment old new (Some (next.Message message)) (Ok None) is serves =
      absurd (never_none (answer_after is.1 is.5.0) is.2 is.5.1 is.6)
  answer_served conn moment old new (Some (next.Message message)) (Err error) none serves = absurd none
  answer_served conn moment old new given result is serves = ([], serves)

  pub answer_played : (conn : Conn) (moment : ℤ) (old new : Front R) (result : Result (Option Answer) FrontError)
      → AnswersLine custody conn moment old result new
      → IsPlayed custody old new (event.Answer conn moment ∷ []) (outcome.Answered result ∷ [])
  answer_played conn moment old new result (given, is, serves) =
      played old new (event.Answer conn moment ∷ []) (outcome.Answered result ∷ []) (given ∷ []) (new.lines, is, refl)
      (answer_served conn moment old new given result is serves)

  -- ---- one after another

  pub none_played : (front : Front R) → IsPlayed custody front front [] []
  none_played front = played front front [] [] [] refl (none_served custody front.server)

  pub played_on : (old mid new : Front R) (events others : List Event) (outcomes rest : List Outcome)
      → IsPlayed custody old mid events outcomes → IsPlayed custody mid new others rest
      → IsPlayed custody old new (events ++ others) (outcomes ++ rest)
  played_on old mid new events others outcomes rest first later =
      let on =
      joined events others outcomes rest first.nexts later.nexts old.lines mid.lines new.lines first.plays
      later.plays in
      played old new (events ++ others) (outcomes ++ rest) (first.nexts ++ later.nexts) on.0
      (rw (on.1, on.2)
      (served_on custody old.server mid.server new.server (messages_cut events first.nexts)
      (messages_cut others later.nexts) (replies_given first.nexts outcomes) (replies_given later.nexts rest)
      (first.served.servers, first.served.each) (later.served.servers, later.served.each)))

  pub plays_go_on : PlaysGoOn custody
  plays_go_on = (none_played, played_on)
