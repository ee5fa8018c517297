-- The headline, from what serving does with one message after another.
use Rattle.std.proofs.Common.{◌≡◌, ◌≢◌, ℕ, List, [], ◌∷◌, Option, Some, None, refl, ap, sym, ◌∙◌, subst}
use Rattle.std.specs.Prelude.{Bool, true, false, map, bytes_eq, option_map}
use Rattle.std.proofs.lemmas.Bool.Decides.{not_from_Decides}
use Rattle.std.proofs.lemmas.Slice.Eq.{bytes_eq-Decides}
use Rattle.xa_server.specs.declared.replies.Reply.{Reply}
use Rattle.xa_server.specs.declared.replies.Reply.TheVariants.{Sent, Refused}
use Rattle.xa_server.specs.Alone.{Event, is_owner, is_own, own_events, replies_alone, state_after}
use Rattle.xa_server.specs.Isolation.{AgreeOn, AllSent, IsAlone, IsIsolated, TwoWorldsAgree, TwoWorldsAgreeBesideRefusals, answered_events, replies_to, sent_replies}
use Rattle.xa_server.specs.Machine.{step}
use Rattle.xa_server.specs.Owner.{owner}
use Rattle.xa_server.specs.Served.{IsRun, IsSent, state}
use Rattle.xa_server.specs.World.{World}
use Rattle.xa_server.proofs.GrowthLemmas.{changed_state}

-- a message of another goes before a run that is the domain's alone
passed_over : (domain : List ℕ) (old mid new : World) (event : Event) (bytes : List ℕ) (events : List Event) (replies : List Reply)
    → is_own domain event ≡ false → state domain mid ≡ state domain old → mid.operator ≡ old.operator
    → IsAlone mid new events replies domain → IsAlone old new (event ∷ events) (Sent bytes ∷ replies) domain
passed_over domain old mid new event bytes events replies other same operator rest = record {
  told = rw (other, ← same, ← operator) rest.told;
  left = rw (other, ← same, ← operator) rest.left;
}

-- a refusal goes before
unmoved : (domain : List ℕ) (old mid new : World) (events : List Event) (replies : List Reply)
    → mid ≡ old → IsAlone mid new events replies domain → IsAlone old new events replies domain
unmoved domain old mid new events replies same rest = subst (λ (w : World). IsAlone w new events replies domain) same rest

-- a message of the domain goes before
goes_before : (domain : List ℕ) (old mid new : World) (event : Event) (bytes : List ℕ) (events : List Event) (replies : List Reply)
    → is_own domain event ≡ true → bytes ≡ (step old.operator (state domain old) event.1 event.0).0
    → state domain mid ≡ (step old.operator (state domain old) event.1 event.0).1 → mid.operator ≡ old.operator
    → IsAlone mid new events replies domain → IsAlone old new (event ∷ events) (Sent bytes ∷ replies) domain
goes_before domain old mid new event bytes events replies owns reply next operator rest =
    let told : replies_to domain events replies ≡ map Sent (replies_alone old.operator (step old.operator (state domain old) event.1 event.0).1 (own_events domain events)) =
    rest.told ∙ ap (λ op. map Sent (replies_alone op (state domain mid) (own_events domain events))) operator
    ∙ ap (λ s. map Sent (replies_alone old.operator s (own_events domain events))) next in
    let left : state domain new ≡ state_after old.operator (step old.operator (state domain old) event.1 event.0).1 (own_events domain events) =
    rest.left ∙ ap (λ op. state_after op (state domain mid) (own_events domain events)) operator
    ∙ ap (λ s. state_after old.operator s (own_events domain events)) next in
    record {
      told = rw owns (ap (λ b. Sent b ∷ replies_to domain events replies) reply ∙ ap (λ rs. Sent (step old.operator (state domain old) event.1 event.0).0 ∷ rs) told);
      left = rw owns left;
    }

-- one answered message, by its owner
by_owner : (domain : List ℕ) (old mid new : World) (event : Event) (bytes : List ℕ) (events : List Event) (replies : List Reply)
    (named : Option (List ℕ)) → owner event.1 ≡ named → IsSent old mid event.0 event.1 bytes named
    → IsAlone mid new events replies domain → IsAlone old new (event ∷ events) (Sent bytes ∷ replies) domain
by_owner domain old mid new event bytes events replies None e step' rest =
    passed_over domain old mid new event bytes events replies (ap (is_owner domain) e) (ap (state domain) step'.same) (ap (λ (w : World). w.operator) step'.same) rest
by_owner domain old mid new event bytes events replies (Some name) e step' rest = by_name (bytes_eq name domain) refl where
  by_name : (b : Bool) → bytes_eq name domain ≡ b → IsAlone old new (event ∷ events) (Sent bytes ∷ replies) domain
  by_name true t =
      let same : name ≡ domain = (bytes_eq-Decides name domain).0 t in
      goes_before domain old mid new event bytes events replies (ap (is_owner domain) e ∙ t) (rw same at step'.reply) (rw same at (changed_state old.kept mid.kept name _ step'.next)) step'.operator rest
  by_name false t =
      let apart : domain ≢ name = λ same. not_from_Decides (bytes_eq name domain) (bytes_eq-Decides name domain) t (sym same) in
      passed_over domain old mid new event bytes events replies (ap (is_owner domain) e ∙ t) (ap (option_map (λ d. d.state)) (step'.next.others domain apart)) step'.operator rest

-- the headline beside refusals, from a run
pub isolated : (domain : List ℕ) (old new : World) (events : List Event) (replies : List Reply)
    → IsRun old events replies new → IsAlone old new (answered_events events replies) (sent_replies replies) domain
isolated domain old new [] [] run = record { told = refl; left = ap (state domain) run }
isolated domain old new (event ∷ events) (Sent bytes ∷ replies) run =
    by_owner domain old run.0 new event bytes (answered_events events replies) (sent_replies replies) (owner event.1) refl run.1
    (isolated domain run.0 new events replies run.2)
isolated domain old new (event ∷ events) (Refused cause ∷ replies) run =
    unmoved domain old run.0 new (answered_events events replies) (sent_replies replies) run.1 (isolated domain run.0 new events replies run.2)
isolated domain old new [] (reply ∷ replies) run = elim run [ ]
isolated domain old new (event ∷ events) [] run = elim run [ ]

-- where nothing was refused, every message was answered
pub all_answered : (old new : World) (events : List Event) (replies : List Reply) → IsRun old events replies new → AllSent replies → answered_events events replies ≡ events
all_answered old new [] [] run all = refl
all_answered old new (event ∷ events) (Sent bytes ∷ replies) run all = ap (λ es. event ∷ es) (all_answered run.0 new events replies run.2 all)
all_answered old new (event ∷ events) (Refused cause ∷ replies) run all = elim all [ ]
all_answered old new [] (reply ∷ replies) run all = elim run [ ]
all_answered old new (event ∷ events) [] run all = elim run [ ]

pub all_sent : (replies : List Reply) → AllSent replies → sent_replies replies ≡ replies
all_sent [] all = refl
all_sent (Sent bytes ∷ replies) all = ap (λ rs. Sent bytes ∷ rs) (all_sent replies all)
all_sent (Refused cause ∷ replies) all = elim all [ ]

-- the headline, from a run
pub headline : (old new : World) (events : List Event) (replies : List Reply) → IsRun old events replies new → IsIsolated old new events replies
headline old new events replies run = λ all domain.
    subst (λ es. IsAlone old new es replies domain) (all_answered old new events replies run all)
    (subst (λ rs. IsAlone old new (answered_events events replies) rs domain) (all_sent replies all) (isolated domain old new events replies run))

-- one operator, one state and the same messages have one machine's replies
agree_alone : (first first_after second second_after : World) (first_events second_events : List Event) (first_replies second_replies : List Reply) (domain : List ℕ)
    → IsAlone first first_after first_events first_replies domain → IsAlone second second_after second_events second_replies domain → AgreeOn domain first second first_events second_events
    → (replies_to domain first_events first_replies ≡ replies_to domain second_events second_replies) × (state domain first_after ≡ state domain second_after)
agree_alone first first_after second second_after first_events second_events first_replies second_replies domain here there agree = (
  here.told
      ∙ ap (λ op. map Sent (replies_alone op (state domain first) (own_events domain first_events))) agree.operator
      ∙ ap (λ s. map Sent (replies_alone second.operator s (own_events domain first_events))) agree.state
      ∙ ap (λ es. map Sent (replies_alone second.operator (state domain second) es)) agree.messages
      ∙ sym there.told,
  here.left
      ∙ ap (λ op. state_after op (state domain first) (own_events domain first_events)) agree.operator
      ∙ ap (λ s. state_after second.operator s (own_events domain first_events)) agree.state
      ∙ ap (λ es. state_after second.operator (state domain second) es) agree.messages
      ∙ sym there.left,
)

pub two_worlds : TwoWorldsAgree
two_worlds first first_after second second_after first_events second_events first_replies second_replies domain one all_one other all_other agree =
    agree_alone first first_after second second_after first_events second_events first_replies second_replies domain (headline first first_after first_events first_replies one all_one domain)
    (headline second second_after second_events second_replies other all_other domain) agree

pub two_worlds_beside : TwoWorldsAgreeBesideRefusals
two_worlds_beside first first_after second second_after first_events second_events first_replies second_replies domain one other agree =
    agree_alone first first_after second second_after (answered_events first_events first_replies) (answered_events second_events second_replies) (sent_replies first_replies) (sent_replies second_replies)
    domain (isolated domain first first_after first_events first_replies one) (isolated domain second second_after second_events second_replies other) agree
