-- What a crash leaves of a list of messages, from the clauses of one message after another.
use Rattle.std.proofs.Common.{◌≡◌, ◌≢◌, ◌≤◌, ◌+◌, ℕ, ℤ, List, [], ◌∷◌, ◌++◌, length, length-append, take, Bool, true, false, Option, Some, None, IsTrue, inl, inr, refl, ap, sym, ◌∙◌, subst, arith}
use Rattle.std.specs.FinMap.{get}
use Rattle.std.specs.Prelude.{bytes_eq, option_map}
use Rattle.std.proofs.lemmas.Bool.Decides.{not_from_Decides}
use Rattle.std.proofs.lemmas.Slice.Eq.{bytes_eq-Decides}
use Rattle.std.proofs.lemmas.List.{take_all}
use Rattle.std.proofs.Math.Seq.{take-append_seam, take-append-add}
use Rattle.xa_http.specs.declared.message.Message.{Message}
use Rattle.xa_records.specs.declared.refusal.Failure.TheVariants.{Memory, Store}
use Rattle.xa_records.specs.DomainState.{DomainState}
use Rattle.xa_records.specs.Keeper.{Custody}
use Rattle.xa_records.specs.Kept.{Domain, IsNextNumber, Kept, state_of}
use Rattle.xa_server.specs.Alone.{Event, is_owner, is_own, own_events, state_after}
use Rattle.xa_server.specs.Crash.{IsStepMade}
use Rattle.xa_server.specs.declared.replies.Reply.{Reply}
use Rattle.xa_server.specs.declared.replies.Reply.TheVariants.{Sent, Refused}
use Rattle.xa_server.specs.Interruption.{AreStatesAfter, IsInterrupted, KeepsAnswered, LeavesFirst, Serves, ServesAll}
use Rattle.xa_server.specs.Isolation.{answered_events}
use Rattle.xa_server.specs.Machine.{step}
use Rattle.xa_server.specs.Owner.{owner}
use Rattle.xa_server.specs.Served.{IsRun, IsSent, IsServed, may_go_on, state}
use Rattle.xa_server.specs.World.{ServerModel, World, world}
use Rattle.xa_server.proofs.GrowthLemmas.{changed_state}
use Rattle.xa_server.proofs.IsolationLemmas.{isolated}
use Rattle.xa_server.proofs.ServedLemmas.{run_more}

-- ---- the machine of one domain, shown one list after another

joined : (operator domain : List ℕ) (s : Option DomainState) (events more : List Event)
    → state_after operator (state_after operator s (own_events domain events)) (own_events domain more) ≡ state_after operator s (own_events domain (events ++ more))
joined operator domain s [] more = refl
joined operator domain s (event ∷ events) more = by_owner (is_own domain event) refl (λ t. joined operator domain t events more)
  where
    by_owner : (b : Bool) → is_own domain event ≡ b
        → ((t : Option DomainState) → state_after operator (state_after operator t (own_events domain events)) (own_events domain more) ≡ state_after operator t (own_events domain (events ++ more)))
        → state_after operator (state_after operator s (own_events domain (event ∷ events))) (own_events domain more) ≡ state_after operator s (own_events domain (event ∷ (events ++ more)))
    by_owner true owns rest = rw owns (rest (step operator s event.1 event.0).1)
    by_owner false other rest = rw other (rest s)

-- the step of the last message was made
last_made : (domain : List ℕ) (old : World) (left : Kept) (last : Event) (named : Option (List ℕ)) → owner last.1 ≡ named → IsStepMade old left last.0 last.1 named
    → state_of domain left ≡ state_after old.operator (state domain old) (own_events domain (last ∷ []))
last_made domain old left last None e made = absurd made
last_made domain old left last (Some name) e made = by_name (bytes_eq name domain) refl
  where
    by_name : (b : Bool) → bytes_eq name domain ≡ b → state_of domain left ≡ state_after old.operator (state domain old) (own_events domain (last ∷ []))
    by_name true t =
        let same : name ≡ domain = (bytes_eq-Decides name domain).0 t in
        let owns : is_own domain last ≡ true = ap (is_owner domain) e ∙ t in
        rw owns (rw same at (changed_state old.kept left name _ made))
    by_name false t =
        let apart : domain ≢ name = λ same. not_from_Decides (bytes_eq name domain) (bytes_eq-Decides name domain) t (sym same) in
        let other : is_own domain last ≡ false = ap (is_owner domain) e ∙ t in
        rw other (ap (option_map (λ d. d.state)) (made.others domain apart))

-- ---- the operator's digest stays

sent_by : (old new : World) (event : Event) (bytes : List ℕ) (named : Option (List ℕ)) → IsSent old new event.0 event.1 bytes named → new.operator ≡ old.operator
sent_by old new event bytes None sent = ap (λ (w : World). w.operator) sent.same
sent_by old new event bytes (Some domain) sent = sent.operator

one_operator : (old new : World) (events : List Event) (replies : List Reply) → IsRun old events replies new → new.operator ≡ old.operator
one_operator old new [] [] run = ap (λ (w : World). w.operator) run
one_operator old new (event ∷ events) (Sent bytes ∷ replies) run = one_operator run.0 new events replies run.2 ∙ sent_by old run.0 event bytes (owner event.1) run.1
one_operator old new (event ∷ events) (Refused cause ∷ replies) run = one_operator run.0 new events replies run.2 ∙ ap (λ (w : World). w.operator) run.1
one_operator old new [] (reply ∷ replies) run = elim run [ ]
one_operator old new (event ∷ events) [] run = elim run [ ]

-- ---- the messages that were answered

answered_more : (old new : World) (events : List Event) (replies : List Reply) (last : Event) (reply : Reply) → IsRun old events replies new
    → answered_events (events ++ last ∷ []) (replies ++ reply ∷ []) ≡ answered_events events replies ++ answered_events (last ∷ []) (reply ∷ [])
answered_more old new [] [] last reply run = refl
answered_more old new (event ∷ events) (Sent bytes ∷ replies) last reply run = ap (λ es. event ∷ es) (answered_more run.0 new events replies last reply run.2)
answered_more old new (event ∷ events) (Refused cause ∷ replies) last reply run = answered_more run.0 new events replies last reply run.2
answered_more old new [] (other ∷ replies) last reply run = elim run [ ]
answered_more old new (event ∷ events) [] last reply run = elim run [ ]

-- ---- no message raises the next number by two

no_further : (next : ℕ) (there : Option Domain) (state : Option DomainState) → ¬ IsNextNumber next there state (next + 2)
no_further next None (Some state) raised = omega (arith, raised.0)
no_further next None None same = omega (arith, same)
no_further next (Some domain) state same = omega (arith, same)

abbrev beyond : Kept → Kept
beyond kept = record kept { next = kept.next + 2 }

not_made : (old : World) (moment : ℤ) (message : Message) (named : Option (List ℕ)) → ¬ IsStepMade old (beyond old.kept) moment message named
not_made old moment message None made = made
not_made old moment message (Some domain) made = no_further old.kept.next (get old.kept.domains domain) _ made.next

module _ {R : Type 0} (custody : R → Custody) (is_open : (s : R) → (custody s).sound → IsTrue (custody s).is_open)
    (settled : (s : R) → (custody s).sound → (left : Kept) → (custody s).may_leave left → left ≡ (custody s).kept) where
  -- ---- the messages before the crash

  clean_before : (old new : ServerModel R) (events : List Event) (replies : List Reply) → ServesAll custody old events replies new → (custody new.records).clean → (custody old.records).clean
  clean_before old new [] [] all clean = subst (λ (s : ServerModel R). (custody s.records).clean) all clean
  clean_before old new (event ∷ events) (reply ∷ replies) all clean = all.1.clean (clean_before all.0 new events replies all.3 clean)
  clean_before old new [] (reply ∷ replies) all clean = absurd all
  clean_before old new (event ∷ events) [] all clean = absurd all

  -- the keeper is open after a message after which it may go on
  open_after : (old new : ServerModel R) (event : Event) (reply : Reply) → Serves custody old new event reply → may_go_on reply (custody new.records).is_open ≡ true → (custody old.records).sound
      → IsTrue (custody new.records).is_open
  open_after old new event (Sent bytes) serves on sound = serves.stays_open (λ is. absurd cc) (is_open old.records sound)
  open_after old new event (Refused Memory) serves on sound = serves.stays_open (λ is. absurd cc) (is_open old.records sound)
  open_after old new event (Refused Store) serves on sound = on

  goes_on : (old new : ServerModel R) (event : Event) (reply : Reply) → Serves custody old new event reply → may_go_on reply (custody new.records).is_open ≡ true → (custody new.records).clean
      → (custody old.records).sound → (custody new.records).sound
  goes_on old new event reply serves on clean sound = serves.stays clean sound (open_after old new event reply serves on sound)

  sound_after : (old new : ServerModel R) (events : List Event) (replies : List Reply) → ServesAll custody old events replies new → (custody new.records).clean → (custody old.records).sound
      → (custody new.records).sound
  sound_after old new [] [] all clean sound = subst (λ (s : ServerModel R). (custody s.records).sound) (sym all) sound
  sound_after old new (event ∷ events) (reply ∷ replies) all clean sound =
      let between = clean_before all.0 new events replies all.3 clean in
      sound_after all.0 new events replies all.3 clean (goes_on old all.0 event reply all.1 all.2 between sound)
  sound_after old new [] (reply ∷ replies) all clean sound = absurd all
  sound_after old new (event ∷ events) [] all clean sound = absurd all

  is_run : (old new : ServerModel R) (events : List Event) (replies : List Reply) → ServesAll custody old events replies new → (custody new.records).clean → (custody old.records).sound
      → IsRun (world custody old) events replies (world custody new)
  is_run old new [] [] all clean sound = ap (world custody) all
  is_run old new (event ∷ events) (reply ∷ replies) all clean sound =
      let between = clean_before all.0 new events replies all.3 clean in
      let on = goes_on old all.0 event reply all.1 all.2 between sound in
      (world custody all.0, all.1.served on, is_run all.0 new events replies all.3 clean on)
  is_run old new [] (reply ∷ replies) all clean sound = absurd all
  is_run old new (event ∷ events) [] all clean sound = absurd all

  -- ---- a crash after them

  pub leaves_those : (old new : ServerModel R) (events : List Event) (replies : List Reply) → ServesAll custody old events replies new → (custody new.records).clean → (custody old.records).sound
      → LeavesFirst custody old new (answered_events events replies) (length (answered_events events replies))
  leaves_those old new events replies all clean sound =
      let answered = answered_events events replies in
      let on = sound_after old new events replies all clean sound in
      let run = is_run old new events replies all clean sound in
      let whole : take (length answered) answered ≡ answered = take_all (length answered) answered (omega arith) in
      record {
        states = λ left may. (
          length answered,
          omega arith,
          subst (λ es. AreStatesAfter (world custody old) es left) (sym whole)
              (λ domain. ap (state_of domain) (settled new.records on left may) ∙ (isolated domain (world custody old) (world custody new) events replies run).left),
        );
        some = (
          beyond (custody new.records).kept,
          λ may. omega (arith, ap (λ (kept : Kept). kept.next) (settled new.records on (beyond (custody new.records).kept) may)),
        );
      }

  -- ---- the message in which the crash comes

  module _ (old new : ServerModel R) (events : List Event) (replies : List Reply) (last : Event) (reply : Reply) (it : IsInterrupted custody old new events replies last reply) where
    abbrev answered : List Event
    answered = answered_events events replies

    abbrev before : World
    before = world custody it.mid

    clean : (custody it.mid.records).clean
    clean = it.stopped.clean it.clean

    sound : (custody it.mid.records).sound
    sound = sound_after old it.mid events replies it.before clean it.sound

    run : IsRun (world custody old) events replies before
    run = is_run old it.mid events replies it.before clean it.sound

    -- the states after all that were answered
    after : (domain : List ℕ) → state domain before ≡ state_after old.operator (state domain (world custody old)) (own_events domain answered)
    after domain = (isolated domain (world custody old) before events replies run).left

    without : AreStatesAfter (world custody old) (take (length answered) (answered ++ last ∷ [])) before.kept
    without = subst (λ es. AreStatesAfter (world custody old) es before.kept) (sym (take-append_seam answered (last ∷ []))) after

    with_last : (left : Kept) → IsStepMade before left last.0 last.1 (owner last.1) → AreStatesAfter (world custody old) (take (length answered + 1) (answered ++ last ∷ [])) left
    with_last left made = subst (λ es. AreStatesAfter (world custody old) es left) (sym (take-append-add answered (last ∷ []) 1)) (λ domain.
        last_made domain before left last (owner last.1) refl made
        ∙ ap (λ op. state_after op (state domain before) (own_events domain (last ∷ []))) (one_operator (world custody old) before events replies run)
        ∙ ap (λ s. state_after old.operator s (own_events domain (last ∷ []))) (after domain)
        ∙ joined old.operator domain (state domain (world custody old)) answered (last ∷ []))

    -- the states after the last one too, if it was answered
    with_answered : (bytes : List ℕ) → reply ≡ Sent bytes → (left : Kept) → (custody new.records).may_leave left → AreStatesAfter (world custody old) (take (length answered + 1) (answered ++ last ∷ [])) left
    with_answered bytes is left may =
        let on : (custody new.records).sound = goes_on it.mid new last (Sent bytes) (subst (Serves custody it.mid new last) is it.stopped) refl it.clean sound in
        let all : IsRun (world custody old) (events ++ last ∷ []) (replies ++ Sent bytes ∷ []) (world custody new) =
        run_more _ _ _ events replies last (Sent bytes) run (subst (λ r. IsServed before (world custody new) last.0 last.1 r) is (it.stopped.served on)) in
        subst (λ es. AreStatesAfter (world custody old) es left) (answered_more (world custody old) before events replies last (Sent bytes) run ∙ sym (take-append-add answered (last ∷ []) 1))
        (λ domain. ap (state_of domain) (settled new.records on left may) ∙ (isolated domain (world custody old) (world custody new) (events ++ last ∷ []) (replies ++ Sent bytes ∷ []) all).left)

    count_is : (r : Reply) → length (answered_events (events ++ last ∷ []) (replies ++ r ∷ [])) ≡ length answered + length (answered_events (last ∷ []) (r ∷ []))
    count_is r = ap length (answered_more (world custody old) before events replies last r run) ∙ length-append answered (answered_events (last ∷ []) (r ∷ []))

    -- the first k messages, for some k
    abbrev First : ℕ → Kept → Type 0
    First count left = (k : ℕ) × (count ≤ k) × AreStatesAfter (world custody old) (take k (answered ++ last ∷ [])) left

    states : (r : Reply) → reply ≡ r → (left : Kept) → (custody new.records).may_leave left → First (length (answered_events (events ++ last ∷ []) (replies ++ r ∷ []))) left
    states (Sent bytes) is left may =
        let count : length (answered_events (events ++ last ∷ []) (replies ++ Sent bytes ∷ [])) ≡ length answered + 1 = count_is (Sent bytes) in
        (length answered + 1, omega (arith, count), with_answered bytes is left may)
    states (Refused cause) is left may =
        let count : length (answered_events (events ++ last ∷ []) (replies ++ Refused cause ∷ [])) ≡ length answered + 0 = count_is (Refused cause) in
        elim (it.stopped.crash it.clean sound left may) [
          | inl less ↦ (
            length answered,
            omega (arith, count),
            subst (AreStatesAfter (world custody old) (take (length answered) (answered ++ last ∷ []))) (sym (settled it.mid.records sound left less)) without,
          )
          | inr made ↦ (length answered + 1, omega (arith, count), with_last left made)
        ]

    pub leaves_first : LeavesFirst custody old new (answered ++ last ∷ []) (length (answered_events (events ++ last ∷ []) (replies ++ reply ∷ [])))
    leaves_first = record {
      states = states reply refl;
      some = (
        beyond before.kept,
        λ may. elim (it.stopped.crash it.clean sound (beyond before.kept) may) [
          | inl less ↦ omega (arith, ap (λ (kept : Kept). kept.next) (settled it.mid.records sound (beyond before.kept) less))
          | inr made ↦ not_made before last.0 last.1 (owner last.1) made
        ],
      );
    }

  pub keeps_answered : (old : ServerModel R) → KeepsAnswered custody old
  keeps_answered old new events replies last reply it = leaves_first old new events replies last reply it
