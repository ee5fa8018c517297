-- How a message is answered, and what is told of the keeper after a part of it.
use Rattle.std.specs.Prelude.{◌≡◌, ◌⊎◌, ℕ, List, OnErr, Option, Some, None, option_and_then, Result, Ok, Err}
use Rattle.std.specs.Prelude.{IsErrOf, IsTrue}
use Rattle.xa_http.specs.declared.route.Route.{Route}
use Rattle.xa_http.specs.Routes.{named_by}
use Rattle.xa_records.specs.declared.refusal.Failure.{Failure}
use Rattle.xa_records.specs.declared.refusal.Failure.TheVariants.{Memory, Store}
use Rattle.xa_records.specs.DomainState.{DomainState}
use Rattle.xa_records.specs.Keeper.{Custody, IsOneMore}
use Rattle.xa_records.specs.Kept.{IsChanged, Kept, names_of, state_of}
use Rattle.xa_server.specs.declared.cause.Cause.{Cause}
use Rattle.xa_server.specs.declared.cause.Cause.TheVariants as cause
use Rattle.xa_server.specs.declared.cause.Cause.TheVariants.{Wanting}
use Rattle.xa_server.specs.declared.error_code.ErrorCode.{ErrorCode}
use Rattle.xa_server.specs.declared.received_message.ReceivedMessage.{ReceivedMessage}
use Rattle.xa_server.specs.declared.handling_error.HandlingError.{HandlingError}
use Rattle.xa_server.specs.declared.handling_error.HandlingError.TheVariants.{Error, Failed}
use Rattle.xa_server.specs.declared.replies.Reply.{Reply}
use Rattle.xa_server.specs.declared.replies.Reply.TheVariants.{Sent, Refused}
use Rattle.xa_server.specs.ErrorCode.{error_reply}
use Rattle.xa_server.specs.Owner.{name_if, owner}
use Rattle.xa_server.specs.Machine.{MachineAnswer, answer, by_route, general_answer, general_by_route}
use Rattle.xa_server.specs.Resources.{AllStand, ResourcesModel}

-- a message of the domain of that name was answered as its machine answers it, or it failed; nothing has changed but
-- by a reply
abbrev pub Answers : Kept → Kept → List ℕ → Result (List ℕ) HandlingError → MachineAnswer → Type 0
Answers old new name (Ok bytes) meant =
    (after : Option DomainState) × (meant ≡ Ok (bytes, after)) × IsChanged old new name after
Answers old new name (Err (Error code)) meant = (meant ≡ Err code) × (new ≡ old)
Answers old new name (Err (Failed failure)) meant = new ≡ old

-- a message was answered as is meant, or it failed; and nothing has changed
abbrev pub Shows : {X : Type 0} → Kept → Kept → Result X HandlingError → Result X ErrorCode → Type 0
Shows old new (Ok x) meant = (meant ≡ Ok x) × (new ≡ old)
Shows old new (Err (Error code)) meant = (meant ≡ Err code) × (new ≡ old)
Shows old new (Err (Failed failure)) meant = new ≡ old

-- `Shows`, if the keeper is sound
abbrev pub ShowsIfSound : {X : Type 0} → Custody → Custody → Result X HandlingError → Result X ErrorCode → Type 0
ShowsIfSound old new result meant = new.sound → Shows old.kept new.kept result meant

-- a message was let in: then the result is what is there, by the gate of a domain; or it wasn't, or it failed; and
-- nothing has changed
abbrev pub Opens : {X : Type 0} → Kept → Kept → Option X → Result X HandlingError → Result (Unit {0}) ErrorCode → Type 0
Opens old new there (Ok x) meant = (there ≡ Some x) × (meant ≡ Ok tt) × (new ≡ old)
Opens old new there (Err (Error code)) meant = (meant ≡ Err code) × (new ≡ old)
Opens old new there (Err (Failed failure)) meant = new ≡ old

-- the domain that a route's path names, if it names one
abbrev pub domain_named : Route → Option (List ℕ)
domain_named route = option_and_then name_if (named_by route)

-- a message of a route was answered, by the domain that its path names, if it names one
abbrev pub AnswersRoute : ReceivedMessage → Kept → Kept → Option (List ℕ) → Route → Result (List ℕ) HandlingError
    → Type 0
AnswersRoute received old new None route result =
    Shows old new result (general_by_route received.operator (names_of old) received.message.now route)
AnswersRoute received old new (Some name) route result =
    Answers old new name result
    (by_route received.operator (state_of name old) received.message.now received.moment route)

-- a message was answered, by the domain that its path names, if it names one
abbrev pub AnswersMessage : ReceivedMessage → Kept → Kept → Option (List ℕ) → Result (List ℕ) HandlingError → Type 0
AnswersMessage received old new None result =
    Shows old new result (general_answer received.operator (names_of old) received.message.now)
AnswersMessage received old new (Some name) result =
    Answers old new name result (answer received.operator (state_of name old) received.message.now received.moment)

-- `AnswersRoute`, if all that the server shares stood before and the keeper is sound after
abbrev pub AnswersRouteIfSound : Custody → Custody → ReceivedMessage → ResourcesModel → Option (List ℕ) → Route
    → Result (List ℕ) HandlingError → Type 0
AnswersRouteIfSound old new received before name route result =
    AllStand old.kept before → new.sound → AnswersRoute received old.kept new.kept name route result

-- `AnswersMessage`, if all that the server shares stood before and the keeper is sound after
abbrev pub AnswersMessageIfSound : Custody → Custody → ReceivedMessage → ResourcesModel → Result (List ℕ) HandlingError
    → Type 0
AnswersMessageIfSound old new received before result =
    AllStand old.kept before → new.sound
    → AnswersMessage received old.kept new.kept (owner received.message.now) result

-- how often the keeper has failed by a result: once more if that is a failure for want of storage, and else no more
abbrev pub Counts : {X : Type 0} → ℕ → ℕ → Result X HandlingError → Type 0
Counts old new (Ok x) = new ≡ old
Counts old new (Err (Error code)) = new ≡ old
Counts old new (Err (Failed (Wanting Memory))) = new ≡ old
Counts old new (Err (Failed (Wanting Store))) = IsOneMore old new
Counts old new (Err (Failed (cause.OverLimit over))) = new ≡ old

-- as which a message is refused: over a limit, as for want of memory
abbrev pub failure_of : Cause → Failure
failure_of (Wanting failure) = failure
failure_of (cause.OverLimit over) = Memory

-- the reply that goes back for a result
abbrev pub IsReplyOf : Result (List ℕ) HandlingError → Reply → Type 0
IsReplyOf (Ok bytes) reply = reply ≡ Sent bytes
IsReplyOf (Err (Failed why)) reply = reply ≡ Refused (failure_of why)
IsReplyOf (Err (Error code)) reply = (reply ≡ Sent (error_reply code)) ⊎ (reply ≡ Refused Memory)

-- ---- what a crash may leave

-- a crash leaves nothing that it might not have left before
abbrev pub LeavesNoMore : (Kept → Type 0) → (Kept → Type 0) → Type 0
LeavesNoMore before after = (left : Kept) → after left → before left

-- the change of a machine's answer was made: the domain of that name has gone over into its state, and no other has
-- changed
abbrev pub IsAnswerMade : Kept → Kept → List ℕ → MachineAnswer → Type 0
IsAnswerMade old left name (Ok (bytes, after)) = IsChanged old left name after
IsAnswerMade old left name (Err code) = ⊥

-- what a crash may leave after a message of the domain of that name: what it might have left before, or all with the
-- change made
abbrev pub LeavesAnswer : (Kept → Type 0) → (Kept → Type 0) → Kept → List ℕ → MachineAnswer → Type 0
LeavesAnswer before after old name meant = (left : Kept) → after left → before left ⊎ IsAnswerMade old left name meant

-- what a crash may leave after a message of a route
abbrev pub LeavesRoute : (Kept → Type 0) → (Kept → Type 0) → ReceivedMessage → Kept → Option (List ℕ) → Route → Type 0
LeavesRoute before after received old None route = LeavesNoMore before after
LeavesRoute before after received old (Some name) route =
    LeavesAnswer before after old name
    (by_route received.operator (state_of name old) received.message.now received.moment route)

-- what a crash may leave after a message
abbrev pub LeavesMessage : (Kept → Type 0) → (Kept → Type 0) → ReceivedMessage → Kept → Option (List ℕ) → Type 0
LeavesMessage before after received old None = LeavesNoMore before after
LeavesMessage before after received old (Some name) =
    LeavesAnswer before after old name
    (answer received.operator (state_of name old) received.message.now received.moment)

-- ---- what is done for a message

-- what is told of the keeper after a part of a message was handled; `leaves_so` is what a crash may leave
pub record Keeping {X : Type 0} (old new : Custody) (result : Result X HandlingError) (leaves_so : Type 0)
    : Type 0 where
  -- if the keeper is sound, it was; if the disk has given back what was written, it had before
  pub sound : new.sound → old.sound
  pub clean : new.clean → old.clean
  -- the keeper stays sound while it can go on, if it was sound and the disk has given back what was written
  pub stays : new.clean → old.sound → IsTrue new.is_open → new.sound
  pub leaves : new.clean → old.sound → leaves_so
  -- the keeper's calls that failed for want of storage are counted
  pub counts : Counts old.faults new.faults result
  -- only a part that failed for want of storage leaves it so that it can't go on
  pub was_open : IsTrue new.is_open → IsTrue old.is_open
  pub stays_open : ¬ IsErrOf result (Failed (Wanting Store)) → IsTrue old.is_open → IsTrue new.is_open

-- the keeper was asked to read, or wasn't asked: a crash leaves nothing that it might not have left before
abbrev pub OnlyReads : {X : Type 0} → Custody → Custody → Result X HandlingError → Type 0
OnlyReads old new result = Keeping old new result (LeavesNoMore old.may_leave new.may_leave)

-- `Keeping` after a message of a route
abbrev pub KeepsRoute : Custody → Custody → ReceivedMessage → Route → Result (List ℕ) HandlingError → Type 0
KeepsRoute old new received route result =
    Keeping old new result (LeavesRoute old.may_leave new.may_leave received old.kept (domain_named route) route)

-- `Keeping` after a message
abbrev pub KeepsMessage : Custody → Custody → ReceivedMessage → Result (List ℕ) HandlingError → Type 0
KeepsMessage old new received result =
    Keeping old new result
    (LeavesMessage old.may_leave new.may_leave received old.kept (owner received.message.now))

-- what is told of all that a server shares, after a part of a message was handled before which all of it stood: this
-- was done to cached decisions, and all still stands; without success the views are as they were
pub record Sharing {X : Type 0} (old new : Custody) (before after : ResourcesModel) (result : Result X HandlingError)
    (works_so : Type 0) : Type 0 where
  pub works : AllStand old.kept before → new.sound → works_so
  pub stands : AllStand old.kept before → new.sound → AllStand new.kept after
  pub views : OnErr result (after.views ≡ before.views)

-- no more of what a server shares was touched than a gate that was remembered
pub record OnlyForgets (old new : Custody) (before after : ResourcesModel) : Type 0 where
  pub stands : AllStand old.kept before → new.sound → AllStand new.kept after
  pub decisions : after.decisions ≡ before.decisions
  pub views : after.views ≡ before.views

-- a part of a message was handled: it was answered as `is_answered` says, and a crash may leave what `leaves_so` says,
-- or it failed
pub record Handles {X : Type 0} (old new : Custody) (result : Result X HandlingError) (is_answered leaves_so : Type 0)
    : Type 0 where
  pub answers : new.sound → is_answered
  pub keeper : Keeping old new result leaves_so

-- a message of a route was handled, which may change the domain that its path names
pub record ChangesRoute (old new : Custody) (received : ReceivedMessage) (route : Route)
    (result : Result (List ℕ) HandlingError) : Type 0 where
  pub answers : new.sound → AnswersRoute received old.kept new.kept (domain_named route) route result
  pub keeper : KeepsRoute old new received route result

-- `Handles` as a machine of the domain of that name answers
abbrev pub HandlesChange : Custody → Custody → List ℕ → Result (List ℕ) HandlingError
    → (Option DomainState → MachineAnswer) → Type 0
HandlesChange old new name result machine =
    Handles old new result (Answers old.kept new.kept name result (machine (state_of name old.kept)))
    (LeavesAnswer old.may_leave new.may_leave old.kept name (machine (state_of name old.kept)))

-- `Handles` as a machine of the domain of that name answers, which changes nothing
abbrev pub HandlesReading : Custody → Custody → List ℕ → Result (List ℕ) HandlingError
    → (Option DomainState → MachineAnswer) → Type 0
HandlesReading old new name result machine =
    Handles old new result (Answers old.kept new.kept name result (machine (state_of name old.kept)))
    (LeavesNoMore old.may_leave new.may_leave)
