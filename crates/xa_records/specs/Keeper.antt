-- What a call of a keeper did.
use Rattle.std.specs.Prelude.{◌≡◌, ◌+◌, ◌^◌, ◌⊎◌, ℕ, Bool, true, List, Result, Ok, Err, IsErrOf, IsTrue}
use Rattle.xa_value.specs.declared.or_memory.OrMemory.{OrMemory}
use Rattle.xa_value.specs.declared.or_memory.OrMemory.TheVariants as or_memory
use Rattle.xa_value.specs.declared.read_error.ReadError.{ReadError}
use Rattle.xa_records.specs.declared.refusal.ChangeError.{ChangeError}
use Rattle.xa_records.specs.declared.refusal.ChangeError.TheVariants.{Failed, Refused}
use Rattle.xa_records.specs.declared.refusal.Failure.{Failure}
use Rattle.xa_records.specs.declared.refusal.Failure.TheVariants.{Memory, Store}
use Rattle.xa_records.specs.Changes.{Change}
use Rattle.xa_records.specs.Kept.{Kept, IsMade, state_of}

-- why a kept value isn't read: want of memory, or its text is none of its type
abbrev pub failure_of_value : OrMemory ReadError → Failure
failure_of_value or_memory.Memory = Memory
failure_of_value (or_memory.Error fault) = Store

-- a call has read what is there, or failed; and nothing has changed
abbrev pub Reads : {X : Type 0} → Kept → Kept → Result X Failure → X → Type 0
Reads old new (Ok x) there = (x ≡ there) × (new ≡ old)
Reads old new (Err failure) there = new ≡ old

-- a call has made the change; or it refuses as the change does, or failed, and then nothing has changed
abbrev pub Changes : {X : Type 0} → Kept → Kept → Result X ChangeError → List ℕ → Change → Type 0
Changes old new (Ok x) name change = IsMade change name old new
Changes old new (Err (Refused e)) name change = (change (state_of name old) ≡ Err e) × (new ≡ old)
Changes old new (Err (Failed failure)) name change = new ≡ old

-- what a crash may leave after a call that was to make a change: what it might have left before, or all with that
-- change made
abbrev pub Leaves : (Kept → Type 0) → (Kept → Type 0) → Kept → List ℕ → Change → Type 0
Leaves before after old name change = (left : Kept) → after left → before left ⊎ IsMade change name old left

-- the claim, unless the call failed
abbrev pub IfAnswered : {X : Type 0} → Result X ChangeError → Type 0 → Type 0
IfAnswered (Ok x) claim = claim
IfAnswered (Err (Refused e)) claim = claim
IfAnswered (Err (Failed failure)) claim = Unit {0}

-- a count is raised by one, or stays if no more can be counted
abbrev pub IsOneMore : ℕ → ℕ → Type 0
IsOneMore old new = (new ≡ old + 1) ⊎ ((old + 1 ≡ 2 ^ 64) × (new ≡ old))

-- a reading that answers `Store` is counted, and no other
abbrev pub CountsReading : {X : Type 0} → ℕ → ℕ → Result X Failure → Type 0
CountsReading old new (Ok x) = new ≡ old
CountsReading old new (Err Memory) = new ≡ old
CountsReading old new (Err Store) = IsOneMore old new

-- a change that answers `Store` is counted, and no other
abbrev pub CountsChange : {X : Type 0} → ℕ → ℕ → Result X ChangeError → Type 0
CountsChange old new (Ok x) = new ≡ old
CountsChange old new (Err (Refused e)) = new ≡ old
CountsChange old new (Err (Failed Memory)) = new ≡ old
CountsChange old new (Err (Failed Store)) = IsOneMore old new

-- what is told of a keeper
pub record Custody : Type 1 where
  -- the domains that it keeps
  pub kept : Kept
  -- whether that is what it holds: in memory always, in tables while its store is open and nobody else writes there
  pub sound : Type 0
  -- whether the disk has given back what was written
  pub clean : Type 0
  -- what a crash now may leave
  pub may_leave : Kept → Type 0
  -- how many calls have failed for want of storage
  pub faults : ℕ
  -- whether it can go on: in memory always, in tables until its store was found to be shut, or couldn't be looked at
  pub is_open : Bool

-- a call reads what is there
pub record Reading {X : Type 0} (old new : Custody) (result : Result X Failure) (there : X) : Type 0 where
  pub reads : new.sound → Reads old.kept new.kept result there
  pub sound : new.sound → old.sound
  pub clean : new.clean → old.clean
  -- one that can go on is sound still, whatever the call has answered
  pub stays : new.clean → old.sound → IsTrue new.is_open → new.sound
  pub leaves : new.clean → old.sound → (left : Kept) → new.may_leave left → old.may_leave left
  pub faults : CountsReading old.faults new.faults result
  -- only a call that answers Store shuts it; and once it is shut, each call answers Store
  pub was_open : IsTrue new.is_open → IsTrue old.is_open
  pub stays_open : ¬ IsErrOf result Store → IsTrue new.is_open

-- a call makes a change of the domain of that name
pub record Changing {X : Type 0} (old new : Custody) (result : Result X ChangeError) (name : List ℕ) (change : Change)
    : Type 0 where
  pub does : new.sound → Changes old.kept new.kept result name change
  pub sound : new.sound → old.sound
  pub clean : new.clean → old.clean
  pub stays : new.clean → old.sound → IsTrue new.is_open → new.sound
  pub leaves : new.clean → old.sound → Leaves old.may_leave new.may_leave old.kept name change
  pub faults : CountsChange old.faults new.faults result
  pub was_open : IsTrue new.is_open → IsTrue old.is_open
  pub stays_open : ¬ IsErrOf result (Failed Store) → IsTrue new.is_open

-- the keeper in memory: always sound and open, and a crash leaves nothing
abbrev pub in_memory : Kept → ℕ → Custody
in_memory kept faults =
    record { kept = kept; sound = Unit {0}; clean = Unit {0}; may_leave = λ _. ⊥; faults = faults; is_open = true }
