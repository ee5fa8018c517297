-- Numbers and epochs go on through every change.
use Rattle.std.proofs.Common.{◌≡◌, ◌≤◌, ℕ, List, refl, sym, ap, ◌∙◌, subst, inl, inr, arith}
use Rattle.std.specs.Prelude.{Option, Some, None, Ok, ◌⊎◌, option_map}
use Rattle.std.specs.FinMap.{get}
use Rattle.xa_records.specs.DomainState.{DomainState}
use Rattle.xa_records.specs.Kept.{Becomes, DecidesAlike, Domain, IsChanged, IsNextEpoch, IsNextNumber, Kept, state_of}
use Rattle.xa_records.proofs.FinMapLemmas.{different, here_or_elsewhere}
use Rattle.xa_records.proofs.OrderLemmas.{bytes_exact, bytes_total}
use Rattle.xa_server.specs.handling.Replying.{Answers}
use Rattle.xa_server.specs.Machine.{MachineAnswer}

-- a domain has gone on: its number stays, its epoch doesn't fall, and while it stays nothing that decides changes
pub record HasGoneOn (before after : Domain) : Type 0 where
  pub number : after.number ≡ before.number
  pub epoch : before.epoch ≤ after.epoch
  pub alike : after.epoch ≡ before.epoch → DecidesAlike before.state after.state

-- each domain that is there is new, with a number that none had, or has gone on from the one of its name
pub record HasGrown (old new : Kept) : Type 0 where
  pub next : old.next ≤ new.next
  pub each : (name : List ℕ) (domain : Domain) → get new.domains name ≡ Some domain
      → (old.next ≤ domain.number)
      ⊎ ((before : Domain) × (get old.domains name ≡ Some before) × HasGoneOn before domain)

nothing : (d : Domain) → None ≡ Some d → ⊥
nothing d e = cc

one_value : (a b : Domain) → Some a ≡ Some b → a ≡ b
one_value a b e = cc

same_goes_on : (domain : Domain) → HasGoneOn domain domain
same_goes_on domain = record { number = refl; epoch = omega arith; alike = λ _. record { documents = refl; root = refl; source = refl } }

goes : (before : Domain) (state : DomainState) (epoch : ℕ) → IsNextEpoch before.state state before.epoch epoch
    → HasGoneOn before (record { number = before.number; epoch = epoch; state = state })
goes before state epoch (inl (alike, same)) = record { number = refl; epoch = omega arith; alike = λ _. alike }
goes before state epoch (inr (differs, (up, fits))) = record { number = refl; epoch = omega arith; alike = λ same. absurd (omega arith) }

-- a domain of the changed name is new, or has gone on
went : (next after : ℕ) (old : Option Domain) (state : Option DomainState) (new : Option Domain) (d : Domain) → Becomes next old state new → new ≡ Some d
    → (next ≤ d.number) ⊎ ((before : Domain) × (old ≡ Some before) × HasGoneOn before d)
went next after None None new d becomes there = absurd (nothing d (sym becomes ∙ there))
went next after (Some before) None new d becomes there = absurd (nothing d (sym becomes ∙ there))
went next after None (Some state) new d becomes there =
    let e : next ≡ d.number = ap (λ x. x.number) (one_value (record { number = next; epoch = 0; state = state }) d (sym becomes ∙ there)) in inl (omega arith)
went next after (Some before) (Some state) new d (epoch, is, becomes) there =
    inr (before, refl, subst (HasGoneOn before) (one_value (record { number = before.number; epoch = epoch; state = state }) d (sym becomes ∙ there)) (goes before state epoch is))

rises : (next : ℕ) (old : Option Domain) (state : Option DomainState) (after : ℕ) → IsNextNumber next old state after → next ≤ after
rises next None None after is = omega arith
rises next None (Some state) after (up, fits) = omega arith
rises next (Some domain) None after is = omega arith
rises next (Some domain) (Some state) after is = omega arith

pub grows : (old new : Kept) (name : List ℕ) (state : Option DomainState) → IsChanged old new name state → HasGrown old new
grows old new name state changed = record {
  next = rises old.next (get old.domains name) state new.next changed.next;
  each = λ q d there. elim (here_or_elsewhere bytes_exact q name) [
    | inl here ↦ elim (went old.next new.next (get old.domains name) state (get new.domains name) d changed.domain (ap (get new.domains) (sym here) ∙ there)) [
      | inl fresh ↦ inl fresh
      | inr on ↦ inr (on.0, ap (get old.domains) here ∙ on.1, on.2)
    ]
    | inr away ↦ inr (d, sym (changed.others q (different bytes_total q name away)) ∙ there, same_goes_on d)
  ];
}

state_after : (next : ℕ) (old : Option Domain) (state : Option DomainState) (new : Option Domain) → Becomes next old state new → option_map (λ d. d.state) new ≡ state
state_after next None None new becomes = rw becomes refl
state_after next (Some before) None new becomes = rw becomes refl
state_after next None (Some state) new becomes = rw becomes refl
state_after next (Some before) (Some state) new (epoch, is, becomes) = rw becomes refl

-- the domain that has gone over is in that state
pub changed_state : (old new : Kept) (name : List ℕ) (state : Option DomainState) → IsChanged old new name state → state_of name new ≡ state
changed_state old new name state changed = state_after old.next (get old.domains name) state (get new.domains name) changed.domain

-- where nothing has changed, the domain has gone over into the state in which it was
becomes_same : (next : ℕ) (old : Option Domain) → Becomes next old (option_map (λ d. d.state) old) old
becomes_same next None = refl
becomes_same next (Some domain) = (domain.epoch, inl (record { documents = refl; root = refl; source = refl }, refl), refl)

number_same : (next : ℕ) (old : Option Domain) → IsNextNumber next old (option_map (λ d. d.state) old) next
number_same next None = refl
number_same next (Some domain) = refl

unchanged : (old : Kept) (name : List ℕ) → IsChanged old old name (state_of name old)
unchanged old name = record { domain = becomes_same old.next (get old.domains name); others = λ other apart. refl; next = number_same old.next (get old.domains name) }

pub stays : (old new : Kept) (name : List ℕ) → new ≡ old → IsChanged old new name (state_of name old)
stays old new name same = subst (λ k. IsChanged old k name (state_of name old)) (sym same) (unchanged old name)

-- what is read is answered so, and nothing has changed
pub reads : (old new : Kept) (name bytes : List ℕ) (meant : MachineAnswer) → meant ≡ Ok (bytes, state_of name old) → new ≡ old → Answers old new name (Ok bytes) meant
reads old new name bytes meant is same = (state_of name old, is, stays old new name same)
