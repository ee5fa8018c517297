-- What is kept of all domains, and how one of them changes in it.
use Rattle.std.specs.Prelude.{◌≡◌, ◌≢◌, ◌<◌, ◌≤◌, ◌+◌, ◌^◌, ◌⊎◌, ℕ, List, Option, Some, None, option_map, Ok}
use Rattle.std.specs.FinMap.{FinMap, empty, get, insert, keys}
use Rattle.xa_records.specs.Changes.{Change}
use Rattle.xa_records.specs.DomainState.{DomainState, compare_bytes, new_domain}

-- a domain: its number, which no other ever has; its epoch, which rises whenever its documents, its root or its
-- source rows change; and its state
pub record Domain : Type 0 where
  pub number : ℕ
  pub epoch : ℕ
  pub state : DomainState

-- all domains by their names, and the number of the next that is made
pub record Kept : Type 0 where
  pub domains : FinMap compare_bytes Domain
  pub next : ℕ

-- no domains; the first that is made gets the number 1
abbrev pub nothing_kept : Kept
nothing_kept = record { domains = empty; next = 1 }

-- one domain, in which nothing has been put yet; the next gets the number after its own
abbrev pub one_kept : List ℕ → ℕ → ℕ → Kept
one_kept name number epoch =
    record {
      domains = insert empty name (record { number = number; epoch = epoch; state = new_domain });
      next = number + 1;
    }

-- the state of the domain of that name, if there is one
abbrev pub state_of : List ℕ → Kept → Option DomainState
state_of name kept = option_map (λ domain. domain.state) (get kept.domains name)

-- the names of all domains, in the order of their bytes
abbrev pub names_of : Kept → List (List ℕ)
names_of kept = keys kept.domains

-- no two domains have one number, each number is below the next, and that and all epochs are at most 2^63 - 1
pub record IsNumbered (kept : Kept) : Type 0 where
  pub apart : (one other : List ℕ) (a b : Domain) → get kept.domains one ≡ Some a → get kept.domains other ≡ Some b
      → a.number ≡ b.number → one ≡ other
  pub below : (name : List ℕ) (domain : Domain) → get kept.domains name ≡ Some domain → domain.number < kept.next
  pub next : kept.next < 2 ^ 63
  pub epochs : (name : List ℕ) (domain : Domain) → get kept.domains name ≡ Some domain → domain.epoch < 2 ^ 63

-- ---- one domain goes over into a state

-- two states differ at most in their tokens: documents, active or not, root and rows of the source are the same
pub record DecidesAlike (a b : DomainState) : Type 0 where
  pub documents : a.documents ≡ b.documents
  pub root : a.root ≡ b.root
  pub source : a.source ≡ b.source

-- a number is raised by one, to at most 2^63 - 1, the greatest number that a column of a table holds
abbrev pub IsRaised : ℕ → ℕ → Type 0
IsRaised old new = (new ≡ old + 1) × (new < 2 ^ 63)

-- the epoch stays if nothing that decides has changed, and else rises by one
abbrev pub IsNextEpoch : DomainState → DomainState → ℕ → ℕ → Type 0
IsNextEpoch before after old new =
    (DecidesAlike before after × (new ≡ old)) ⊎ ((¬ DecidesAlike before after) × IsRaised old new)

-- a domain that is made gets the next number, and epoch 0; one that stays keeps its number
abbrev pub Becomes : ℕ → Option Domain → Option DomainState → Option Domain → Type 0
Becomes next old None new = new ≡ None
Becomes next None (Some state) new = new ≡ Some (record { number = next; epoch = 0; state = state })
Becomes next (Some domain) (Some state) new =
    (epoch : ℕ) × IsNextEpoch domain.state state domain.epoch epoch
    × (new ≡ Some (record { number = domain.number; epoch = epoch; state = state }))

-- a number that was given is never given again
abbrev pub IsNextNumber : ℕ → Option Domain → Option DomainState → ℕ → Type 0
IsNextNumber next None (Some state) new = IsRaised next new
IsNextNumber next None None new = new ≡ next
IsNextNumber next (Some domain) state new = new ≡ next

-- the domain of that name, and no other, has gone over into that state
pub record IsChanged (old new : Kept) (name : List ℕ) (state : Option DomainState) : Type 0 where
  pub domain : Becomes old.next (get old.domains name) state (get new.domains name)
  pub others : (other : List ℕ) → other ≢ name → get new.domains other ≡ get old.domains other
  pub next : IsNextNumber old.next (get old.domains name) state new.next

-- the change was made of the domain of that name
abbrev pub IsMade : Change → List ℕ → Kept → Kept → Type 0
IsMade change name old new =
    (state : Option DomainState) × (change (state_of name old) ≡ Ok state) × IsChanged old new name state

-- ---- no number is left

-- a number is at its greatest: one more would be past 2^63 - 1
abbrev pub IsGreatest : ℕ → Type 0
IsGreatest number = 2 ^ 63 ≤ number + 1

-- a domain would have to raise what is at its greatest, in order to go over into that state: the next number if it is
-- made, its epoch if it decides otherwise
abbrev pub HasNoneLeft : ℕ → Option Domain → Option DomainState → Type 0
HasNoneLeft next old None = ⊥
HasNoneLeft next None (Some state) = IsGreatest next
HasNoneLeft next (Some domain) (Some state) = (¬ DecidesAlike domain.state state) × IsGreatest domain.epoch

-- the change is not refused, and would have to raise what is at its greatest
abbrev pub CantRaise : Change → List ℕ → Kept → Type 0
CantRaise change name old =
    (state : Option DomainState) × (change (state_of name old) ≡ Ok state)
    × HasNoneLeft old.next (get old.domains name) state
