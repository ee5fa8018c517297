-- What is kept of a domain by its number and an epoch, and when it still stands.
use Rattle.std.specs.Prelude.{◌≡◌, ◌≤◌, ◌<◌, ℕ, List, Some}
use Rattle.std.specs.FinMap.{get}
use Rattle.xa_records.specs.DomainState.{DomainState}
use Rattle.xa_records.specs.Kept.{Domain, Kept}

-- what was found at an epoch still stands for a domain: the domain's epoch is that one or a later one; while it is that
-- one, `Holds` is true of its state
abbrev pub StandsFor : ℕ → (DomainState → Type 0) → Domain → Type 0
StandsFor epoch Holds domain = (epoch ≤ domain.epoch) × (epoch ≡ domain.epoch → Holds domain.state)

-- what was found at a number and an epoch still stands: the number was given to a domain, and if that domain is still
-- there, it stands for it
abbrev pub StandsUnder : Kept → ℕ → ℕ → (DomainState → Type 0) → Type 0
StandsUnder kept number epoch Holds =
    (number < kept.next)
    × ((name : List ℕ) (domain : Domain) → get kept.domains name ≡ Some domain → domain.number ≡ number
    → StandsFor epoch Holds domain)
