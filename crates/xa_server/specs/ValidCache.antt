-- When a cached decision may be given again.
use Rattle.std.specs.Prelude.{◌≡◌, ℕ, ℤ, List, Option, Some, option_map}
use Rattle.std.specs.List.{AllByRecursion}
use Rattle.xa_cache.specs.declared.key.Key.{Key}
use Rattle.xa_decide.specs.Decision as decision
use Rattle.xa_records.specs.DomainState.{DomainState}
use Rattle.xa_records.specs.Kept.{Kept}
use Rattle.xa_server.specs.Standing.{StandsUnder}
use Rattle.xa_server.specs.View.{view_of}

-- the body of the response that a domain in that state gives to the body of a request at a moment, if that is JSON
unfoldable pub response_body_at : DomainState → List ℕ → ℤ → Option (List ℕ)
response_body_at state request moment = option_map decision.body_of (decision.answer (view_of state) request moment)

-- a domain in that state gives the cached body of a response at every moment
abbrev pub GivesBody : Key × List ℕ → DomainState → Type 0
GivesBody entry state = (moment : ℤ) → response_body_at state entry.0.body moment ≡ Some entry.1

-- a cached decision is valid: the domain of the key's number gives its body at every moment, if it is still there and
-- at the key's epoch
abbrev pub IsValid : Kept → Key × List ℕ → Type 0
IsValid kept entry = StandsUnder kept entry.0.number entry.0.epoch (GivesBody entry)

-- all cached decisions are valid
abbrev pub AreValid : Kept → List (Key × List ℕ) → Type 0
AreValid kept cached = AllByRecursion (IsValid kept) cached
