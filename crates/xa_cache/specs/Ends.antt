-- What a cache holds once what was lent of it is given back.
use Rattle.std.specs.Prelude.{◌≡◌, ℕ, List, ⊤}
use Rattle.std.specs.Borrow.{Fml, MutBor, follows_so}
use mathlib.Core.Option.{none}
use Rattle.xa_cache.specs.declared.key.Key.{Key}
use Rattle.xa_cache.specs.contracts.cache.Cache.{the_row}

-- a cache holds these bodies, once what was lent of it is given back
abbrev pub ends_as : MutBor (List (Key × List ℕ)) → List (Key × List ℕ) → Fml
ends_as cache bodies = follows_so the_row the_row cache.ghost_name none (λ _ _. ⊤) (λ held. held ≡ bodies)
