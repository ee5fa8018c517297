-- The cached decisions of a server, and its counts.
use Rattle.std.specs.Prelude.{ℕ, List, []}
use Rattle.xa_cache.specs.declared.key.Key.{Key}

-- the cached decisions of a server: their bodies, the most recently used first; how many decisions were evaluated; how
-- many were to be cached, and weren't for want of memory
pub record DecisionsModel : Type 0 where
  pub cached : List (Key × List ℕ)
  pub evaluations : ℕ
  pub unkept : ℕ

-- the cached decisions with which a server begins: none
abbrev pub nothing_cached : DecisionsModel
nothing_cached = record { cached = []; evaluations = 0; unkept = 0 }
