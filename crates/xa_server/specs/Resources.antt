-- What a server caches for all domains, and that it still stands: words that only private functions and the server's
-- invariant cite.
use Rattle.std.specs.Prelude.{◌≡◌, ℕ, List, [], Some}
use Rattle.std.specs.List.{AllByRecursion}
use Rattle.xa_records.specs.declared.gate.Gate.{Gate}
use Rattle.xa_records.specs.Kept.{Kept}
use Rattle.xa_records.specs.Readings.{gate_of}
use Rattle.xa_server.specs.declared.cached_view.CachedView.{CachedView}
use Rattle.xa_server.specs.Decisions.{DecisionsModel, nothing_cached}
use Rattle.xa_server.specs.Standing.{StandsUnder}
use Rattle.xa_server.specs.ValidCache.{AreValid}
use Rattle.xa_server.specs.View.{view_of}

-- the cached views, how many of them there may be, and how many bytes they may take together
pub record ViewsModel : Type 0 where
  pub views : List (ℕ × CachedView)
  pub max_count : ℕ
  pub max_bytes : ℕ

-- what a server caches: decisions with their counts, views, and gates that are remembered
pub record ResourcesModel : Type 0 where
  pub decisions : DecisionsModel
  pub views : ViewsModel
  pub gates : List (List ℕ × Gate)

-- what is cached as a server begins: nothing
abbrev pub empty_resources : ResourcesModel
empty_resources = record {
  decisions = nothing_cached;
  views = record { views = []; max_count = 128; max_bytes = 268_435_456 };
  gates = [];
}

-- a cached view is that of the domain of its number, if this is still there and at the view's epoch
abbrev pub IsReady : Kept → ℕ × CachedView → Type 0
IsReady kept entry = StandsUnder kept entry.0 entry.1.revision.epoch (λ state. view_of state ≡ entry.1.view)

-- all cached views are right
abbrev pub AreReady : Kept → List (ℕ × CachedView) → Type 0
AreReady kept views = AllByRecursion (IsReady kept) views

-- a remembered gate is that of the domain of its name
abbrev pub IsGate : Kept → List ℕ × Gate → Type 0
IsGate kept entry = gate_of entry.0 kept ≡ Some entry.1

-- all remembered gates are right
abbrev pub AreGates : Kept → List (List ℕ × Gate) → Type 0
AreGates kept gates = AllByRecursion (IsGate kept) gates

-- all that is cached stands: each decision may be given again, each view may decide, and each gate that is remembered
-- is its domain's
pub record AllStand (kept : Kept) (resources : ResourcesModel) : Type 0 where
  pub decisions : AreValid kept resources.decisions.cached
  pub views : AreReady kept resources.views.views
  pub gates : AreGates kept resources.gates
