-- Cached views, each under its domain's number, the most recently used first.
use Rattle.std.specs.Prelude.{◌+◌, ◌*◌, ◌-◌, ◌&&◌, ℕ, List, [], ◌∷◌, Option, Some, None, min, nat_eq, nat_le, nat_lt}
use Rattle.std.specs.Prelude.{option_and_then, take, ◌^◌, if◌then◌else◌}
use Rattle.std.specs.Map.{lookup, remove_entry}
use Rattle.lru.specs.LruCache.{promoted as entries_promoted}
use Rattle.xa_decide.specs.Decision.{Viewed}
use Rattle.xa_decide.specs.Nodes.{nodes_of_tree}
use Rattle.xa_server.specs.declared.cached_view.CachedView.{CachedView}
use Rattle.xa_server.specs.Resources.{ViewsModel}

-- a cached view, if it is of that epoch
abbrev pub view_if : ℕ → CachedView → Option Viewed
view_if epoch ready = if nat_eq ready.revision.epoch epoch then Some ready.view else None

-- the cached view under a number, if it is of that epoch
abbrev pub view_ready : ℕ → ℕ → List (ℕ × CachedView) → Option Viewed
view_ready number epoch views = option_and_then (view_if epoch) (lookup (nat_eq number) views)

-- the cached views after the one under a number was made the most recently used
abbrev pub promoted : ℕ → ViewsModel → ViewsModel
promoted number cached = record cached { views = entries_promoted (nat_eq number) cached.views }

-- the cached views without the one under a number
abbrev pub without : ℕ → ViewsModel → ViewsModel
without number cached = record cached { views = remove_entry (nat_eq number) cached.views }

-- how many views from the front of a list find room, if there is room for so many of so many bytes
abbrev pub fitting_count : ℕ → ℕ → List (ℕ × CachedView) → ℕ
fitting_count most bytes [] = 0
fitting_count most bytes (entry ∷ entries) =
    if nat_lt 0 most && nat_le entry.1.bytes bytes then fitting_count (most - 1) (bytes - entry.1.bytes) entries + 1
    else 0

-- a list of views with one more first, and nothing else under its number
abbrev pub in_front : ℕ → CachedView → List (ℕ × CachedView) → List (ℕ × CachedView)
in_front number ready views = (number, ready) ∷ remove_entry (nat_eq number) views

-- the views from the front of a list, as many as find room
abbrev pub shortened : ℕ → ℕ → List (ℕ × CachedView) → List (ℕ × CachedView)
shortened most bytes views = take (fitting_count most bytes views) views

-- the cached views with one more under a number
abbrev pub with_view : ℕ → CachedView → ViewsModel → ViewsModel
with_view number ready cached =
    record cached { views = shortened cached.max_count cached.max_bytes (in_front number ready cached.views) }

-- a sum, as far as numbers of 64 bits go
abbrev pub added : ℕ → ℕ → ℕ
added a b = min (a + b) (2 ^ 64 - 1)

-- a product, as far as numbers of 64 bits go
abbrev pub times : ℕ → ℕ → ℕ
times a b = min (a * b) (2 ^ 64 - 1)

-- the memory by which a view is counted but for its tree: 8 bytes for each byte of the texts that were read for it, 512
-- for each row, and 524,288 for the rest
abbrev pub bytes_of_view : ℕ → ℕ → ℕ
bytes_of_view bytes_read rows = added (added (times bytes_read 8) (times rows 512)) 524_288

-- the memory by which a view's tree is counted: 24 bytes for each node
abbrev pub bytes_of_tree : Viewed → ℕ
bytes_of_tree view = times (nodes_of_tree view.tree) 24
