-- Cached views, as a list.
use Rattle.std.proofs.Common.{◌≡◌, ℕ, ◌-◌, ◌≤◌, true, false, nat_eq, List, [], ◌∷◌, length, take, take_all, Option, Some, None, refl, sym, ap, ◌∙◌}
use Rattle.std.specs.Map.{lookup_entry, remove_entry}
use Rattle.std.specs.Option.{option_map_or}
use Rattle.std.proofs.lemmas.Bool.{eqb-true}
use Rattle.lru.specs.LruCache.{LruCache, put_entries}
use Rattle.lru.proofs.CallerLemmas.{Contains-lookup_entry}
use Rattle.xa_server.specs.declared.cached_view.CachedView.{CachedView}
use Rattle.xa_server.specs.handling.Views.{in_front}

-- where nothing stands under a number, nothing is taken away
none : (number : ℕ) (es : List (ℕ × CachedView)) → lookup_entry (nat_eq number) es ≡ None → remove_entry (nat_eq number) es ≡ es
none number [] h = refl
none number (f ∷ es) h = (elim (nat_eq number f.0) as (λ y. nat_eq number f.0 ≡ y → remove_entry (nat_eq number) (f ∷ es) ≡ f ∷ es) [
  | true ↦ λ t. let h' = rw t at h in absurd cc
  | false ↦ λ t. rw t (ap (λ fs. f ∷ fs) (none number es (rw t at h)))
]) refl

put_at : (number : ℕ) (ready : CachedView) (es : List (ℕ × CachedView)) (cap : ℕ) (there : Option (ℕ × CachedView)) → length es ≤ cap - 1 → lookup_entry (nat_eq number) es ≡ there
    → option_map_or (λ e. (e.0, ready) ∷ remove_entry (nat_eq number) es) there ((number, ready) ∷ take (cap - 1) es) ≡ in_front number ready es
put_at number ready es cap None short h = ap (λ fs. (number, ready) ∷ fs) (take_all (cap - 1) es short ∙ sym (none number es h))
put_at number ready es cap (Some e) short h =
    ap (λ n. (n, ready) ∷ remove_entry (nat_eq number) es) (sym (eqb-true number e.0 (Contains-lookup_entry (nat_eq number) es e h).1))

-- to put a view into a map that isn't full is to put it in front
pub put_front : (number : ℕ) (ready : CachedView) (c : LruCache ℕ CachedView) → length c.entries ≤ c.cap - 1 → put_entries nat_eq c number ready ≡ in_front number ready c.entries
put_front number ready c short = put_at number ready c.entries c.cap (lookup_entry (nat_eq number) c.entries) short refl
