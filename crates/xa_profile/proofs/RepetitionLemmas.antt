-- A text stands twice where it is among those that were seen before it.
use Rattle.std.proofs.Common.{◌≡◌, ℕ, Bool, true, false, cond, List, [], ◌∷◌, refl, ap, sym, ◌∙◌}
use Rattle.std.specs.Prelude.{◌||◌, not, bytes_eq}
use Rattle.std.specs.List.{list_any}
use Rattle.xa_profile.specs.Request.{has_twice}

-- one more text is seen
seen_first : (e : Bool) (s a b : Bool) → (cond e true s || (a || b)) ≡ ((s || a) || (e || b))
seen_first true true true b = refl
seen_first true true false b = refl
seen_first true false true b = refl
seen_first true false false b = refl
seen_first false true true b = refl
seen_first false true false b = refl
seen_first false false true b = refl
seen_first false false false b = refl

seen_more : (before after : List ℕ → Bool) (t : List ℕ) → ((q : List ℕ) → after q ≡ cond (bytes_eq t q) true (before q)) → (ts : List (List ℕ))
    → list_any after ts ≡ (list_any before ts || list_any (bytes_eq t) ts)
seen_more before after t put [] = refl
seen_more before after t put (u ∷ ts) =
    ap (λ b. b || list_any after ts) (put u) ∙ ap (λ b. cond (bytes_eq t u) true (before u) || b) (seen_more before after t put ts)
    ∙ seen_first (bytes_eq t u) (before u) (list_any before ts) (list_any (bytes_eq t) ts)

-- some text was seen, or stands twice
abbrev pub is_repeated : (List ℕ → Bool) → List (List ℕ) → Bool
is_repeated seen ts = list_any seen ts || has_twice ts

or_assoc : (a b c : Bool) → ((a || b) || c) ≡ (a || (b || c))
or_assoc true b c = refl
or_assoc false b c = refl

pub repeated_later : (before after : List ℕ → Bool) (t : List ℕ) (ts : List (List ℕ)) → ((q : List ℕ) → after q ≡ cond (bytes_eq t q) true (before q)) → before t ≡ false
    → is_repeated after ts ≡ is_repeated before (t ∷ ts)
repeated_later before after t ts put new =
    ap (λ b. b || has_twice ts) (seen_more before after t put ts) ∙ or_assoc (list_any before ts) (list_any (bytes_eq t) ts) (has_twice ts)
    ∙ sym (ap (λ b. (b || list_any before ts) || (list_any (bytes_eq t) ts || has_twice ts)) new)

pub repeated_now : (seen : List ℕ → Bool) (t : List ℕ) (ts : List (List ℕ)) → seen t ≡ true → is_repeated seen (t ∷ ts) ≡ true
repeated_now seen t ts was = rw was refl

pub repeated_first : (seen : List ℕ → Bool) (ts : List (List ℕ)) → ((q : List ℕ) → seen q ≡ false) → is_repeated seen ts ≡ has_twice ts
repeated_first seen ts none = ap (λ b. b || has_twice ts) (none_of ts) where
  none_of : (us : List (List ℕ)) → list_any seen us ≡ false
  none_of [] = refl
  none_of (u ∷ us) = rw (none u, none_of us) refl

-- what is new was not there
pub was_new : (added there : Bool) → added ≡ not there → added ≡ true → there ≡ false
was_new added true e h = cc
was_new added false e h = refl
