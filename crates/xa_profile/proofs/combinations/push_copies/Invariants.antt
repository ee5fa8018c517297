use Rattle.std.proofs.Common.{◌≡◌, [], ◌∷◌, ◌++◌, map, drop}
use Rattle.xa_profile.proofs.combinations.push_copies.Given as goal

-- the copies so far, before those with the places that are left
abbrev pub invariant-loop-place : goal.invariant-loop-place
invariant-loop-place l =
    l.all.items ++ map (λ place. l.combination ++ place ∷ []) (drop l.place-index l.places)
    ≡ l.fn.all.items ++ map (λ place. l.combination ++ place ∷ []) l.places
