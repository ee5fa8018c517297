use Rattle.std.proofs.Common.{◌≡◌, ◌∷◌, ◌++◌, drop}
use Rattle.xa_link.proofs.linking.longer_path.Given as goal

-- the places so far, and then those that are left
abbrev pub invariant-loop-before : goal.invariant-loop-before
invariant-loop-before l = l.longer ++ drop l.before-index l.path ≡ l.place ∷ l.path
