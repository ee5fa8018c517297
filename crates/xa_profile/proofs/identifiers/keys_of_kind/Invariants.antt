use Rattle.std.proofs.Common.{◌≡◌, map, drop, ◌++◌}
use Rattle.xa_profile.specs.Response.{identifier_data, of_kind}
use Rattle.xa_profile.proofs.identifiers.keys_of_kind.Given as goal

-- those that were found, and then those among the keys that are left
abbrev pub invariant-loop-key : goal.invariant-loop-key
invariant-loop-key l = map (λ k. identifier_data k.now) l.found.items ++ of_kind l.kind (drop l.key-index l.keys) ≡ of_kind l.kind l.keys
