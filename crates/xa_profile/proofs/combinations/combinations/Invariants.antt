use Rattle.std.proofs.Common.{◌≡◌, true, false, length, drop}
use Rattle.std.specs.Prelude.{nat_lt}
use Rattle.std.specs.List.{fold}
use Rattle.xa_profile.specs.Individuals.{with_each, combinations, at_most_64}
use Rattle.xa_profile.proofs.CombinationLemmas.{are_some}
use Rattle.xa_profile.proofs.combinations.combinations.Given as goal

-- the combinations so far are few enough, and with the lists that are left they are all
abbrev pub invariant-loop-places : goal.invariant-loop-places
invariant-loop-places l =
    (at_most_64 (fold with_each l.all.items (drop l.places-index l.lists)) ≡ at_most_64 (combinations l.lists))
    × (are_some (drop l.places-index l.lists) ≡ true)
    × (nat_lt 64 (length l.all.items) ≡ false)
