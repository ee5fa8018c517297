use Rattle.std.proofs.Common.{◌≡◌, ◌++◌, map, drop}
use Rattle.xa_profile.specs.declared.individuals.Individual.TheVariants.{Places}
use Rattle.xa_profile.specs.Individuals.{in_request_order}
use Rattle.xa_profile.proofs.individuals.individuals_combined.Given as goal

-- the individuals so far, before those of the combinations that are left
abbrev pub invariant-loop-combination : goal.invariant-loop-combination
invariant-loop-combination l =
    l.individuals ++ map (λ combination. Places (in_request_order l.objects combination)) (drop l.combination-index l.combination-items)
    ≡ map (λ combination. Places (in_request_order l.objects combination)) l.combination-items
