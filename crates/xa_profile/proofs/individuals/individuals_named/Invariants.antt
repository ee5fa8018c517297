use Rattle.std.proofs.Common.{◌≡◌, ◌++◌, map, drop}
use Rattle.xa_profile.specs.Individuals.{individual_named}
use Rattle.xa_profile.proofs.individuals.individuals_named.Given as goal

-- the individuals so far, before those that the references that are left name
abbrev pub invariant-loop-reference : goal.invariant-loop-reference
invariant-loop-reference l =
    l.individuals ++ map (individual_named l.objects) (drop l.reference-index l.references) ≡ map (individual_named l.objects) l.references
