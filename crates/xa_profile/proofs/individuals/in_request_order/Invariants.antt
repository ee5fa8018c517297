use Rattle.std.proofs.Common.{◌≡◌, ◌++◌, drop}
use Rattle.xa_profile.specs.Individuals.{in_request_order}
use Rattle.xa_profile.proofs.PlaceLemmas.{chosen_from}
use Rattle.xa_profile.proofs.individuals.in_request_order.Given as goal

-- the places so far, before those that are left
abbrev pub invariant-loop-place : goal.invariant-loop-place
invariant-loop-place l = l.places ++ chosen_from l.place (drop l.place l.is_chosen-items) ≡ in_request_order l.objects l.chosen
