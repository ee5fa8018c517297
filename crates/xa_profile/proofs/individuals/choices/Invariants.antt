use Rattle.std.proofs.Common.{◌≡◌, map, drop}
use Rattle.std.specs.List.{range_with_len}
use Rattle.xa_profile.specs.Individuals.{is_chosen}
use Rattle.xa_profile.proofs.PlaceLemmas.{choices_with}
use Rattle.xa_profile.proofs.individuals.choices.Given as goal

-- the choices so far, with the places that are left
abbrev pub invariant-loop-place : goal.invariant-loop-place
invariant-loop-place l = choices_with l.choices.items (drop l.place-index l.chosen) ≡ map (is_chosen l.chosen) (range_with_len 0 l.count)
