use Rattle.std.proofs.Common.{◌≡◌, [], ◌∷◌, map, drop}
use Rattle.xa_bag.specs.HigherOrder.{holds}
use Rattle.xa_bag.specs.Quantifier.{settling}
use Rattle.xa_bag.proofs.JoiningLemmas.{verdict}
use Rattle.xa_bag.proofs.higher_order.one_with.Given as goal

-- the rest of the values decide for all
abbrev pub invariant-loop-other : goal.invariant-loop-other
invariant-loop-other g l =
    verdict (settling l.fn.quantifier) (map (λ w. holds (g.F.Inner.gives l.function) (l.value ∷ w ∷ [])) (drop l.other-index l.other-items))
    ≡ verdict (settling l.fn.quantifier) (map (λ w. holds (g.F.Inner.gives l.function) (l.value ∷ w ∷ [])) l.second.values)
