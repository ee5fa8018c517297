use Rattle.std.proofs.Common.{◌≡◌, drop}
use Rattle.xa_bag.specs.Quantifier.{settling}
use Rattle.xa_bag.proofs.JoiningLemmas.{each_with}
use Rattle.xa_bag.proofs.higher_order.each_with.Given as goal

-- the rest of the values decide for all
abbrev pub invariant-loop-value : goal.invariant-loop-value
invariant-loop-value g l =
    let found = each_with (settling l.quantifier) (g.F.Inner.gives l.function) in
    found (drop l.value-index l.value-items) l.second.values ≡ found l.first.values l.second.values
