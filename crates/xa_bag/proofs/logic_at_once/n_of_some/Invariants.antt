use Rattle.std.proofs.Common.{◌≡◌, map, drop}
use Rattle.xa_func.specs.Logic.{or_of}
use Rattle.xa_bag.specs.LogicAtOnce.{n_of_value}
use Rattle.xa_bag.proofs.logic_at_once.n_of_some.Given as goal

-- the rest of the numbers decide for all
abbrev pub invariant-loop-number : goal.invariant-loop-number
invariant-loop-number l =
    or_of (map (n_of_value l.trues l.booleans) (drop l.number-index l.numbers)) ≡ or_of (map (n_of_value l.trues l.booleans) l.numbers)
