use Rattle.std.proofs.Common.{◌≡◌, ◌∷◌, drop}
use Rattle.xa_expr.specs.declared.matching.Matching.TheVariants.{Match}
use Rattle.xa_policy.specs.Combining.{only_one_applicable}
use Rattle.xa_policy.proofs.combining.unless_another_applies.Given as goal

-- the others that were seen change nothing
abbrev pub invariant-loop-other : goal.invariant-loop-other
invariant-loop-other l =
    only_one_applicable (record { decision = l.decision; target = Match } ∷ drop l.other-index l.others)
    ≡ only_one_applicable (record { decision = l.decision; target = Match } ∷ l.others)
