use Rattle.std.proofs.Common.{◌≡◌, ◌++◌, drop, map}
use Rattle.xa_decide.proofs.work.Work.ordered_members.Given as goal

-- the values of the attributes so far, before those of the attributes that are left
abbrev pub invariant-loop-attribute : goal.invariant-loop-attribute
invariant-loop-attribute l = l.members.items ++ map (λ a. a.values) (drop l.attribute-index l.attributes) ≡ map (λ a. a.values) l.attributes
