use Rattle.std.proofs.Common.{◌≡◌, map, drop, ◌++◌}
use Rattle.xa_profile.specs.writing.Tokens.{items_behind}
use Rattle.xa_profile.proofs.writing.write_items.Given as goal

-- what was written, and then the items that are left
abbrev pub invariant-loop-item : goal.invariant-loop-item
invariant-loop-item g l =
    (l.out.before ≡ l.initial.out.before)
    × (l.out.tokens ++ items_behind (map g.T.ToJson.written (drop l.item-index l.items)) ≡ l.initial.out.tokens ++ items_behind (map g.T.ToJson.written l.items))
