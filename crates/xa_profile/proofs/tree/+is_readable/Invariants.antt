use Rattle.std.proofs.Common.{◌≡◌, drop}
use Rattle.json.specs.Value.{items_view, members_view}
use Rattle.xa_profile.specs.parsing.Tree.{items_are_readable, members_are_readable}
use Rattle.xa_profile.proofs.tree.+is_readable.Given as goal

-- the items that are left decide
abbrev pub invariant-items_are_readable-loop-item : goal.invariant-items_are_readable-loop-item
invariant-items_are_readable-loop-item l = items_are_readable (items_view (drop l.item-index l.items.items)) ≡ items_are_readable (items_view l.items.items)

-- the members that are left decide
abbrev pub invariant-members_are_readable-loop-member : goal.invariant-members_are_readable-loop-member
invariant-members_are_readable-loop-member l =
    members_are_readable (members_view (drop l.member-index l.members.items)) ≡ members_are_readable (members_view l.members.items)
