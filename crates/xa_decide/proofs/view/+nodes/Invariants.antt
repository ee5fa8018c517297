use Rattle.std.proofs.Common.{◌≡◌, ◌+◌, drop}
use Rattle.xa_decide.specs.Nodes.{counted, nodes_of_all}
use Rattle.xa_decide.proofs.view.+nodes.Given as goal

-- those so far can be counted, and with those of the rest they are those of all, as far as these can be counted
abbrev pub invariant-nodes_of_all-loop-tree : goal.invariant-nodes_of_all-loop-tree
invariant-nodes_of_all-loop-tree l =
    (counted l.nodes ≡ l.nodes) × (counted (l.nodes + nodes_of_all (drop l.tree-index l.trees)) ≡ counted (nodes_of_all l.trees))
