-- How many nodes a tree has, which `View::nodes` gives: its policies and policy sets, and the references that lead
-- nowhere. Nothing that is decided rests on it.
use Rattle.std.specs.Prelude.{ℕ, ◌+◌, ◌-◌, ◌^◌, min, List, map, sum, Option, Some, None, Result, Ok, Err}
use Rattle.xa_policy.specs.declared.linked.Linked.{Linked, fold-Linked}
use Rattle.xa_policy.specs.declared.linked.Linked.TheOpen.{Linked-F}
use Rattle.xa_link.specs.declared.link_error.LinkError.{LinkError}

-- the nodes of each element of a tree, by those of its children: each policy, each policy set and each reference that
-- leads nowhere is one
abbrev pub nodes_step : Linked-F ℕ → ℕ
nodes_step Linked-F.Unresolved = 1
nodes_step (Linked-F.Policy policy) = 1
nodes_step (Linked-F.PolicySet set children) = 1 + sum children

abbrev pub nodes : Linked → ℕ
nodes = fold-Linked ℕ nodes_step

-- the nodes of several trees together
abbrev pub nodes_of_all : List Linked → ℕ
nodes_of_all trees = sum (map nodes trees)

-- a number as far as it can be counted
abbrev pub counted : ℕ → ℕ
counted n = min n (2 ^ 64 - 1)

-- the nodes of the tree that decides; none if there is no tree, or it is too large
abbrev pub nodes_of_tree : Option (Result Linked LinkError) → ℕ
nodes_of_tree None = 0
nodes_of_tree (Some (Err e)) = 0
nodes_of_tree (Some (Ok tree)) = counted (nodes tree)
