use Rattle.std.proofs.Common.{◌≡◌, ◌+◌, ◌*◌, ◌∷◌, map, drop}
use denote.Param.Weighed.{most}
use Rattle.xa_policy.specs.Evaluation as spec
use Rattle.xa_policy.specs.walking.Walk.{named_up_to, of_none, walked, with_named}
use Rattle.xa_policy.proofs.IdLemmas.{of_the_one}
use Rattle.xa_policy.proofs.OnlyOneLemmas.{evaluated}
use Rattle.xa_policy.proofs.linked.Linked.TheLaws.{the_size}
use Rattle.xa_policy.proofs.evaluation.+evaluation.Given as goal

-- each call is of a smaller tree, or of the same children further in
abbrev pub decreases-evaluate_linked : goal.decreases-evaluate_linked
decreases-evaluate_linked g l = 8 * the_size l.linked.now

abbrev pub decreases-walk_children : goal.decreases-walk_children
decreases-walk_children g l = 8 * most the_size l.children.now + 1

abbrev pub decreases-child_unless_another : goal.decreases-child_unless_another
decreases-child_unless_another g l = 8 * the_size l.child.now + 1

abbrev pub decreases-only_applicable_child : goal.decreases-only_applicable_child
decreases-only_applicable_child g l = 8 * most the_size l.children.now + 2

abbrev pub decreases-combine_children : goal.decreases-combine_children
decreases-combine_children g l = 8 * most the_size l.children.now + 3

abbrev pub decreases-evaluate_set : goal.decreases-evaluate_set
decreases-evaluate_set g l = 8 * most the_size l.children.now + 4

-- what the children so far come to decides with the rest as all children do; and what the rest name stands behind what is named so far
abbrev pub invariant-walk_children-loop-child : goal.invariant-walk_children-loop-child
invariant-walk_children-loop-child g l =
    let child = spec.evaluated (g.C.Context.values_of l.context) in
    let element = spec.element (g.C.Context.values_of l.context) in
    record {
      algorithm : l.so_far.algorithm ≡ l.fn.algorithm;
      value : walked l.so_far (map child (drop l.child-index l.children)) ≡ walked (of_none l.fn.algorithm) (map child l.children);
      named : with_named l.ids (named_up_to l.fn.algorithm (map element (drop l.child-index l.children)))
          ≡ with_named l.fn.ids (named_up_to l.fn.algorithm (map element l.children));
    }

-- the children that were asked change nothing
abbrev pub invariant-only_applicable_child-loop-place : goal.invariant-only_applicable_child-loop-place
invariant-only_applicable_child-loop-place g l =
    let child = spec.evaluated (g.C.Context.values_of l.context) in
    let element = spec.element (g.C.Context.values_of l.context) in
    record {
      value : evaluated (map child (drop l.place l.children)) ≡ evaluated (map child l.children);
      kept : l.ids ≡ l.fn.ids;
      named : of_the_one (map element (drop l.place l.children)) ≡ of_the_one (map element l.children);
    }

-- the others that were asked change nothing
abbrev pub invariant-child_unless_another-loop-other : goal.invariant-child_unless_another-loop-other
invariant-child_unless_another-loop-other g l =
    let child = spec.evaluated (g.C.Context.values_of l.context) in
    let element = spec.element (g.C.Context.values_of l.context) in
    record {
      value : evaluated (child l.child ∷ map child (drop l.other-index l.others)) ≡ evaluated (child l.child ∷ map child l.others);
      kept : l.ids ≡ l.fn.ids;
      named : of_the_one (element l.child ∷ map element (drop l.other-index l.others)) ≡ of_the_one (element l.child ∷ map element l.others);
    }
