use Rattle.std.proofs.Common.{◌≡◌, rules, map, sym, ◌∙◌}
use Rattle.std.proofs.lemmas.List.{drop_all}
use Rattle.std.proofs.lemmas.Result.{on_ok_weaker}
use Rattle.xa_bag.proofs.SetLemmas as list
use Rattle.xa_policy.specs.Evaluation.{evaluated, set_value}
use Rattle.xa_policy.proofs.EvaluationLemmas.{child_ends, child_goes_on, child_passed, child_open, other_passed, other_open, other_applies, no_other}
use Rattle.xa_expr.specs.declared.matching.Matching.TheVariants.{NoMatch}
use Rattle.xa_policy.proofs.IdLemmas as ids
use Rattle.xa_policy.proofs.PastLemmas.{passed, linked_past}
use Rattle.xa_policy.proofs.TidyLemmas.{linked_alone}
use Rattle.xa_policy.proofs.evaluation.+evaluation.Goals as goal

pub child_unless_another-loop-other-preserved : goal.child_unless_another-loop-other-preserved
child_unless_another-loop-other-preserved g t c =
    let at = list.walked c.args.others.now c.loop-other.other-index c.other-item.result c.other-item.is c.loop-other-test.true in
    let values_of = g.C.Context.values_of c.args.context.now in
    record {
      value = other_passed (evaluated values_of) _ _ _ _ c.in_ok-target_of.field-0 _ c.requires at c.in_ok-target_of.ensures c.in-NoMatch.is c.loop-other.invariant.value;
      kept = c.loop-other.invariant.kept;
      named = ids.other_passed values_of c.args.child.now _ _ _ c.in_ok-target_of.field-0 _ c.requires at c.in_ok-target_of.ensures c.in-NoMatch.is c.loop-other.invariant.named;
    }

pub child_unless_another-returns-in-Indeterminate-clause-value :
    goal.child_unless_another-returns-in-Indeterminate-clause-value
child_unless_another-returns-in-Indeterminate-clause-value g t c =
    let at = list.walked c.args.others.now c.loop-other.other-index c.other-item.result c.other-item.is c.loop-other-test.true in
    other_open (evaluated (g.C.Context.values_of c.args.context.now)) _ _ _ _ c.in_ok-target_of.field-0 _ _ _ c.requires at c.in_ok-target_of.ensures c.in-Indeterminate.is c.undecided.ensures c.loop-other.invariant.value

pub child_unless_another-returns-in-Indeterminate-clause-named :
    goal.child_unless_another-returns-in-Indeterminate-clause-named
child_unless_another-returns-in-Indeterminate-clause-named g t c =
    let at = list.walked c.args.others.now c.loop-other.other-index c.other-item.result c.other-item.is c.loop-other-test.true in
    ids.other_open (g.C.Context.values_of c.args.context.now) _ _ c.args.child.now _ _ _ c.in_ok-target_of.field-0 _ _ c.requires at c.in_ok-target_of.ensures c.in-Indeterminate.is c.loop-other.invariant.kept c.loop-other.invariant.named

pub child_unless_another-returns-in-Match-clause-value : goal.child_unless_another-returns-in-Match-clause-value
child_unless_another-returns-in-Match-clause-value g t c =
    let at = list.walked c.args.others.now c.loop-other.other-index c.other-item.result c.other-item.is c.loop-other-test.true in
    other_applies (evaluated (g.C.Context.values_of c.args.context.now)) _ _ _ _ c.in_ok-target_of.field-0 _ _ c.requires at c.in_ok-target_of.ensures c.in-Match.is c.undecided-in-Match.ensures c.loop-other.invariant.value

pub child_unless_another-returns-in-Match-clause-named : goal.child_unless_another-returns-in-Match-clause-named
child_unless_another-returns-in-Match-clause-named g t c =
    let at = list.walked c.args.others.now c.loop-other.other-index c.other-item.result c.other-item.is c.loop-other-test.true in
    ids.other_applies (g.C.Context.values_of c.args.context.now) _ _ c.args.child.now _ _ _ c.in_ok-target_of.field-0 _ c.requires at c.in_ok-target_of.ensures c.in-Match.is c.loop-other.invariant.kept c.loop-other.invariant.named

pub child_unless_another-returns-clause-value : goal.child_unless_another-returns-clause-value
child_unless_another-returns-clause-value g t c =
    no_other (evaluated (g.C.Context.values_of c.args.context.now)) _ _ _ _ _ (drop_all _ _ c.loop-other-test.false)
    (linked_alone (g.C.Context.values_of c.args.context.now) c.args.child.now c.requires) c.evaluate_linked.ensures.value c.loop-other.invariant.value

pub child_unless_another-returns-clause-named : goal.child_unless_another-returns-clause-named
child_unless_another-returns-clause-named g t c =
    let values_of = g.C.Context.values_of c.args.context.now in
    on_ok_weaker c.evaluate_linked.result
    (λ step. ids.no_other values_of c.args.ids.now c.evaluate_linked.new.ids c.args.ids.now c.args.child.now _ _ c.requires (drop_all _ _ c.loop-other-test.false) step c.loop-other.invariant.kept c.loop-other.invariant.named)
    c.evaluate_linked.ensures.named

pub only_applicable_child-loop-place-preserved : goal.only_applicable_child-loop-place-preserved
only_applicable_child-loop-place-preserved g t c =
    let at = list.walked c.args.children.now c.loop-place.place c.index-children-place.result c.index-children-place.is c.loop-place-test.true in
    let values_of = g.C.Context.values_of c.args.context.now in
    record {
      value = child_passed (evaluated values_of) _ _ _ c.in_ok-target_of.field-0 _ at c.in_ok-target_of.ensures c.in-NoMatch.is c.loop-place.invariant.value;
      kept = c.loop-place.invariant.kept;
      named = ids.one_passed values_of _ _ _ c.in_ok-target_of.field-0 _ at c.in_ok-target_of.ensures c.in-NoMatch.is c.loop-place.invariant.named;
    }

pub only_applicable_child-returns-in-Indeterminate-clause-value :
    goal.only_applicable_child-returns-in-Indeterminate-clause-value
only_applicable_child-returns-in-Indeterminate-clause-value g t c =
    let at = list.walked c.args.children.now c.loop-place.place c.index-children-place.result c.index-children-place.is c.loop-place-test.true in
    child_open (evaluated (g.C.Context.values_of c.args.context.now)) _ _ _ c.in_ok-target_of.field-0 _ _ _ at c.in_ok-target_of.ensures c.in-Indeterminate.is c.undecided.ensures c.loop-place.invariant.value

pub only_applicable_child-returns-in-Indeterminate-clause-named :
    goal.only_applicable_child-returns-in-Indeterminate-clause-named
only_applicable_child-returns-in-Indeterminate-clause-named g t c =
    let at = list.walked c.args.children.now c.loop-place.place c.index-children-place.result c.index-children-place.is c.loop-place-test.true in
    ids.one_open (g.C.Context.values_of c.args.context.now) _ _ _ _ _ c.in_ok-target_of.field-0 _ _ at c.in_ok-target_of.ensures c.in-Indeterminate.is c.loop-place.invariant.kept c.loop-place.invariant.named

pub walk_children-returns-then-branch-clause-value : goal.walk_children-returns-then-branch-clause-value
walk_children-returns-then-branch-clause-value g t c =
    let at = list.walked c.args.children.now c.loop-child.child-index c.child-item.result c.child-item.is c.loop-child-test.true in
    child_ends (evaluated (g.C.Context.values_of c.args.context.now)) c.loop-child.so_far _ _ _ _ c.in_ok-child.child _ _ c.in_ok-add.field-0 at c.in_ok-child.ensures.value c.in_ok-add.ensures.ok c.in_ok-add.ensures.ended c.if-branch.true c.result_so_far.ensures c.loop-child.invariant.value

pub walk_children-returns-then-branch-clause-named : goal.walk_children-returns-then-branch-clause-named
walk_children-returns-then-branch-clause-named g t c =
    let at = list.walked c.args.children.now c.loop-child.child-index c.child-item.result c.child-item.is c.loop-child-test.true in
    let values_of = g.C.Context.values_of c.args.context.now in
    ids.names_ended values_of c.args.algorithm c.loop-child.ids _ _ _ _ c.child-item.result at c.in_ok-child.ensures.named
    (ids.judged_by values_of c.loop-child.so_far c.args.algorithm c.child-item.result c.in_ok-child.child c.in_ok-add.field-0 _ c.loop-child.invariant.algorithm c.in_ok-child.ensures.value c.in_ok-add.ensures.ended c.if-branch.true)
    c.loop-child.invariant.named

pub walk_children-loop-child-preserved : goal.walk_children-loop-child-preserved
walk_children-loop-child-preserved g t c =
    let at = list.walked c.args.children.now c.loop-child.child-index c.child-item.result c.child-item.is c.loop-child-test.true in
    let values_of = g.C.Context.values_of c.args.context.now in
    let both = child_goes_on (evaluated values_of) c.args.algorithm c.loop-child.so_far _ _ _ _ c.in_ok-child.child _ c.in_ok-add.field-0 at c.in_ok-child.ensures.value c.in_ok-add.ensures.ok c.in_ok-add.ensures.ended c.if-branch.false
    (c.loop-child.invariant.algorithm, c.loop-child.invariant.value) in
    record {
      algorithm = both.0;
      value = both.1;
      named = ids.names_go_on values_of c.args.algorithm c.loop-child.ids _ _ _ _ c.child-item.result at c.in_ok-child.ensures.named
          (ids.judged_by values_of c.loop-child.so_far c.args.algorithm c.child-item.result c.in_ok-child.child c.in_ok-add.field-0 _ c.loop-child.invariant.algorithm c.in_ok-child.ensures.value c.in_ok-add.ensures.ended c.if-branch.false)
          c.loop-child.invariant.named;
    }

pub walk_children-loop-child-preserved-then-eq : goal.walk_children-loop-child-preserved-then-eq
walk_children-loop-child-preserved-then-eq g t c =
    let at = list.walked c.args.children.now c.loop-child.child-index c.child-item.result c.child-item.is c.loop-child-test.true in
    let none : c.in_ok-target.target ≡ NoMatch = search (rules, c.eq.ensures, c.if-eq.true) in
    let values_of = g.C.Context.values_of c.args.context.now in
    record {
      algorithm = c.loop-child.invariant.algorithm;
      value = passed (evaluated values_of) c.loop-child.so_far _ _ _ _ at (linked_past values_of c.child-item.result (sym c.in_ok-target.ensures ∙ none)) c.loop-child.invariant.value;
      named = ids.names_passed values_of c.args.algorithm c.loop-child.ids _ _ _ c.child-item.result at (sym c.in_ok-target.ensures ∙ none) c.loop-child.invariant.named;
    }

pub walk_children-returns-clause-named : goal.walk_children-returns-clause-named
walk_children-returns-clause-named g t c =
    ids.names_over (g.C.Context.values_of c.args.context.now) c.args.algorithm c.loop-child.ids _ _ (drop_all _ _ c.loop-child-test.false) c.loop-child.invariant.named

pub evaluate_linked-returns-in-PolicySet-clause-named :
    goal.evaluate_linked-returns-in-PolicySet-clause-named
evaluate_linked-returns-in-PolicySet-clause-named g t c =
    on_ok_weaker c.evaluate_set.result
    (λ step. ids.set_names (g.C.Context.values_of c.args.context.now) c.args.linked.now c.in-PolicySet.set c.get-in-PolicySet.result.now c.in-PolicySet.children c.as_slice.result.now c.args.ids.now c.evaluate_set.new.ids
    c.in-PolicySet.is c.get-in-PolicySet.ensures (c.as_slice.ensures ∙ c.get-in-PolicySet-2.ensures) step)
    c.evaluate_set.ensures.named

pub evaluate_set-returns-clause-named : goal.evaluate_set-returns-clause-named
evaluate_set-returns-clause-named g t c =
    let values_of = g.C.Context.values_of c.args.context.now in
    let value : c.in_ok-decided.decided ≡ set_value values_of c.args.set.now (map (evaluated values_of) c.args.children.now) = search rules in
    ids.set_done values_of c.args.set.now c.args.children.now c.args.ids.now c.add.new.self c.combine_children.new.ids c.keep_by.new.self c.key.result.now c.algorithm.result c.count-before.result c.in_ok-decided.decided
    c.count-before.ensures c.in_ok-add.ensures c.key.ensures c.in_ok-combined.ensures.named c.algorithm.ensures value c.keep_by.ensures
