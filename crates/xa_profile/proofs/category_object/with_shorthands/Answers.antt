use Rattle.std.proofs.Common.{◌∙◌}
use Rattle.xa_profile.specs.parsing.Tree.{view}
use Rattle.xa_profile.proofs.ObjectLemmas.{shorthands_next}
use Rattle.xa_profile.proofs.category_object.with_shorthands.Goals as goal

pub loop-category-preserved : goal.loop-category-preserved
loop-category-preserved c =
    shorthands_next c.loop-category.objects c.in_ok-objects.objects c.args.shorthands.now c.loop-category.category-index _ (view c.args.value.now) _
    c.loop-category-test.true c.shorthand_at-member.ensures c.in_ok-objects.ensures
    ∙ c.loop-category.invariant
