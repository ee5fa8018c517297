use Rattle.std.proofs.Common.{subst}
use Rattle.xa_profile.specs.parsing.Tree.{view}
use Rattle.xa_value.specs.Gives.{Gives}
use Rattle.xa_profile.proofs.ObjectLemmas.{all_objects_are}
use Rattle.xa_profile.proofs.category_object.all_objects.Goals as goal

pub returns : goal.returns
returns c =
    subst (Gives c.with_shorthands.result)
    (all_objects_are c.new.result c.in_ok-objects.objects (view c.args.value.now) _ c.new.ensures c.member_at-member.ensures c.in_ok-objects.ensures)
    c.with_shorthands.ensures
