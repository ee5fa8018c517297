use Rattle.std.specs.Prelude.{if◌then◌else◌, [], filter}
use Rattle.std.specs.List.{flat_map}
use Rattle.xa_decide.specs.Context.{is_named_by}
use Rattle.xa_decide.proofs.LookLemmas.{next_looked_at, passed}
use Rattle.xa_decide.proofs.look.Look.at_each_attribute.Goals as goal

pub loop-attribute-preserved : goal.loop-attribute-preserved
loop-attribute-preserved c =
    let named = is_named_by c.args.self.now.designator.now in
    next_looked_at (λ a. if named a then a.values.values else []) (λ xs. flat_map (λ a. a.values.values) (filter named xs)) (passed named (λ a. a.values.values)) c.args.self.now.sought.now c.args.attributes.now
    c.loop-attribute.so_far _ _ c.loop-attribute.attribute-index c.attribute-item.result _ c.loop-attribute-test.true c.attribute-item.is
    c.in_ok-found.ensures c.and-so_far.ensures c.loop-attribute.invariant
