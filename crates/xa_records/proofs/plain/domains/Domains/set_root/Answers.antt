use Rattle.xa_records.specs.Changes.{root_set}
use Rattle.xa_records.proofs.PlainLemmas as plain
use Rattle.xa_records.proofs.plain.domains.Domains.set_root.Goals as goal

pub returns-in_default-clause-does : goal.returns-in_default-clause-does
returns-in_default-clause-does c = rw (c.into.ensures, ← c.self.view_is) (plain.absent_refused (root_set c.args.root) c.args.name.now c.self.inside.by_name c.get_mut.follows.lender-at-none c.self.inside.next (Unit {0}) c.in_default.ensures.value c.get_mut.follows.holds-at-none)

pub returns-clause-does : goal.returns-clause-does
returns-clause-does c = rw (← c.self.view_is) (plain.altered (root_set c.args.root) c.args.name.now c.self.inside.by_name (c.get_mut.follows.lender c.set_root.new.self) c.self.inside.next c.in-Some.domain.now c.set_root.new.self c.in-Some.ensures.value (c.get_mut.follows.holds c.set_root.new.self) c.set_root.result c.set_root.ensures.does)

pub returns-clause-store : goal.returns-clause-store
returns-clause-store c = λ h. rw (← c.self.view_is) (plain.cant_alter (root_set c.args.root) c.args.name.now c.self.inside.by_name c.self.inside.next c.in-Some.domain.now c.in-Some.ensures.value (c.set_root.ensures.store h))
