use Rattle.xa_records.proofs.PlainLemmas as plain
use Rattle.xa_records.proofs.plain.domains.Domains.remove.Goals as goal

pub returns-in_default-clause-does : goal.returns-in_default-clause-does
returns-in_default-clause-does c = rw (c.into.ensures, ← c.self.view_is) (plain.is_not_there (Unit {0}) c.self.inside.by_name c.remove.new.self c.self.inside.next c.args.name.now c.in_default.ensures.value c.in_default.ensures.unchanged)

pub returns-clause-does : goal.returns-clause-does
returns-clause-does c = rw (← c.self.view_is) (plain.is_removed c.self.inside.by_name c.remove.new.self c.self.inside.next c.args.name.now c.in-Some.field-0 (tt {0}) c.in-Some.ensures.value c.remove.ensures.updates)
