use Rattle.xa_records.specs.Changes.{token_dropped}
use Rattle.xa_records.proofs.PlainLemmas as plain
use Rattle.xa_records.proofs.plain.domains.Domains.drop_token.Goals as goal

pub returns-in_default-clause-does : goal.returns-in_default-clause-does
returns-in_default-clause-does c = rw (c.into.ensures, ← c.self.view_is) (plain.absent_refused (token_dropped c.args.digest) c.args.name.now c.self.inside.by_name c.get_mut.follows.lender-at-none c.self.inside.next (Unit {0}) c.in_default.ensures.value c.get_mut.follows.holds-at-none)

pub returns-clause-does : goal.returns-clause-does
returns-clause-does c = rw (← c.self.view_is) (plain.altered (token_dropped c.args.digest) c.args.name.now c.self.inside.by_name (c.get_mut.follows.lender c.drop_token.new.self) c.self.inside.next c.in-Some.domain.now c.drop_token.new.self c.in-Some.ensures.value (c.get_mut.follows.holds c.drop_token.new.self) c.drop_token.result c.drop_token.ensures.does)
