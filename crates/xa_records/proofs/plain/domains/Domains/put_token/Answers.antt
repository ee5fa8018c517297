use Rattle.xa_records.specs.Changes.{token_put}
use Rattle.xa_records.proofs.PlainLemmas as plain
use Rattle.xa_records.proofs.plain.domains.Domains.put_token.Goals as goal

pub returns-in_default-clause-does : goal.returns-in_default-clause-does
returns-in_default-clause-does c = rw (c.into.ensures, ← c.self.view_is) (plain.absent_refused (token_put c.args.digest c.args.role) c.args.name.now c.self.inside.by_name c.get_mut.follows.lender-at-none c.self.inside.next (Unit {0}) c.in_default.ensures.value c.get_mut.follows.holds-at-none)

pub returns-clause-does : goal.returns-clause-does
returns-clause-does c = rw (← c.self.view_is) (plain.altered (token_put c.args.digest c.args.role) c.args.name.now c.self.inside.by_name (c.get_mut.follows.lender c.put_token.new.self) c.self.inside.next c.in-Some.domain.now c.put_token.new.self c.in-Some.ensures.value (c.get_mut.follows.holds c.put_token.new.self) c.put_token.result c.put_token.ensures.does)
