use Rattle.std.proofs.Common.{◌≡◌, true, rules}
use Rattle.std.specs.FinMap.{contains_key}
use Rattle.xa_records.proofs.PlainLemmas as plain
use Rattle.xa_records.proofs.plain.domain.PlainDomain.drop_token.Goals as goal

pub returns-clause-does : goal.returns-clause-does
returns-clause-does c =
    let there : contains_key c.self.inside.tokens c.args.digest ≡ true = first_of (cc, search rules) in
    rw (← c.self.view_is) (plain.token_is_dropped c.self.inside.number c.self.inside.epoch c.self.inside.tokens c.self.inside.documents c.self.inside.root c.self.inside.source (tt {0}) c.args.digest c.remove.new.self there c.remove.ensures)
