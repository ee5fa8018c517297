use Rattle.std.proofs.Common.{◌≡◌, true, rules}
use Rattle.std.specs.Prelude.{◌||◌, nat_lt}
use Rattle.std.specs.FinMap.{contains_key, len}
use Rattle.xa_records.proofs.PlainLemmas as plain
use Rattle.xa_records.proofs.plain.domain.PlainDomain.put_token.Goals as goal

pub returns-clause-does : goal.returns-clause-does
returns-clause-does c =
    let room : (contains_key c.self.inside.tokens c.args.digest || nat_lt (len c.self.inside.tokens) 32) ≡ true = first_of (cc, search rules) in
    rw (← c.self.view_is) (plain.token_is_put c.self.inside.number c.self.inside.epoch c.self.inside.tokens c.self.inside.documents c.self.inside.root c.self.inside.source (tt {0}) c.args.digest c.args.role c.put.new.self room c.in_ok-put.ensures.ok)
