use Rattle.std.proofs.Common.{◌≡◌, true, rules}
use Rattle.std.specs.Prelude.{nat_le, length}
use Rattle.xa_records.specs.Changes.{source_set}
use Rattle.xa_records.proofs.PlainLemmas as plain
use Rattle.xa_records.proofs.plain.domain.PlainDomain.set_source.Goals as goal

pub returns-then-is_same_source-clause-does : goal.returns-then-is_same_source-clause-does
returns-then-is_same_source-clause-does c =
    let fits : nat_le (length c.args.rows) 4_096 ≡ true = first_of (cc, search rules) in
    rw (← c.self.view_is) (plain.source_is_same c.self.inside.number c.self.inside.epoch c.self.inside.tokens c.self.inside.documents c.self.inside.root c.self.inside.source (tt {0}) c.args.rows fits (c.is_same_source.ensures.0 (search rules)))

pub returns-clause-does : goal.returns-clause-does
returns-clause-does c =
    let fits : nat_le (length c.args.rows) 4_096 ≡ true = first_of (cc, search rules) in
    let differs : c.self.inside.source ≡ c.args.rows → ⊥ = λ e. let same = c.is_same_source.ensures.1 e in absurd (first_of (cc, search rules)) in
    rw (← c.self.view_is) (plain.source_is_set c.self.inside.number c.self.inside.epoch c.self.inside.tokens c.self.inside.documents c.self.inside.root c.self.inside.source (tt {0}) c.args.rows c.in_ok-self-inside.field-0 c.in_ok-self-inside.ensures fits differs)

pub returns-in_err-self-inside-clause-store : goal.returns-in_err-self-inside-clause-store
returns-in_err-self-inside-clause-store c = λ h.
    let fits : nat_le (length c.args.rows) 4_096 ≡ true = first_of (cc, search rules) in
    let differs : c.self.inside.source ≡ c.args.rows → ⊥ = λ e. let same = c.is_same_source.ensures.1 e in absurd (first_of (cc, search rules)) in
    rw (← c.self.view_is) (plain.cant_rise (source_set c.args.rows) c.self.inside.number c.self.inside.epoch _ _ (tt {0})
    (plain.source_is_set c.self.inside.number 0 c.self.inside.tokens c.self.inside.documents c.self.inside.root c.self.inside.source (tt {0}) c.args.rows 1 plain.first_epoch fits differs)
    (plain.none_after c.self.inside.epoch c.in_err-self-inside.field-0.0 c.in_err-self-inside.ensures))
