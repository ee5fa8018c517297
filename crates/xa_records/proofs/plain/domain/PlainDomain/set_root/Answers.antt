use Rattle.std.proofs.Common.{◌≡◌, rules}
use Rattle.xa_records.specs.Changes.{root_set}
use Rattle.xa_records.proofs.PlainLemmas as plain
use Rattle.xa_records.proofs.plain.domain.PlainDomain.set_root.Goals as goal

pub returns-then-is_same_root-clause-does : goal.returns-then-is_same_root-clause-does
returns-then-is_same_root-clause-does c = rw (← c.self.view_is) (plain.root_is_same c.self.inside.number c.self.inside.epoch c.self.inside.tokens c.self.inside.documents c.self.inside.root c.self.inside.source (tt {0}) c.args.root (c.is_same_root.ensures.0 (search rules)))

pub returns-clause-does : goal.returns-clause-does
returns-clause-does c =
    let differs : c.self.inside.root ≡ c.args.root → ⊥ = λ e. let same = c.is_same_root.ensures.1 e in absurd (first_of (cc, search rules)) in
    rw (← c.self.view_is) (plain.root_is_set c.self.inside.number c.self.inside.epoch c.self.inside.tokens c.self.inside.documents c.self.inside.root c.self.inside.source (tt {0}) c.args.root c.in_ok-self-inside.field-0 c.in_ok-self-inside.ensures differs)

pub returns-in_err-self-inside-clause-store : goal.returns-in_err-self-inside-clause-store
returns-in_err-self-inside-clause-store c = λ h.
    let differs : c.self.inside.root ≡ c.args.root → ⊥ = λ e. let same = c.is_same_root.ensures.1 e in absurd (first_of (cc, search rules)) in
    rw (← c.self.view_is) (plain.cant_rise (root_set c.args.root) c.self.inside.number c.self.inside.epoch _ _ (tt {0})
    (plain.root_is_set c.self.inside.number 0 c.self.inside.tokens c.self.inside.documents c.self.inside.root c.self.inside.source (tt {0}) c.args.root 1 plain.first_epoch differs)
    (plain.none_after c.self.inside.epoch c.in_err-self-inside.field-0.0 c.in_err-self-inside.ensures))
