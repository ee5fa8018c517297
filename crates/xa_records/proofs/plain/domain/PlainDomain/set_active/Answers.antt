use Rattle.std.proofs.Common.{◌≡◌, Ok, refl, ap, ◌∙◌, rules}
use Rattle.xa_records.specs.Changes.{activity_set}
use Rattle.xa_records.specs.Plain.{activity_at, with_activity}
use Rattle.xa_records.proofs.PlainLemmas as plain
use Rattle.xa_records.proofs.plain.domain.PlainDomain.set_active.Goals as goal

pub returns-then-is_same_activity-clause-does : goal.returns-then-is_same_activity-clause-does
returns-then-is_same_activity-clause-does c =
    let same : c.in_ok-before.before ≡ c.args.active = c.is_same_activity.ensures.0 (search rules) in
    let is : activity_at c.args.key.now c.args.self.now.state ≡ Ok c.in_ok-before.before = first_of (cc, search rules) in
    let is' : activity_at c.args.key.now c.args.self.now.state ≡ Ok c.args.active = is ∙ ap (λ b. Ok b) same in
    let found = rw (← c.self.view_is) at is' in
    rw (← c.self.view_is) (plain.activity_is_same c.self.inside.number c.self.inside.epoch c.self.inside.tokens c.self.inside.documents c.self.inside.root c.self.inside.source (tt {0}) c.args.key.now c.args.active found)

pub returns-clause-does : goal.returns-clause-does
returns-clause-does c =
    let is : activity_at c.args.key.now c.args.self.now.state ≡ Ok c.in_ok-before.before = first_of (cc, search rules) in
    let found = rw (← c.self.view_is) at is in
    let differs : c.in_ok-before.before ≡ c.args.active → ⊥ = λ e. let same = c.is_same_activity.ensures.1 e in absurd (first_of (cc, search rules)) in
    rw (← c.self.view_is) (plain.activity_changes c.self.inside.number c.self.inside.epoch c.self.inside.tokens c.self.inside.documents c.self.inside.root c.self.inside.source (tt {0}) c.args.key.now c.args.active c.in_ok-before.before c.in_ok-self-inside.field-0 c.set_active.new.self c.in_ok-self-inside.ensures found differs c.set_active.ensures)

pub returns-in_err-self-inside-clause-store : goal.returns-in_err-self-inside-clause-store
returns-in_err-self-inside-clause-store c = λ h.
    let is : activity_at c.args.key.now c.args.self.now.state ≡ Ok c.in_ok-before.before = first_of (cc, search rules) in
    let found = rw (← c.self.view_is) at is in
    let differs : c.in_ok-before.before ≡ c.args.active → ⊥ = λ e. let same = c.is_same_activity.ensures.1 e in absurd (first_of (cc, search rules)) in
    rw (← c.self.view_is) (plain.cant_rise (activity_set c.args.key.now c.args.active) c.self.inside.number c.self.inside.epoch _ _ (tt {0})
    (plain.activity_changes c.self.inside.number 0 c.self.inside.tokens c.self.inside.documents c.self.inside.root c.self.inside.source (tt {0}) c.args.key.now c.args.active c.in_ok-before.before 1
    (with_activity c.args.key.now c.args.active c.self.inside.documents) plain.first_epoch found differs refl)
    (plain.none_after c.self.inside.epoch c.in_err-self-inside.field-0.0 c.in_err-self-inside.ensures))
