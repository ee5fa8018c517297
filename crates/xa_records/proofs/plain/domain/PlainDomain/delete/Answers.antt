use Rattle.std.proofs.Common.{◌≡◌, Ok, false, refl, rules}
use Rattle.std.specs.FinMap.{remove}
use Rattle.xa_records.specs.Changes.{deleted}
use Rattle.xa_records.specs.Plain.{activity_at}
use Rattle.xa_records.proofs.PlainLemmas as plain
use Rattle.xa_records.proofs.plain.domain.PlainDomain.delete.Goals as goal

pub returns-clause-does : goal.returns-clause-does
returns-clause-does c =
    let is : activity_at c.args.key.now c.args.self.now.state ≡ Ok false = first_of (cc, search rules) in
    let is' = rw (← c.self.view_is) at is in
    rw (← c.self.view_is) (plain.document_is_deleted c.self.inside.number c.self.inside.epoch c.self.inside.tokens c.self.inside.documents c.self.inside.root c.self.inside.source (tt {0}) c.args.key.now c.in_ok-self-inside.field-0 c.remove.new.self c.in_ok-self-inside.ensures is' c.remove.ensures)

pub returns-in_err-self-inside-clause-store : goal.returns-in_err-self-inside-clause-store
returns-in_err-self-inside-clause-store c = λ h.
    let is : activity_at c.args.key.now c.args.self.now.state ≡ Ok false = first_of (cc, search rules) in
    let is' = rw (← c.self.view_is) at is in
    rw (← c.self.view_is) (plain.cant_rise (deleted c.args.key.now) c.self.inside.number c.self.inside.epoch _ _ (tt {0})
    (plain.document_is_deleted c.self.inside.number 0 c.self.inside.tokens c.self.inside.documents c.self.inside.root c.self.inside.source (tt {0}) c.args.key.now 1 (remove c.self.inside.documents c.args.key.now) plain.first_epoch is' refl)
    (plain.none_after c.self.inside.epoch c.in_err-self-inside.field-0.0 c.in_err-self-inside.ensures))
