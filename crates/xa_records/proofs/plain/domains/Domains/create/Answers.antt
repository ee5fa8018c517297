use Rattle.std.proofs.Common.{◌≡◌, true, false, sym, ◌∙◌, rules}
use Rattle.std.specs.BTreeMap as tree
use Rattle.std.specs.Option.{is_some}
use Rattle.xa_records.specs.DomainState.{compare_bytes}
use Rattle.xa_records.proofs.PlainLemmas as plain
use Rattle.xa_records.proofs.plain.domains.Domains.create.Goals as goal

pub returns-then-contains_key-clause-does : goal.returns-then-contains_key-clause-does
returns-then-contains_key-clause-does c =
    let there : is_some (tree.get_by (compare_bytes c.args.name.now) c.self.inside.by_name) ≡ true = sym c.contains_key.ensures ∙ c.if-contains_key.true in
    rw (c.into.ensures, ← c.self.view_is) (plain.exists_refused (Unit {0}) c.self.inside.by_name c.self.inside.next c.args.name.now there)

pub returns-clause-does : goal.returns-clause-does
returns-clause-does c =
    let absent : is_some (tree.get_by (compare_bytes c.args.name.now) c.self.inside.by_name) ≡ false = sym c.contains_key.ensures ∙ c.if-contains_key.false in
    let copy : c.in_ok-clone.field-0 ≡ c.args.name.now = first_of (search rules, cc) in
    rw (← c.self.view_is) (plain.is_created c.self.inside.by_name c.insert.new.self c.self.inside.next c.in_ok-next.next c.args.name.now c.in_ok-clone.field-0 c.new-domain.result (tt {0}) absent copy c.new-domain.ensures c.in_ok-insert.ensures.updates c.in_ok-next.ensures)

pub returns-in_err-next-clause-store : goal.returns-in_err-next-clause-store
returns-in_err-next-clause-store c = λ h.
    let absent : is_some (tree.get_by (compare_bytes c.args.name.now) c.self.inside.by_name) ≡ false = sym c.contains_key.ensures ∙ c.if-contains_key.false in
    rw (← c.self.view_is) (plain.cant_create c.self.inside.by_name c.self.inside.next c.args.name.now absent (plain.none_after c.self.inside.next c.in_err-next.field-0.0 c.in_err-next.ensures))
