use Rattle.std.proofs.Common.{sym, ap, ◌∙◌}
use Rattle.std.specs.FinMap as finite
use Rattle.std.specs.Option.{is_some}
use Rattle.xa_records.specs.Plain.{active_at, with_activity}
use Rattle.xa_records.proofs.OrderLemmas.{keys_exact, keys_total}
use Rattle.xa_records.proofs.TreeLemmas as map
use Rattle.xa_records.proofs.plain.documents.Documents.set_active.Goals as goal
use Rattle.xa_records.proofs.plain.documents.Documents.set_active.Goals.{in-Some, in_default}

pub returns : goal.returns
returns c = elim c.match-get_mut.branch [
  | in-Some w ↦
      let found = map.found keys_total c.self.inside.documents c.args.key.now in
      let at = sym found ∙ sym w.in-Some.ensures.value in
      let written = (c.get_mut.follows.holds w.set_active.new.self).3 (sym (ap is_some w.in-Some.ensures.value)) in
      ap (λ (d : _). finite.from_entries d.documents.entries) w.self-inside-is
      ∙ map.put_is keys_total keys_exact c.self.inside.documents (c.get_mut.follows.lender w.set_active.new.self) c.args.key.now w.set_active.new.self written
      ∙ ap (finite.insert (finite.from_entries c.self.inside.documents.entries) c.args.key.now) w.set_active.ensures
      ∙ sym (ap (active_at c.args.key.now c.args.active (finite.from_entries c.self.inside.documents.entries)) at)
      ∙ ap (with_activity c.args.key.now c.args.active) c.self.view_is
  | in_default w ↦
      let found = map.found keys_total c.self.inside.documents c.args.key.now in
      let at = sym found ∙ sym w.in_default.ensures.value in
      ap (λ (d : _). finite.from_entries d.documents.entries) w.self-inside-is
      ∙ ap (λ (m : _). finite.from_entries m.entries) c.get_mut.follows.holds-at-none
      ∙ sym (ap (active_at c.args.key.now c.args.active (finite.from_entries c.self.inside.documents.entries)) at)
      ∙ ap (with_activity c.args.key.now c.args.active) c.self.view_is
]
