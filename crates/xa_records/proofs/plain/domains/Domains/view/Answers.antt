use Rattle.std.proofs.Common.{None, Some, sym, ap, ◌∙◌}
use Rattle.std.specs.Prelude.{option_map}
use Rattle.xa_records.specs.Readings.{kept_view_of, view_of_state}
use Rattle.xa_records.proofs.PlainLemmas as plain
use Rattle.xa_records.proofs.plain.domains.Domains.view.Goals as goal

pub returns-in_default : goal.returns-in_default
returns-in_default c = sym (ap (option_map view_of_state) (plain.state_is c.self.inside.by_name c.self.inside.next c.args.name.now None c.in_default.ensures.value)) ∙ ap (kept_view_of c.args.name.now) c.self.view_is

pub returns : goal.returns
returns c = ap (λ g. Some g) c.in_ok-view.ensures ∙ sym (ap (option_map view_of_state) (plain.state_is c.self.inside.by_name c.self.inside.next c.args.name.now (Some c.in-Some.domain.now) c.in-Some.ensures.value)) ∙ ap (kept_view_of c.args.name.now) c.self.view_is
