use Rattle.std.proofs.Common.{None, Some, sym, ap, ◌∙◌}
use Rattle.std.specs.Prelude.{option_map}
use Rattle.xa_records.specs.Readings.{gate_of, gate_of_domain}
use Rattle.xa_records.proofs.PlainLemmas as plain
use Rattle.xa_records.proofs.plain.domains.Domains.gate.Goals as goal

pub returns-in_default : goal.returns-in_default
returns-in_default c = sym (ap (option_map gate_of_domain) (plain.there_is c.self.inside.by_name c.args.name.now None c.in_default.ensures.value)) ∙ ap (gate_of c.args.name.now) c.self.view_is

pub returns : goal.returns
returns c = ap (λ g. Some g) c.in_ok-gate.ensures ∙ sym (ap (option_map gate_of_domain) (plain.there_is c.self.inside.by_name c.args.name.now (Some c.in-Some.domain.now) c.in-Some.ensures.value)) ∙ ap (gate_of c.args.name.now) c.self.view_is
