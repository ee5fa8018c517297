use Rattle.std.proofs.Common.{◌≡◌, ℕ, List, Option, None, Some, IfOk, sym, ap, subst, ◌∙◌}
use Rattle.std.specs.Prelude.{option_and_then}
use Rattle.xa_records.specs.Readings.{text_in, text_of}
use Rattle.xa_records.proofs.PlainLemmas as plain
use Rattle.xa_records.proofs.plain.domains.Domains.document.Goals as goal

pub returns-in_default : goal.returns-in_default
returns-in_default c = sym (ap (option_and_then (text_in c.args.key.now)) (plain.state_is c.self.inside.by_name c.self.inside.next c.args.name.now None c.in_default.ensures.value)) ∙ ap (text_of c.args.name.now c.args.key.now) c.self.view_is

pub returns : goal.returns
returns c =
    subst (λ (there : Option (List ℕ)). IfOk c.document.result (λ text. text ≡ there))
    (sym (ap (option_and_then (text_in c.args.key.now)) (plain.state_is c.self.inside.by_name c.self.inside.next c.args.name.now (Some c.in-Some.domain.now) c.in-Some.ensures.value)) ∙ ap (text_of c.args.name.now c.args.key.now) c.self.view_is)
    c.document.ensures
