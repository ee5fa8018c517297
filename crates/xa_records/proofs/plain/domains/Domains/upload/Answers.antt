use Rattle.std.proofs.Common.{◌≡◌, Some, sym, subst, ap, ◌∙◌}
use Rattle.std.specs.Prelude.{Option, IfOk}
use Rattle.xa_records.specs.Changes.{upload_of, uploaded}
use Rattle.xa_records.specs.DomainState.{DomainState}
use Rattle.xa_records.specs.Kept.{state_of}
use Rattle.xa_records.proofs.PlainLemmas as plain
use Rattle.xa_records.proofs.plain.domains.Domains.upload.Goals as goal
use Rattle.xa_records.specs.declared.upload.Upload.{Upload}

pub returns-in_default-clause-does : goal.returns-in_default-clause-does
returns-in_default-clause-does c = rw (c.into.ensures, ← c.self.view_is) (plain.absent_refused (uploaded c.args.key c.args.text.now) c.args.name.now c.self.inside.by_name c.get_mut.follows.lender-at-none c.self.inside.next (Upload) c.in_default.ensures.value c.get_mut.follows.holds-at-none)

pub returns-clause-does : goal.returns-clause-does
returns-clause-does c = rw (← c.self.view_is) (plain.altered (uploaded c.args.key c.args.text.now) c.args.name.now c.self.inside.by_name (c.get_mut.follows.lender c.upload.new.self) c.self.inside.next c.in-Some.domain.now c.upload.new.self c.in-Some.ensures.value (c.get_mut.follows.holds c.upload.new.self) c.upload.result c.upload.ensures.does)

pub returns-clause-store : goal.returns-clause-store
returns-clause-store c = λ h. rw (← c.self.view_is) (plain.cant_alter (uploaded c.args.key c.args.text.now) c.args.name.now c.self.inside.by_name c.self.inside.next c.in-Some.domain.now c.in-Some.ensures.value (c.upload.ensures.store h))

pub returns-clause-which : goal.returns-clause-which
returns-clause-which c = subst (λ (s : Option DomainState). IfOk c.upload.result (λ u. u ≡ upload_of c.args.key s))
    (sym (plain.state_is c.self.inside.by_name c.self.inside.next c.args.name.now (Some c.in-Some.domain.now) c.in-Some.ensures.value) ∙ ap (state_of c.args.name.now) c.self.view_is) c.upload.ensures.which
