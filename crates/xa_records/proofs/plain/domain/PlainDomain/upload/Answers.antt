use Rattle.std.proofs.Common.{◌≡◌, None, true, false, refl, sym, subst, ap, ◌∙◌, rules}
use Rattle.std.specs.Prelude.{nat_lt, Result}
use Rattle.std.specs.FinMap.{get, insert, len}
use Rattle.xa_records.specs.declared.refusal.ChangeError.{ChangeError}
use Rattle.xa_records.specs.declared.upload.Upload.{Upload}
use Rattle.xa_records.specs.Changes.{uploaded}
use Rattle.xa_records.specs.Kept.{Domain}
use Rattle.xa_records.specs.Plain.{Alters, upload_again}
use Rattle.xa_records.proofs.PlainLemmas as plain
use Rattle.xa_records.proofs.plain.domain.PlainDomain.upload.Goals as goal

pub returns-in-Some-clause-does : goal.returns-in-Some-clause-does
returns-in-Some-clause-does c =
    subst (λ (r : Result Upload ChangeError). Alters (uploaded c.args.key c.args.text.now) c.args.self.now c.args.self.now r) (sym c.upload_again.ensures)
    (subst (λ (d : Domain). Alters (uploaded c.args.key c.args.text.now) d d (upload_again c.in-Some.document.now c.args.text.now)) c.self.view_is
    (plain.upload_is_again (record { number = c.self.inside.number; epoch = c.self.inside.epoch; state = record { tokens = c.self.inside.tokens; documents = c.self.inside.documents; root = c.self.inside.root; source = c.self.inside.source } }) c.args.key c.args.text.now c.in-Some.document.now (sym c.in-Some.ensures)))

pub returns-clause-does : goal.returns-clause-does
returns-clause-does c =
    let none : get c.self.inside.documents c.args.key ≡ None = first_of (cc, search rules) in
    let room : nat_lt (len c.self.inside.documents) 1_024 ≡ true = first_of (cc, search rules) in
    rw (← c.self.view_is) (plain.document_is_put c.self.inside.number c.self.inside.epoch c.self.inside.tokens c.self.inside.documents c.self.inside.root c.self.inside.source (tt {0}) c.args.key c.args.text.now c.in_ok-epoch.epoch c.put.new.self c.in_ok-epoch.ensures none room
    (c.in_ok-put.ensures.ok ∙ ap (insert c.self.inside.documents c.args.key) c.in_ok-document.ensures))

pub returns-in_err-epoch-clause-store : goal.returns-in_err-epoch-clause-store
returns-in_err-epoch-clause-store c = λ h.
    let none : get c.self.inside.documents c.args.key ≡ None = first_of (cc, search rules) in
    let room : nat_lt (len c.self.inside.documents) 1_024 ≡ true = first_of (cc, search rules) in
    rw (← c.self.view_is) (plain.cant_rise (uploaded c.args.key c.args.text.now) c.self.inside.number c.self.inside.epoch _ _ (tt {0})
    (plain.document_is_put c.self.inside.number 0 c.self.inside.tokens c.self.inside.documents c.self.inside.root c.self.inside.source (tt {0}) c.args.key c.args.text.now 1
    (insert c.self.inside.documents c.args.key (record { text = c.args.text.now; active = false })) plain.first_epoch none room refl)
    (plain.none_after c.self.inside.epoch c.in_err-epoch.field-0.0 c.in_err-epoch.ensures))
