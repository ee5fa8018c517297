-- The gate that is remembered lets in as the keeper's does.
use Rattle.std.proofs.Common.{rules, ◌≡◌, Some, inl, inr, refl, sym, subst}
use Rattle.xa_server.specs.Machine.{digest_shown}
use Rattle.xa_server.specs.Resources.{AllStand}
use Rattle.xa_server.proofs.GateLemmas.{known_opens, remembered_stands, used_stands}
use Rattle.xa_server.proofs.admission.admit_ask.Goals as goal

pub returns-in-Some-clause-tells : goal.returns-in-Some-clause-tells
returns-in-Some-clause-tells g c = λ stand sound.
    let shown : digest_shown c.args.message.now ≡ Some c.in_ok-digest.digest = search rules in
    let known = known_opens (g.R.Records.custody c.args.records.now).kept c.args.name.now c.in_ok-digest.digest c.args.message.now c.args.resources.now c.in-Some.revision shown stand (sym c.in-Some.ensures.revision) in
    (known.0, known.1, refl)

pub returns-in-Some-clause-stands : goal.returns-in-Some-clause-stands
returns-in-Some-clause-stands g c = λ stand sound.
    let kept = (g.R.Records.custody c.args.records.now).kept in
    subst (AllStand kept) (sym (c.in-Some.ensures.uses refl)) (used_stands kept c.args.name.now c.args.resources.now stand)

pub returns-clause-stands : goal.returns-clause-stands
returns-clause-stands g c = λ stand sound.
    let kept = (g.R.Records.custody c.args.records.now).kept in
    let same : c.revision_by_gate.new.self ≡ c.args.resources.now = search rules in
    let before = subst (AllStand kept) (sym same) stand in
    elim c.remember.ensures [
      | inl known ↦ subst (AllStand kept) (sym known) (remembered_stands kept c.args.name.now c.in_ok-gate.gate c.revision_by_gate.new.self (c.in_ok-gate.ensures.tells sound).0 before)
      | inr left ↦ subst (AllStand kept) (sym left) before
    ]
