use Rattle.std.proofs.Common.{◌≡◌, true, Ok, IsOk, is_ok, sym, ap, subst, ◌∙◌}
use Rattle.std.specs.Prelude.{is_some}
use Rattle.xa_notation.specs.Document.{document_of}
use Rattle.xa_shelf.specs.Readings.{AreDocuments, IsDocument, is_among, texts_of}
use Rattle.xa_shelf.proofs.DocumentLemmas.{found_among, found_document, promoted_texts, at_failure}
use Rattle.xa_shelf.proofs.EntryLemmas.{all_promoted}
use Rattle.xa_shelf.proofs.shelf.share_under.Goals as goal

pub returns-in_err-clone-in-Some-clause-documents :
    goal.returns-in_err-clone-in-Some-clause-documents
returns-in_err-clone-in-Some-clause-documents c =
    subst AreDocuments (sym (ap (λ held. held.entries) c.get.follows.holds-at-none)) (all_promoted IsDocument _ c.args.documents.now.entries c.requires)

pub returns-in_err-clone-in-Some-clause-texts : goal.returns-in_err-clone-in-Some-clause-texts
returns-in_err-clone-in-Some-clause-texts c =
    ap (λ held. texts_of held.entries) c.get.follows.holds-at-none ∙ promoted_texts c.args.text.now c.args.documents.now.entries

pub returns-in_err-clone-in-Some-clause-unshared :
    goal.returns-in_err-clone-in-Some-clause-unshared
returns-in_err-clone-in-Some-clause-unshared c =
    let there = found_document c.args.text.now c.args.documents.now.entries c.in-Some.document.now c.requires c.in-Some.ensures.value in
    let among = sym (ap is_some c.in-Some.ensures.value ∙ found_among c.args.text.now c.args.documents.now.entries) in
    at_failure (IsOk (document_of c.args.text.now) × (is_among c.args.text.now (texts_of c.args.documents.now.entries) ≡ true)) c.from_residual.result (ap is_ok there, among)

pub returns-in_ok-clone-in-Some-clause-documents :
    goal.returns-in_ok-clone-in-Some-clause-documents
returns-in_ok-clone-in-Some-clause-documents c =
    subst AreDocuments (sym (ap (λ held. held.entries) c.get.follows.holds-at-none)) (all_promoted IsDocument _ c.args.documents.now.entries c.requires)

pub returns-in_ok-clone-in-Some-clause-texts : goal.returns-in_ok-clone-in-Some-clause-texts
returns-in_ok-clone-in-Some-clause-texts c =
    ap (λ held. texts_of held.entries) c.get.follows.holds-at-none ∙ promoted_texts c.args.text.now c.args.documents.now.entries

pub returns-in_ok-clone-in-Some-clause-among : goal.returns-in_ok-clone-in-Some-clause-among
returns-in_ok-clone-in-Some-clause-among c = ap is_some c.in-Some.ensures.value ∙ found_among c.args.text.now c.args.documents.now.entries

pub returns-in_ok-clone-in-Some-clause-found : goal.returns-in_ok-clone-in-Some-clause-found
returns-in_ok-clone-in-Some-clause-found c =
    let there = found_document c.args.text.now c.args.documents.now.entries c.in-Some.document.now c.requires c.in-Some.ensures.value in
    there ∙ ap Ok (sym c.in_ok-clone-in-Some.ensures.cases)

pub returns-in-None-clause-documents : goal.returns-in-None-clause-documents
returns-in-None-clause-documents c =
    subst AreDocuments (sym (ap (λ held. held.entries) c.get.follows.holds-at-none)) (all_promoted IsDocument _ c.args.documents.now.entries c.requires)

pub returns-in-None-clause-texts : goal.returns-in-None-clause-texts
returns-in-None-clause-texts c =
    ap (λ held. texts_of held.entries) c.get.follows.holds-at-none ∙ promoted_texts c.args.text.now c.args.documents.now.entries

pub returns-in-None-clause-among : goal.returns-in-None-clause-among
returns-in-None-clause-among c = ap is_some c.in-None.ensures.value ∙ found_among c.args.text.now c.args.documents.now.entries
