use Rattle.std.proofs.Common.{◌≡◌, false, Ok, ◌∷◌, take, sym, ap, subst, ◌∙◌}
use Rattle.xa_notation.specs.Document.{document_of}
use Rattle.xa_shelf.specs.Readings.{AreDocuments, is_among, texts_of}
use Rattle.xa_shelf.proofs.DocumentLemmas.{put_documents, put_texts}
use Rattle.xa_shelf.proofs.shelf.keep.Goals as goal

pub returns-clause-documents : goal.returns-clause-documents
returns-clause-documents c =
    let this = ap document_of c.in_ok-text.ensures.ok ∙ c.requires.documents.1 ∙ ap Ok (sym c.in_ok-share.ensures.cases) in
    subst AreDocuments (sym (ap (λ held. held.entries) c.in_ok-put.ensures.entries)) (put_documents c.args.documents.now c.in_ok-text.text c.in_ok-share.share this c.requires.documents.0)

pub returns-clause-kept : goal.returns-clause-kept
returns-clause-kept c =
    let is_new = subst (λ text. is_among text (texts_of c.args.documents.now.entries) ≡ false) (sym c.in_ok-text.ensures.ok) c.requires.new in
    ap (λ held. texts_of held.entries) c.in_ok-put.ensures.entries
    ∙ put_texts c.args.documents.now c.in_ok-text.text c.in_ok-share.share c.requires.cap is_new
    ∙ ap (λ text. take 128 (text ∷ texts_of c.args.documents.now.entries)) c.in_ok-text.ensures.ok
