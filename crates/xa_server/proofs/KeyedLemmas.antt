-- The active documents of a domain by the keys under which they are kept.
use Rattle.std.proofs.Common.{◌≡◌, ℕ, Bool, true, false, List, [], ◌∷◌, map, filter, refl, sym, ap, ◌∙◌, subst, cond}
use Rattle.std.specs.Prelude.{Option, Some, None, option_map, Result, Ok, Err}
use Rattle.std.specs.FinMap.{get, entries}
use Rattle.std.specs.List.{AllByRecursion, cons_option, filter_map}
use Rattle.xa_policy.specs.declared.document_key.DocumentKey.{DocumentKey}
use Rattle.xa_notation.specs.declared.document.Parsed.{Parsed}
use Rattle.xa_notation.specs.declared.notation_error.NotationError.{NotationError}
use Rattle.xa_notation.specs.Document.{document_of}
use Rattle.xa_records.specs.declared.active_text.ActiveText.{ActiveText}
use Rattle.xa_records.specs.declared.kept_view.KeptView.{KeptView}
use Rattle.xa_records.specs.DomainState.{StoredDocument, key_of}
use Rattle.xa_records.specs.Kept.{Domain, Kept}
use Rattle.xa_records.specs.Keyed.{KeepsDocuments, key_if, key_in}
use Rattle.xa_records.specs.Readings.{active_text, kept_view_of, view_of_state}
use Rattle.xa_records.proofs.FinMapLemmas.{all_entries}
use Rattle.xa_records.proofs.OrderLemmas.{keys_total}
use Rattle.xa_server.specs.View.{active_if}
use Rattle.xa_server.specs.handling.Viewing.{AreKeyed, active_by_key}

-- ---- what texts are

by_key : (one : ActiveText) (r : Result Parsed NotationError) → key_if r ≡ Some one.key → active_if one.text r ≡ Some (active_by_key one)
by_key one (Ok parsed) is =
    let same : key_of parsed ≡ one.key = (let f : Some (key_of parsed) ≡ Some one.key = is in cc) in
    ap (λ (k : DocumentKey). Some (active_by_key (record { key = k; text = one.text }))) same
by_key one (Err e) is = absurd (let f : None ≡ Some one.key = is in cc)

-- the active documents are those by their keys
pub active_are : (texts : List ActiveText) → AreKeyed texts → filter_map (λ (one : ActiveText). active_if one.text (document_of one.text)) texts ≡ map active_by_key texts
active_are [] keyed = refl
active_are (one ∷ texts) keyed =
    ap (λ o. cons_option o (filter_map (λ (x : ActiveText). active_if x.text (document_of x.text)) texts)) (by_key one (document_of one.text) keyed.0)
    ∙ ap (λ others. active_by_key one ∷ others) (active_are texts keyed.1)

-- ---- what is kept

abbrev IsKeyed : DocumentKey × StoredDocument → Type 0
IsKeyed entry = key_in entry.1.text ≡ Some entry.0

abbrev AreActiveKeyed : List (DocumentKey × StoredDocument) → Type 0
AreActiveKeyed es = AreKeyed (map active_text (filter (λ (e : DocumentKey × StoredDocument). e.1.active) es))

one_keyed : (b : Bool) (e : DocumentKey × StoredDocument) (es : List (DocumentKey × StoredDocument)) → IsKeyed e → AreActiveKeyed es
    → AreKeyed (map active_text (cond b (e ∷ filter (λ (x : DocumentKey × StoredDocument). x.1.active) es) (filter (λ (x : DocumentKey × StoredDocument). x.1.active) es)))
one_keyed true e es one others = (one, others)
one_keyed false e es one others = others

texts_keyed : (es : List (DocumentKey × StoredDocument)) → AllByRecursion IsKeyed es → AreActiveKeyed es
texts_keyed [] all = tt
texts_keyed (e ∷ es) all = one_keyed e.1.active e es all.0 (texts_keyed es all.1)

-- what decides in a domain has documents of their keys alone
pub keyed_view : (kept : Kept) (name : List ℕ) (view : KeptView) → KeepsDocuments kept → Some view ≡ kept_view_of name kept → AreKeyed view.texts
keyed_view kept name view keeps is = by_domain (get kept.domains name) refl where
  by_domain : (o : Option Domain) → get kept.domains name ≡ o → AreKeyed view.texts
  by_domain None there = absurd (let f : Some view ≡ None = is ∙ ap (λ o. option_map view_of_state (option_map (λ (d : Domain). d.state) o)) there in cc)
  by_domain (Some d) there =
      let f : Some view ≡ Some (view_of_state d.state) = is ∙ ap (λ o. option_map view_of_state (option_map (λ (d : Domain). d.state) o)) there in
      let same : view ≡ view_of_state d.state = cc in
      subst (λ (v : KeptView). AreKeyed v.texts) (sym same) (texts_keyed (entries d.state.documents) (all_entries keys_total IsKeyed d.state.documents (keeps name d there)))
