-- What is kept of all domains has documents of their keys alone.
use Rattle.std.proofs.Common.{◌≡◌, Bool, List, find, int_eq, Option, Some, None, option_map, refl, sym, subst, subst₂, ◌∙◌}
use Rattle.xa_store.proofs.Common.{get, eq_by_cmp, DocumentKey, compare_keys, IsDocumentOf, StoredDocument, Domain, keys_exact, keys_total, DomainRow, DocumentRow, AreDocuments, Rows, documents_at, domain_of, kept_of, state_at}
use Rattle.xa_records.specs.Keyed.{KeepsDocuments}
use Rattle.xa_records.proofs.KeyedLemmas.{key_is}
use Rattle.xa_store.specs.keeping.Steps.{is_named}
use Rattle.xa_store.proofs.ChangeLemmas.{found_all, kept_at}
use Rattle.xa_store.proofs.EntryLemmas as entry
use Rattle.xa_store.proofs.EntryLemmas.{found_passes}
use Rattle.xa_store.proofs.HitLemmas.{same_key}
use Rattle.xa_store.proofs.TextsKept.{IsDocument, all_filter}

abbrev key_of : DocumentRow → DocumentKey
key_of d = d.key

abbrev stored : DocumentRow → StoredDocument
stored d = record { text = d.text; active = d.active }

module _ (rows : Rows) (all : AreDocuments rows.documents) (key : DocumentKey) (document : StoredDocument) where
  abbrev has_key : DocumentRow → Bool
  has_key x = eq_by_cmp compare_keys key x.key

  module _ (d : DomainRow) where
    abbrev xs : List DocumentRow
    xs = documents_at rows.documents d.number

    looked : (o : Option DocumentRow) → find has_key xs ≡ o → option_map stored o ≡ Some document → IsDocumentOf key document.text
    looked None is h = absurd cc
    looked (Some x) is h =
        let same : stored x ≡ document = cc in
        let its = found_all IsDocument has_key xs x (all_filter IsDocument (λ y. int_eq y.number d.number) rows.documents all) is in
        let keys : key ≡ x.key = same_key key x.key (found_passes has_key xs x is) in
        subst₂ (λ k (s : StoredDocument). IsDocumentOf k s.text) (sym keys) same its

    in_domain : get (state_at rows d.number).documents key ≡ Some document → IsDocumentOf key document.text
    in_domain h = looked (find has_key xs) refl (sym (entry.got keys_total keys_exact key_of stored key xs) ∙ h)

  named : (domain : Domain) (o : Option DomainRow) → option_map (domain_of rows) o ≡ Some domain → get domain.state.documents key ≡ Some document → IsDocumentOf key document.text
  named domain None h here = absurd cc
  named domain (Some d) h here =
      let same : domain_of rows d ≡ domain = cc in
      in_domain d (subst (λ (x : Domain). get x.state.documents key ≡ Some document) (sym same) here)

pub keeps_documents : (rows : Rows) → AreDocuments rows.documents → KeepsDocuments (kept_of rows)
keeps_documents rows all name domain there key document here =
    key_is key document.text (named rows all key document domain (find (is_named name) rows.domains) (sym (kept_at rows name) ∙ there) here)
