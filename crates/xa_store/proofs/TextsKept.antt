-- Each text that is kept is a document of its key: whatever steps are taken, and when opening finds the tables sound.
use Rattle.std.proofs.Common.{ℕ, Bool, true, false, not, cond, int_eq, List, [], ◌∷◌, ◌++◌, filter}
use Rattle.xa_store.proofs.Common.{AllByRecursion, update_where, DocumentKey, IsDocumentOf, DocumentRow, AreDocuments, Rows}
use Rattle.xa_store.specs.declared.step.Step.{Step}
use Rattle.xa_store.specs.declared.step.Step.TheVariants.{AddDocument, SetActive, DropDocument, DropDomain}
use Rattle.xa_store.specs.keeping.Steps.{Allows, AllowsAll, IsOfKey, after, after_all, is_document}

module _ {X : Type 0} (P : X → Type 0) where
  pub all_filter : (p : X → Bool) (xs : List X) → AllByRecursion P xs → AllByRecursion P (filter p xs)
  all_filter p [] all = tt
  all_filter p (x ∷ xs) all = go (p x) (all_filter p xs all.1)
    where
      go : (b : Bool) → AllByRecursion P (filter p xs) → AllByRecursion P (cond b (x ∷ filter p xs) (filter p xs))
      go true more = (all.0, more)
      go false more = more

  pub all_update : (p : X → Bool) (f : X → X) → ((x : X) → P x → P (f x)) → (xs : List X) → AllByRecursion P xs → AllByRecursion P (update_where p f xs)
  all_update p f kept [] all = tt
  all_update p f kept (x ∷ xs) all = (one (p x), all_update p f kept xs all.1)
    where
      one : (b : Bool) → P (cond b (f x) x)
      one true = kept x all.0
      one false = all.0

  pub all_push : (xs : List X) (x : X) → AllByRecursion P xs → P x → AllByRecursion P (xs ++ x ∷ [])
  all_push [] x all p = (p, tt)
  all_push (y ∷ xs) x all p = (all.0, all_push xs x all.1 p)

abbrev pub IsDocument : DocumentRow → Type 0
IsDocument d = IsDocumentOf d.key d.text

pub of_key : (key : DocumentKey) (text : List ℕ) → IsDocumentOf key text → IsOfKey key text
unfolding IsOfKey
of_key key text is = is

documents_after : (step : Step) (rows : Rows) → Allows step rows → AreDocuments rows.documents → AreDocuments (after step rows).documents
unfolding IsOfKey
documents_after (AddDocument number key text) rows allows all = all_push IsDocument rows.documents _ all allows.2
documents_after (SetActive number key active) rows allows all = all_update IsDocument (is_document number key) (λ d. record d { active = active }) (λ d is. is) rows.documents all
documents_after (DropDocument number key) rows allows all = all_filter IsDocument (λ d. not (is_document number key d)) rows.documents all
documents_after (DropDomain number) rows allows all = all_filter IsDocument (λ d. not (int_eq d.number number)) rows.documents all
documents_after _ rows allows all = all

pub documents_kept : (steps : List Step) (rows : Rows) → AllowsAll steps rows → AreDocuments rows.documents → AreDocuments (after_all steps rows).documents
documents_kept [] rows allows all = all
documents_kept (step ∷ steps) rows allows all = documents_kept steps (after step rows) allows.1 (documents_after step rows allows.0 all)
