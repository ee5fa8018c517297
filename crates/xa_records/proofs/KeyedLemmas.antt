-- Each text stays a document of the key under which it is kept, through every change.
use Rattle.std.proofs.Common.{◌≡◌, ◌+◌, ℕ, Bool, true, false, List, refl, sym, ap, ◌∙◌, subst, inl, inr}
use Rattle.std.specs.Prelude.{Option, Some, None, option_map, Result, Ok, Err, ◌||◌, bytes_eq, if◌then◌else◌, length, nat_le, nat_lt}
use Rattle.std.specs.FinMap.{FinMap, contains_key, empty, get, get-empty, insert, len, remove}
use Rattle.xa_policy.specs.declared.document_key.DocumentKey.{DocumentKey}
use Rattle.xa_policy.specs.declared.reference.Reference.{Reference}
use Rattle.xa_policy.specs.DocumentKey.{compare_keys}
use Rattle.xa_notation.specs.declared.token.Role.{Role}
use Rattle.xa_decide.specs.declared.source_row.SourceRow.{SourceRow}
use Rattle.xa_value.specs.Gives.{◌>>=◌}
use Rattle.xa_records.specs.declared.refusal.ChangeError.{ChangeError}
use Rattle.xa_records.specs.declared.refusal.ChangeError.TheVariants.{Failed, Refused}
use Rattle.xa_records.specs.declared.refusal.Refusal.{Refusal}
use Rattle.xa_records.specs.declared.refusal.Refusal.TheVariants.{Absent, Exists, Quota, SameVersionOtherText, StillActive}
use Rattle.xa_records.specs.Changes.{Change, activity_set, created, deleted, or_absent, removed, root_set, source_set, token_dropped, token_put, uploaded, uploaded_over, with_document, with_documents, with_tokens, within}
use Rattle.xa_records.specs.DomainState.{DomainState, IsDocumentOf, StoredDocument, compare_bytes, new_domain}
use Rattle.xa_records.specs.Keeper.{Changes}
use Rattle.xa_records.specs.Kept.{Becomes, Domain, IsChanged, Kept, one_kept, state_of}
use Rattle.xa_records.specs.Keyed.{KeepsDocuments, key_if, key_in}
use Rattle.xa_records.proofs.FinMapLemmas.{different, get_put, get_put_elsewhere, get_taken, get_taken_elsewhere, here_or_elsewhere}
use Rattle.xa_records.proofs.KeptLemmas.{at_one}
use Rattle.xa_records.proofs.OrderLemmas.{bytes_exact, bytes_total, keys_exact, keys_total}

-- each text of the domain is a document of its key
abbrev AreKeyed : DomainState → Type 0
AreKeyed state = (key : DocumentKey) (document : StoredDocument) → get state.documents key ≡ Some document → key_in document.text ≡ Some key

abbrev AreKeyedIf : Option DomainState → Type 0
AreKeyedIf None = Unit {0}
AreKeyedIf (Some state) = AreKeyed state

-- a change after which that is so, if it was before
abbrev pub Keeps : Change → Type 0
Keeps change = (before : Option DomainState) (after : DomainState) → AreKeyedIf before → change before ≡ Ok (Some after) → AreKeyed after

pub key_is : (key : DocumentKey) (text : List ℕ) → IsDocumentOf key text → key_in text ≡ Some key
key_is key text (parsed, is, same) = ap key_if is ∙ ap Some same

-- ---- over all domains

one_domain : (a b : Domain) → Some a ≡ Some b → a ≡ b
one_domain a b e = cc

became_state : (next : ℕ) (old : Option Domain) (state : Option DomainState) (new : Option Domain) (d : Domain) → Becomes next old state new → new ≡ Some d → state ≡ Some d.state
became_state next old None new d becomes there = absurd (let f : None ≡ Some d = sym becomes ∙ there in cc)
became_state next None (Some state) new d becomes there =
    let e : record { number = next; epoch = 0; state = state } ≡ d = one_domain _ _ (sym becomes ∙ there) in ap (λ (x : Domain). Some x.state) e
became_state next (Some before) (Some state) new d (epoch, is, becomes) there =
    let e : record { number = before.number; epoch = epoch; state = state } ≡ d = one_domain _ _ (sym becomes ∙ there) in ap (λ (x : Domain). Some x.state) e

keyed_if : (kept : Kept) (name : List ℕ) → KeepsDocuments kept → (o : Option Domain) → get kept.domains name ≡ o → AreKeyedIf (option_map (λ (d : Domain). d.state) o)
keyed_if kept name all None at = tt
keyed_if kept name all (Some d) at = all name d at

documents_changed : (old new : Kept) (name : List ℕ) (change : Change) (state : Option DomainState) → change (state_of name old) ≡ Ok state → IsChanged old new name state
    → Keeps change → KeepsDocuments old → KeepsDocuments new
documents_changed old new name change state made changed keeps all q d there = elim (here_or_elsewhere bytes_exact q name) [
  | inl here ↦
      let is = became_state old.next (get old.domains name) state (get new.domains name) d changed.domain (ap (get new.domains) (sym here) ∙ there) in
      keeps (state_of name old) d.state (keyed_if old name all (get old.domains name) refl) (made ∙ ap Ok is)
  | inr away ↦ all q d (sym (changed.others q (different bytes_total q name away)) ∙ there)
]

pub documents_after : {X : Type 0} (old new : Kept) (r : Result X ChangeError) (name : List ℕ) (change : Change) → Changes old new r name change → Keeps change
    → KeepsDocuments old → KeepsDocuments new
documents_after old new (Ok x) name change (state, made, changed) keeps all = documents_changed old new name change state made changed keeps all
documents_after old new (Err (Refused e)) name change (is, same) keeps all = subst KeepsDocuments (sym same) all
documents_after old new (Err (Failed failure)) name change same keeps all = subst KeepsDocuments (sym same) all

no_domain : (d : Domain) → None ≡ Some d → ⊥
no_domain d e = cc

-- no domains at all
pub documents_new : (next : ℕ) → KeepsDocuments (record { domains = empty; next = next })
documents_new next name d there = absurd (no_domain d (sym (get-empty compare_bytes name) ∙ there))

no_document : (d : StoredDocument) → None ≡ Some d → ⊥
no_document d e = cc

new_keyed : AreKeyed new_domain
new_keyed key document there = absurd (no_document document (sym (get-empty compare_keys key) ∙ there))

-- one domain
pub documents_one : (name : List ℕ) (number epoch : ℕ) → KeepsDocuments (one_kept name number epoch)
documents_one name number epoch q d there =
    let one : Domain = record { number = number; epoch = epoch; state = new_domain } in
    subst (λ (x : Domain). AreKeyed x.state) (sym (at_one name one d q there).1) new_keyed

-- ---- each change

pub keeps_created : Keeps created
keeps_created None after given is = let e : new_domain ≡ after = cc in subst AreKeyed e new_keyed
keeps_created (Some state) after given is = absurd (let f : Err Exists ≡ Ok (Some after) = is in cc)

pub keeps_removed : Keeps removed
keeps_removed None after given is = absurd (let f : Err Absent ≡ Ok (Some after) = is in cc)
keeps_removed (Some state) after given is = absurd (let f : Ok None ≡ Ok (Some after) = is in cc)

keeps_within : (change : DomainState → Result DomainState Refusal) → ((state after : DomainState) → AreKeyed state → change state ≡ Ok after → AreKeyed after) → Keeps (within change)
keeps_within change each None after given is = absurd (let f : Err Absent ≡ Ok (Some after) = is in cc)
keeps_within change each (Some state) after given is = by_result (change state) refl is where
  by_result : (r : Result DomainState Refusal) → change state ≡ r → (r >>= (λ next. Ok (Some next))) ≡ Ok (Some after) → AreKeyed after
  by_result (Ok next) at is = let f : Ok (Some next) ≡ Ok (Some after) = is in let e : next ≡ after = cc in each state after given (at ∙ ap Ok e)
  by_result (Err x) at is = absurd (let f : Err x ≡ Ok (Some after) = is in cc)

-- the documents stay
same_keyed : (state after : DomainState) → AreKeyed state → state.documents ≡ after.documents → AreKeyed after
same_keyed state after given same key document there = given key document (ap (λ (ds : FinMap compare_keys StoredDocument). get ds key) same ∙ there)

made : (b : Bool) (next after : DomainState) (e : Refusal) → (if b then Ok next else Err e) ≡ Ok after → next ≡ after
made true next after e is = cc
made false next after e is = absurd (cc)

left : (b : Bool) (next after : DomainState) (e : Refusal) → (if b then Err e else Ok next) ≡ Ok after → next ≡ after
left true next after e is = absurd (cc)
left false next after e is = cc

pub keeps_put_token : (digest : List ℕ) (role : Role) → Keeps (within (token_put digest role))
keeps_put_token digest role = keeps_within (token_put digest role) (λ state after given is.
    same_keyed state after given (ap (λ (x : DomainState). x.documents)
    (made (contains_key state.tokens digest || nat_lt (len state.tokens) 32) (with_tokens (insert state.tokens digest role) state) after Quota is)))

pub keeps_drop_token : (digest : List ℕ) → Keeps (within (token_dropped digest))
keeps_drop_token digest = keeps_within (token_dropped digest) (λ state after given is.
    same_keyed state after given (ap (λ (x : DomainState). x.documents) (made (contains_key state.tokens digest) (with_tokens (remove state.tokens digest) state) after Absent is)))

pub keeps_root : (root : Option Reference) → Keeps (within (root_set root))
keeps_root root = keeps_within (root_set root) (λ state after given is.
    let e : record { tokens = state.tokens; documents = state.documents; root = root; source = state.source } ≡ after = cc in
    same_keyed state after given (ap (λ (x : DomainState). x.documents) e))

pub keeps_source : (rows : List SourceRow) → Keeps (within (source_set rows))
keeps_source rows = keeps_within (source_set rows) (λ state after given is.
    same_keyed state after given (ap (λ (x : DomainState). x.documents)
    (made (nat_le (length rows) 4_096) (record { tokens = state.tokens; documents = state.documents; root = state.root; source = rows }) after Quota is)))

-- a text is put in under its key
one_document : (a b : StoredDocument) → Some a ≡ Some b → a ≡ b
one_document a b e = cc

put_keyed : (state : DomainState) (key : DocumentKey) (text : List ℕ) (active : Bool) → AreKeyed state → key_in text ≡ Some key → AreKeyed (with_document key text active state)
put_keyed state key text active given is q d there = elim (here_or_elsewhere keys_exact q key) [
  | inl here ↦
      let put : StoredDocument = record { text = text; active = active } in
      let e : put ≡ d = one_document put d (sym (get_put keys_total state.documents key put) ∙ ap (get (insert state.documents key put)) (sym here) ∙ there) in
      ap (λ (x : StoredDocument). key_in x.text) (sym e) ∙ is ∙ ap Some (sym here)
  | inr away ↦
      given q d (sym (get_put_elsewhere keys_total keys_exact state.documents key (record { text = text; active = active }) q (different keys_total q key away)) ∙ there)
]

pub keeps_upload : (key : DocumentKey) (text : List ℕ) → IsDocumentOf key text → Keeps (within (uploaded key text))
keeps_upload key text its = keeps_within (uploaded key text) (λ state after given is. by_there state after given (get state.documents key) is) where
  by_there : (state after : DomainState) → AreKeyed state → (o : Option StoredDocument) → uploaded_over key text state o ≡ Ok after → AreKeyed after
  by_there state after given (Some document) is = subst AreKeyed (made (bytes_eq document.text text) state after SameVersionOtherText is) given
  by_there state after given None is =
      subst AreKeyed (made (nat_lt (len state.documents) 1_024) (with_document key text false state) after Quota is) (put_keyed state key text false given (key_is key text its))

pub keeps_activity : (key : DocumentKey) (active : Bool) → Keeps (within (activity_set key active))
keeps_activity key active = keeps_within (activity_set key active) (λ state after given is. by_there state after given (get state.documents key) refl is) where
  by_there : (state after : DomainState) → AreKeyed state → (o : Option StoredDocument) → get state.documents key ≡ o
      → (or_absent o >>= (λ document. Ok (with_document key document.text active state))) ≡ Ok after → AreKeyed after
  by_there state after given None at is = absurd (let f : Err Absent ≡ Ok after = is in cc)
  by_there state after given (Some document) at is =
      let f : Ok (with_document key document.text active state) ≡ Ok after = is in
      let e : with_document key document.text active state ≡ after = cc in
      subst AreKeyed e (put_keyed state key document.text active given (given key document at))

-- a document is taken out
taken_keyed : (state : DomainState) (key : DocumentKey) → AreKeyed state → AreKeyed (with_documents (remove state.documents key) state)
taken_keyed state key given q d there = elim (here_or_elsewhere keys_exact q key) [
  | inl here ↦ absurd (no_document d (sym (get_taken keys_total state.documents key) ∙ ap (get (remove state.documents key)) (sym here) ∙ there))
  | inr away ↦ given q d (sym (get_taken_elsewhere keys_total keys_exact state.documents key q (different keys_total q key away)) ∙ there)
]

pub keeps_delete : (key : DocumentKey) → Keeps (within (deleted key))
keeps_delete key = keeps_within (deleted key) (λ state after given is. by_there state after given (get state.documents key) is) where
  by_there : (state after : DomainState) → AreKeyed state → (o : Option StoredDocument)
      → (or_absent o >>= (λ document. if document.active then Err StillActive else Ok (with_documents (remove state.documents key) state))) ≡ Ok after → AreKeyed after
  by_there state after given None is = absurd (let f : Err Absent ≡ Ok after = is in cc)
  by_there state after given (Some document) is =
      subst AreKeyed (left document.active (with_documents (remove state.documents key) state) after StillActive is) (taken_keyed state key given)
