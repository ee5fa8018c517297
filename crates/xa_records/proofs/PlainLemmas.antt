-- One domain that has changed, and the map in which it has.
use Rattle.std.proofs.Common.{◌≡◌, ◌+◌, ℕ, List, Bool, true, false, refl, sym, ap, ◌∙◌, subst, inl, inr, cond, arith}
use Rattle.std.specs.Prelude.{Option, Some, None, Result, Ok, Err, ◌||◌, nat_lt, nat_le, bytes_eq, length}
use Rattle.std.specs.FinMap.{FinMap, contains_key, from_entries, get, insert, len, remove}
use Rattle.std.specs.BTreeMap as tree
use Rattle.std.specs.BTreeMap.{BTreeMap, UpdatesBy, WritesThrough}
use Rattle.std.specs.Option.{is_some, option_map}
use Rattle.xa_value.specs.Gives.{◌>>=◌}
use Rattle.xa_records.proofs.TreeLemmas as map
use Rattle.xa_decide.specs.declared.source_row.SourceRow.{SourceRow}
use Rattle.xa_notation.specs.declared.token.Role.{Role}
use Rattle.xa_policy.specs.declared.document_key.DocumentKey.{DocumentKey}
use Rattle.xa_policy.specs.declared.reference.Reference.{Reference}
use Rattle.xa_policy.specs.DocumentKey.{compare_keys}
use Rattle.xa_records.specs.declared.refusal.ChangeError.{ChangeError}
use Rattle.xa_records.specs.declared.refusal.ChangeError.TheVariants.{Failed, Refused}
use Rattle.xa_records.specs.declared.refusal.Failure.{Failure}
use Rattle.xa_records.specs.declared.refusal.Failure.TheVariants.{Memory, Store}
use Rattle.xa_records.specs.declared.refusal.Refusal.{Refusal}
use Rattle.xa_records.specs.declared.refusal.Refusal.TheVariants.{Absent, Exists, SameVersionOtherText, StillActive}
use Rattle.xa_records.specs.declared.upload.Upload.TheVariants.{Same}
use Rattle.xa_records.specs.Changes.{activity_set, created, deleted, or_absent, removed, root_set, source_set, token_dropped, token_put, uploaded, uploaded_over, with_document, with_documents, with_tokens, within}
use Rattle.xa_records.specs.DomainState.{compare_bytes, DomainState, new_domain, StoredDocument}
use Rattle.xa_records.specs.Keeper.{Changes}
use Rattle.xa_records.specs.Kept.{Becomes, CantRaise, DecidesAlike, Domain, HasNoneLeft, IsGreatest, IsNextNumber, IsRaised, Kept, state_of}
use Rattle.xa_records.specs.Plain.{activity_at, active_at, Alters, CantRaiseEpoch, RaisesTo, upload_again, with_activity}
use Rattle.xa_records.proofs.FinMapLemmas.{get_put, get_put_elsewhere, get_taken, get_taken_elsewhere, put_again}
use Rattle.xa_records.proofs.OrderLemmas.{bytes_exact, bytes_total, keys_exact, keys_total}

-- ---- the state of one domain

abbrev pub DomainChange : Type 0
DomainChange = DomainState → Result DomainState Refusal

-- nothing that decides has changed
pub stays : {X : Type 0} (change : DomainChange) (old : Domain) (state : DomainState) (x : X) → change old.state ≡ Ok state → DecidesAlike old.state state
    → Alters change old (record { number = old.number; epoch = old.epoch; state = state }) (Ok x)
stays change old state x made alike = (state, made, (old.epoch, inl (alike, refl), refl))

-- something that decides has
pub rises : {X : Type 0} (change : DomainChange) (old : Domain) (epoch : ℕ) (state : DomainState) (x : X) → IsRaised old.epoch epoch → change old.state ≡ Ok state → ¬ DecidesAlike old.state state
    → Alters change old (record { number = old.number; epoch = epoch; state = state }) (Ok x)
rises change old epoch state x next made differs = (state, made, (epoch, inr (differs, next), refl))

-- nothing has changed at all
pub same : {X : Type 0} (change : DomainChange) (old : Domain) (state : DomainState) (x : X) → change old.state ≡ Ok state → old.state ≡ state → Alters change old old (Ok x)
same change old state x made e = subst (λ (s : DomainState). Alters change old (record { number = old.number; epoch = old.epoch; state = s }) (Ok x)) (sym e)
    (stays change old state x made (record { documents = ap (λ s. s.documents) e; root = ap (λ s. s.root) e; source = ap (λ s. s.source) e }))

-- a change of something that decides, by what it makes of a domain of epoch 0, can't be made if the epoch is the greatest
pub cant_rise : {X : Type 0} (change : DomainChange) (number epoch : ℕ) (state after : DomainState) (x : X)
    → Alters change (record { number = number; epoch = 0; state = state }) (record { number = number; epoch = 1; state = after }) (Ok x) → IsGreatest epoch
    → CantRaiseEpoch change (record { number = number; epoch = epoch; state = state })
cant_rise change number epoch state after x (next, made, (risen, inl (alike, stayed), is)) greatest =
    let one : 1 ≡ risen = ap (λ (d : Domain). d.epoch) is in absurd (omega arith)
cant_rise change number epoch state after x (next, made, (risen, inr (differs, up), is)) greatest = (next, made, differs, greatest)

-- the first of epochs
pub first_epoch : IsRaised 0 1
first_epoch = (refl, omega arith)

-- there is no number after this one
pub none_after : (number : ℕ) (failure : Failure) → RaisesTo number (Err failure) → IsGreatest number
none_after number Store is = is
none_after number Memory is = absurd is

ok_bool : {a b : Bool} → ◌≡◌ {A = Result Bool Refusal} (Ok a) (Ok b) → a ≡ b
ok_bool e = cc

one_stored : {a b : StoredDocument} → Some a ≡ Some b → a ≡ b
one_stored e = cc

some_is_not_none : {A : Type 0} {a : A} → Some a ≡ None → ⊥
some_is_not_none e = cc

put_made : (b : Bool) (x y : Result DomainState Refusal) → b ≡ true → cond b x y ≡ x
put_made b x y e = ap (λ c. cond c x y) e

module _ {X : Type 0} (number epoch : ℕ) (tokens : FinMap compare_bytes Role) (documents : FinMap compare_keys StoredDocument) (root : Option Reference) (source : List SourceRow) (x : X) where
  abbrev state : DomainState
  state = record { tokens = tokens; documents = documents; root = root; source = source }

  abbrev domain : Domain
  domain = record { number = number; epoch = epoch; state = state }

  pub tokens_change : (change : DomainChange) (after : FinMap compare_bytes Role) → change state ≡ Ok (with_tokens after state)
      → Alters change domain (record { number = number; epoch = epoch; state = with_tokens after state }) (Ok x)
  tokens_change change after made = stays change domain (with_tokens after state) x made (record { documents = refl; root = refl; source = refl })

  pub token_is_put : (digest : List ℕ) (role : Role) (after : FinMap compare_bytes Role) → (contains_key tokens digest || nat_lt (len tokens) 32) ≡ true → after ≡ insert tokens digest role
      → Alters (token_put digest role) domain (record { number = number; epoch = epoch; state = with_tokens after state }) (Ok x)
  token_is_put digest role after room e = tokens_change (token_put digest role) after (put_made _ _ _ room ∙ ap (λ t. Ok (with_tokens t state)) (sym e))

  pub token_is_dropped : (digest : List ℕ) (after : FinMap compare_bytes Role) → contains_key tokens digest ≡ true → after ≡ remove tokens digest
      → Alters (token_dropped digest) domain (record { number = number; epoch = epoch; state = with_tokens after state }) (Ok x)
  token_is_dropped digest after there e = tokens_change (token_dropped digest) after (put_made _ _ _ there ∙ ap (λ t. Ok (with_tokens t state)) (sym e))

  pub root_is_same : (given : Option Reference) → root ≡ given → Alters (root_set given) domain domain (Ok x)
  root_is_same given e = same (root_set given) domain (record { tokens = tokens; documents = documents; root = given; source = source }) x refl
      (ap (λ r. record { tokens = tokens; documents = documents; root = r; source = source }) e)

  pub root_is_set : (given : Option Reference) (next : ℕ) → IsRaised epoch next → (root ≡ given → ⊥)
      → Alters (root_set given) domain (record { number = number; epoch = next; state = record { tokens = tokens; documents = documents; root = given; source = source } }) (Ok x)
  root_is_set given next up differs = rises (root_set given) domain next (record { tokens = tokens; documents = documents; root = given; source = source }) x up refl (λ alike. differs alike.root)

  pub source_is_same : (rows : List SourceRow) → nat_le (length rows) 4_096 ≡ true → source ≡ rows → Alters (source_set rows) domain domain (Ok x)
  source_is_same rows fits e = same (source_set rows) domain (record { tokens = tokens; documents = documents; root = root; source = rows }) x (put_made _ _ _ fits)
      (ap (λ r. record { tokens = tokens; documents = documents; root = root; source = r }) e)

  pub source_is_set : (rows : List SourceRow) (next : ℕ) → IsRaised epoch next → nat_le (length rows) 4_096 ≡ true → (source ≡ rows → ⊥)
      → Alters (source_set rows) domain (record { number = number; epoch = next; state = record { tokens = tokens; documents = documents; root = root; source = rows } }) (Ok x)
  source_is_set rows next up fits differs = rises (source_set rows) domain next (record { tokens = tokens; documents = documents; root = root; source = rows }) x up (put_made _ _ _ fits) (λ alike. differs alike.source)

  -- other documents
  documents_change : (change : DomainChange) (next : ℕ) (after : FinMap compare_keys StoredDocument) → IsRaised epoch next → change state ≡ Ok (with_documents after state) → (documents ≡ after → ⊥)
      → Alters change domain (record { number = number; epoch = next; state = with_documents after state }) (Ok x)
  documents_change change next after up made differs = rises change domain next (with_documents after state) x up made (λ alike. differs alike.documents)

  pub document_is_put : (key : DocumentKey) (text : List ℕ) (next : ℕ) (after : FinMap compare_keys StoredDocument) → IsRaised epoch next → get documents key ≡ None → nat_lt (len documents) 1_024 ≡ true
      → after ≡ insert documents key (record { text = text; active = false }) → Alters (uploaded key text) domain (record { number = number; epoch = next; state = with_documents after state }) (Ok x)
  document_is_put key text next after up none room e = documents_change (uploaded key text) next after up
      (ap (uploaded_over key text state) none ∙ put_made _ _ _ room ∙ ap (λ d. Ok (with_documents d state)) (sym e))
      (λ is. let stored : StoredDocument = record { text = text; active = false } in
      let there : get documents key ≡ Some stored = ap (λ m. get m key) (is ∙ e) ∙ get_put keys_total documents key stored in absurd (cc))

  -- the activity of a document
  same_activity : (key : DocumentKey) (active : Bool) (found : Option StoredDocument) → get documents key ≡ found → (or_absent found >>= (λ d. Ok d.active)) ≡ Ok active
      → Alters (activity_set key active) domain domain (Ok x)
  same_activity key active None at is = absurd (cc)
  same_activity key active (Some d) at is =
      let e : d.active ≡ active = ok_bool is in
      let there : get documents key ≡ Some (record { text = d.text; active = active }) = at ∙ ap (λ (a : Bool). Some (record { text = d.text; active = a })) e in
      same (activity_set key active) domain (with_document key d.text active state) x
      (ap (λ (o : Option StoredDocument). or_absent o >>= (λ document. Ok (with_document key document.text active state))) at)
      (ap (λ (m : FinMap compare_keys StoredDocument). with_documents m state) (sym (put_again keys_total keys_exact documents key (record { text = d.text; active = active }) there)))

  pub activity_is_same : (key : DocumentKey) (active : Bool) → activity_at key state ≡ Ok active → Alters (activity_set key active) domain domain (Ok x)
  activity_is_same key active is = same_activity key active (get documents key) refl is

  other_activity : (key : DocumentKey) (active b : Bool) (next : ℕ) (after : FinMap compare_keys StoredDocument) (found : Option StoredDocument) → get documents key ≡ found → IsRaised epoch next
      → (or_absent found >>= (λ d. Ok d.active)) ≡ Ok b → (b ≡ active → ⊥) → after ≡ with_activity key active documents
      → Alters (activity_set key active) domain (record { number = number; epoch = next; state = with_documents after state }) (Ok x)
  other_activity key active b next after None at up is other e = absurd (cc)
  other_activity key active b next after (Some d) at up is other e =
      let was : d.active ≡ b = ok_bool is in
      let stored : StoredDocument = record { text = d.text; active = active } in
      let put : after ≡ insert documents key stored = e ∙ ap (active_at key active documents) at in
      documents_change (activity_set key active) next after up
      (ap (λ (o : Option StoredDocument). or_absent o >>= (λ document. Ok (with_document key document.text active state))) at ∙ ap (λ (m : FinMap compare_keys StoredDocument). Ok (with_documents m state)) (sym put))
      (λ alike. other (sym was ∙ ap (λ (s : StoredDocument). s.active) (one_stored (sym at ∙ ap (λ m. get m key) (alike ∙ put) ∙ get_put keys_total documents key stored))))

  pub activity_changes : (key : DocumentKey) (active b : Bool) (next : ℕ) (after : FinMap compare_keys StoredDocument) → IsRaised epoch next → activity_at key state ≡ Ok b → (b ≡ active → ⊥)
      → after ≡ with_activity key active documents → Alters (activity_set key active) domain (record { number = number; epoch = next; state = with_documents after state }) (Ok x)
  activity_changes key active b next after up is other e = other_activity key active b next after (get documents key) refl up is other e

  taken_out : (key : DocumentKey) (next : ℕ) (after : FinMap compare_keys StoredDocument) (found : Option StoredDocument) → get documents key ≡ found → IsRaised epoch next
      → (or_absent found >>= (λ d. Ok d.active)) ≡ Ok false → after ≡ remove documents key → Alters (deleted key) domain (record { number = number; epoch = next; state = with_documents after state }) (Ok x)
  taken_out key next after None at up is e = absurd (cc)
  taken_out key next after (Some d) at up is e =
      let was : d.active ≡ false = ok_bool is in
      documents_change (deleted key) next after up
      (ap (λ (o : Option StoredDocument). or_absent o >>= (λ document. cond document.active (Err StillActive) (Ok (with_documents (remove documents key) state)))) at
      ∙ ap (λ (b : Bool). cond b (Err StillActive) (Ok (with_documents (remove documents key) state))) was ∙ ap (λ (m : FinMap compare_keys StoredDocument). Ok (with_documents m state)) (sym e))
      (λ alike. some_is_not_none (sym at ∙ ap (λ m. get m key) (alike ∙ e) ∙ get_taken keys_total documents key))

  pub document_is_deleted : (key : DocumentKey) (next : ℕ) (after : FinMap compare_keys StoredDocument) → IsRaised epoch next → activity_at key state ≡ Ok false → after ≡ remove documents key
      → Alters (deleted key) domain (record { number = number; epoch = next; state = with_documents after state }) (Ok x)
  document_is_deleted key next after up is e = taken_out key next after (get documents key) refl up is e

-- an upload over a document of the same key
over : (domain : Domain) (key : DocumentKey) (text : List ℕ) (document : StoredDocument) (b : Bool) → get domain.state.documents key ≡ Some document → bytes_eq document.text text ≡ b
    → Alters (uploaded key text) domain domain (cond b (Ok Same) (Err (Refused SameVersionOtherText)))
over domain key text document true there e =
    same (uploaded key text) domain domain.state Same (ap (uploaded_over key text domain.state) there ∙ ap (λ (b : Bool). cond b (Ok domain.state) (Err SameVersionOtherText)) e) refl
over domain key text document false there e =
    (ap (uploaded_over key text domain.state) there ∙ ap (λ (b : Bool). cond b (Ok domain.state) (Err SameVersionOtherText)) e, refl)

pub upload_is_again : (domain : Domain) (key : DocumentKey) (text : List ℕ) (document : StoredDocument) → get domain.state.documents key ≡ Some document
    → Alters (uploaded key text) domain domain (upload_again document text)
upload_is_again domain key text document there = over domain key text document (bytes_eq document.text text) there refl

-- ---- the map of domains

abbrev pub kept_of : BTreeMap (List ℕ) Domain → ℕ → Kept
kept_of m next = record { domains = from_entries m.entries; next = next }

pub there_is : (m : BTreeMap (List ℕ) Domain) (name : List ℕ) (found : Option Domain) → found ≡ tree.get_by (compare_bytes name) m → get (from_entries {R = compare_bytes} m.entries) name ≡ found
there_is m name found e = sym (e ∙ map.found bytes_total m name)

pub state_is : (m : BTreeMap (List ℕ) Domain) (next : ℕ) (name : List ℕ) (found : Option Domain) → found ≡ tree.get_by (compare_bytes name) m → state_of name (kept_of m next) ≡ option_map (λ d. d.state) found
state_is m next name found e = ap (option_map (λ d. d.state)) (there_is m name found e)

-- a change of the domain that can't be made there can't be made in the map
pub cant_alter : (change : DomainChange) (name : List ℕ) (m : BTreeMap (List ℕ) Domain) (next : ℕ) (old : Domain) → Some old ≡ tree.get_by (compare_bytes name) m
    → CantRaiseEpoch change old → CantRaise (within change) name (kept_of m next)
cant_alter change name m next old there (state, made, differs, greatest) = (
  Some state,
  ap (within change) (state_is m next name (Some old) there) ∙ ap (λ (s : Result DomainState Refusal). s >>= (λ after. Ok (Some after))) made,
  subst (λ (o : Option Domain). HasNoneLeft next o (Some state)) (sym (there_is m name (Some old) there)) (differs, greatest),
)

module _ (change : DomainChange) (name : List ℕ) (m n : BTreeMap (List ℕ) Domain) (next : ℕ) where
  pub absent_refused : (X : Type 0) → None ≡ tree.get_by (compare_bytes name) m → n ≡ m → Changes {X = X} (kept_of m next) (kept_of n next) (Err (Refused Absent)) name (within change)
  absent_refused X none e = (ap (within change) (state_is m next name None none), ap (λ (k : BTreeMap (List ℕ) Domain). kept_of k next) e)

  module _ (old new : Domain) (there : Some old ≡ tree.get_by (compare_bytes name) m) (writes : WritesThrough compare_bytes (compare_bytes name) m new n) where
    put : from_entries {R = compare_bytes} n.entries ≡ insert (from_entries m.entries) name new
    put = map.put_is bytes_total bytes_exact m n name new (writes.3 (sym (ap is_some there)))

    unchanged : new ≡ old → kept_of n next ≡ kept_of m next
    unchanged e = ap (λ (k : FinMap compare_bytes Domain). record { domains = k; next = next })
        (put ∙ ap (insert (from_entries {R = compare_bytes} m.entries) name) e ∙ put_again bytes_total bytes_exact (from_entries m.entries) name old (there_is m name (Some old) there))

    pub altered : {X : Type 0} (r : Result X ChangeError) → Alters change old new r → Changes (kept_of m next) (kept_of n next) r name (within change)
    altered (Ok x) (state, made, goes) =
        let at = there_is m name (Some old) there in (
          Some state,
          ap (within change) (state_is m next name (Some old) there) ∙ ap (λ (s : Result DomainState Refusal). s >>= (λ after. Ok (Some after))) made,
          record {
            domain = subst (λ (o : Option Domain). Becomes next o (Some state) (get (from_entries {R = compare_bytes} n.entries) name)) (sym at)
                (goes.0, goes.1, ap (λ k. get k name) put ∙ get_put bytes_total (from_entries m.entries) name new ∙ ap (λ (d : Domain). Some d) goes.2);
            others = λ other away. ap (λ k. get k other) put ∙ get_put_elsewhere bytes_total bytes_exact (from_entries m.entries) name new other away;
            next = subst (λ (o : Option Domain). IsNextNumber next o (Some state) next) (sym at) refl;
          },
        )
    altered (Err (Refused e)) (is, kept) =
        (ap (within change) (state_is m next name (Some old) there) ∙ ap (λ (s : Result DomainState Refusal). s >>= (λ after. Ok (Some after))) is, unchanged kept)
    altered (Err (Failed failure)) kept = unchanged kept

refuses : (found : Option Domain) → is_some found ≡ true → created (option_map (λ d. d.state) found) ≡ Err Exists
refuses None e = absurd (cc)
refuses (Some d) e = refl

none_of : (found : Option Domain) → is_some found ≡ false → None ≡ found
none_of None e = refl
none_of (Some d) e = absurd (cc)

pub exists_refused : (X : Type 0) (m : BTreeMap (List ℕ) Domain) (next : ℕ) (name : List ℕ) → is_some (tree.get_by (compare_bytes name) m) ≡ true → Changes {X = X} (kept_of m next) (kept_of m next) (Err (Refused Exists)) name created
exists_refused X m next name there = (ap created (state_is m next name _ refl) ∙ refuses _ there, refl)

pub is_created : {X : Type 0} (m n : BTreeMap (List ℕ) Domain) (next after : ℕ) (name key : List ℕ) (domain : Domain) (x : X) → is_some (tree.get_by (compare_bytes name) m) ≡ false → key ≡ name
    → domain ≡ record { number = next; epoch = 0; state = new_domain } → UpdatesBy compare_bytes (compare_bytes key) m n (Some domain) → IsRaised next after
    → Changes (kept_of m next) (kept_of n after) (Ok x) name created
is_created m n next after name key domain x absent here made updates up =
    let none = none_of _ absent in
    let at = there_is m name None none in
    let fresh : Domain = record { number = next; epoch = 0; state = new_domain } in
    let put : from_entries {R = compare_bytes} n.entries ≡ insert (from_entries m.entries) name fresh = map.put_is bytes_total bytes_exact m n key domain updates
    ∙ ap (λ k. insert (from_entries {R = compare_bytes} m.entries) k domain) here ∙ ap (insert (from_entries {R = compare_bytes} m.entries) name) made in (
      Some new_domain,
      ap created (state_is m next name None none),
      record {
        domain = subst (λ (o : Option Domain). Becomes next o (Some new_domain) (get (from_entries {R = compare_bytes} n.entries) name)) (sym at) (ap (λ k. get k name) put ∙ get_put bytes_total (from_entries m.entries) name fresh);
        others = λ other away. ap (λ k. get k other) put ∙ get_put_elsewhere bytes_total bytes_exact (from_entries m.entries) name fresh other away;
        next = subst (λ (o : Option Domain). IsNextNumber next o (Some new_domain) after) (sym at) up;
      },
    )

pub cant_create : (m : BTreeMap (List ℕ) Domain) (next : ℕ) (name : List ℕ) → is_some (tree.get_by (compare_bytes name) m) ≡ false → IsGreatest next → CantRaise created name (kept_of m next)
cant_create m next name absent greatest =
    let none = none_of _ absent in (
      Some new_domain,
      ap created (state_is m next name None none),
      subst (λ (o : Option Domain). HasNoneLeft next o (Some new_domain)) (sym (there_is m name None none)) greatest,
    )

pub is_removed : {X : Type 0} (m n : BTreeMap (List ℕ) Domain) (next : ℕ) (name : List ℕ) (domain : Domain) (x : X) → Some domain ≡ tree.get_by (compare_bytes name) m
    → UpdatesBy compare_bytes (compare_bytes name) m n None → Changes (kept_of m next) (kept_of n next) (Ok x) name removed
is_removed m n next name domain x there updates =
    let at = there_is m name (Some domain) there in
    let taken : from_entries {R = compare_bytes} n.entries ≡ remove (from_entries m.entries) name = map.removed_is bytes_total bytes_exact m n name updates in (
      None,
      ap removed (state_is m next name (Some domain) there),
      record {
        domain = ap (λ k. get k name) taken ∙ get_taken bytes_total (from_entries m.entries) name;
        others = λ other away. ap (λ k. get k other) taken ∙ get_taken_elsewhere bytes_total bytes_exact (from_entries m.entries) name other away;
        next = subst (λ (o : Option Domain). IsNextNumber next o None next) (sym at) refl;
      },
    )

pub is_not_there : (X : Type 0) (m n : BTreeMap (List ℕ) Domain) (next : ℕ) (name : List ℕ) → None ≡ tree.get_by (compare_bytes name) m → n.entries ≡ m.entries
    → Changes {X = X} (kept_of m next) (kept_of n next) (Err (Refused Absent)) name removed
is_not_there X m n next name none e = (ap removed (state_is m next name None none), ap (λ (es : List (List ℕ × Domain)). record { domains = from_entries {R = compare_bytes} es; next = next }) e)
