-- The plans of changes of documents.
use Rattle.std.proofs.Common.{◌≡◌, ◌≢◌, inr, ℕ, ◌+◌, ◌<◌, ◌^◌, ℤ, List, [], ◌∷◌, ◌++◌, filter, find, Bool, true, false, not, cond, nat_lt, bytes_eq, Option, Some, None, option_map, is_some, Ok, Err, refl, sym, ap, subst, ◌∙◌, int_eq}
use Rattle.xa_store.proofs.Common.{AllByRecursion, eq_by_cmp, FinMap, get, insert, remove, len, IsKeyedBy, next_key, update_where, delete_where, int_eq_apart, same_int, ◌>>=◌, DocumentKey, compare_keys, Absent, Quota, SameVersionOtherText, StillActive, activity_set, deleted, or_absent, upload_of, uploaded, uploaded_over, with_document, with_documents, within, DomainState, IsDocumentOf, StoredDocument, IsNextEpoch, state_of, keys_exact, keys_total, DomainRow, DocumentRow, nat_of, AreNumbered, HaveSoundColumns, Rows, documents_by_key, state_at, documents_at, kept_of}
use Rattle.xa_records.specs.declared.upload.Upload.TheVariants.{New, Same}
use Rattle.xa_records.proofs.FinMapLemmas.{get_put, get_taken, put_again}
use Rattle.xa_store.specs.declared.query.document_row.FoundDocument.{FoundDocument}
use Rattle.xa_store.specs.declared.query.domain.FoundDomain.{FoundDomain}
use Rattle.xa_store.specs.keeping.Lookup.{FindsDocument, IsDomain}
use Rattle.xa_store.specs.keeping.Plan.{IsUploadPlanned, RaisesTo, epoch_step}
use Rattle.xa_store.specs.declared.step.Step.TheVariants.{AddDocument, SetActive, DropDocument}
use Rattle.xa_store.specs.keeping.Steps.{KeyReads, is_document, with_epoch}
use Rattle.xa_store.specs.keeping.Turns.{Plans}
use Rattle.xa_store.proofs.ChangeLemmas.{IsOnly, Rewrote, number_of}
use Rattle.xa_store.proofs.EntryLemmas as entry
use Rattle.xa_store.proofs.FilterLemmas.{filter_both, filter_delete, filter_delete_apart, filter_push, filter_push_apart, filter_update, filter_update_apart, find_none, find_one}
use Rattle.xa_store.proofs.KeyLemmas.{own_number}
use Rattle.xa_store.proofs.PlanLemmas.{its_state, planned, refused, unchanged}
use Rattle.xa_store.proofs.TextsKept.{all_filter, all_push, all_update, of_key}
use Rattle.xa_store.proofs.WholeLemmas.{IsWholeDocument, count_after, documents_whole, epoch_whole, its_domain}

abbrev key_of : DocumentRow → DocumentKey
key_of d = d.key

abbrev stored : DocumentRow → StoredDocument
stored d = record { text = d.text; active = d.active }

module _ (rows : Rows) (name : List ℕ) (d : DomainRow) (one : IsOnly name d rows) (up : IsKeyedBy number_of rows.domains) (are : AreNumbered rows) (key : DocumentKey) (reads : KeyReads key) where
  abbrev n : ℤ
  n = d.number

  abbrev ours : DocumentRow → Bool
  ours x = int_eq x.number n

  abbrev has_key : DocumentRow → Bool
  has_key x = eq_by_cmp compare_keys key x.key

  abbrev xs : List DocumentRow
  xs = documents_at rows.documents n

  abbrev state : DomainState
  state = state_at rows n

  among : filter (is_document n key) rows.documents ≡ filter has_key xs
  among = filter_both ours has_key rows.documents

  apart_from : (m : ℤ) → m ≢ n → (x : DocumentRow) → ours x ≡ true → int_eq x.number m ≡ false
  apart_from m apart x here = int_eq_apart x.number m (λ same. apart (sym same ∙ same_int x.number n here))

  got : (o : Option DocumentRow) → find has_key xs ≡ o → get state.documents key ≡ option_map stored o
  got o is = entry.got keys_total keys_exact key_of stored key xs ∙ ap (option_map stored) is

  module _ (epoch : ℤ) (rises : nat_of epoch ≡ nat_of d.epoch + 1) (fits : nat_of epoch < 2 ^ 63) where
    abbrev with_rows : List DocumentRow → Rows
    with_rows documents = record rows { documents = documents; domains = with_epoch n epoch rows.domains }

    module _ (documents : List DocumentRow) (target : FinMap compare_keys StoredDocument) (here : documents_by_key (documents_at documents n) ≡ target)
        (others : (m : ℤ) → m ≢ n → documents_at documents m ≡ documents_at rows.documents m) (differs : state.documents ≢ target) where
      rewrote : Rewrote rows (with_rows documents) d epoch (with_documents target state)
      rewrote = record {
        next = refl;
        domains = refl;
        state = λ i. with_documents (here i) state;
        others = λ m apart. λ i. with_documents (documents_by_key (others m apart i)) (state_at rows m);
      }

      next_epoch : IsNextEpoch state (with_documents target state) (nat_of d.epoch) (nat_of epoch)
      next_epoch = inr (λ alike. differs alike.documents, (rises, fits))

    columns : (documents : List DocumentRow) → (HaveSoundColumns rows → AllByRecursion (IsWholeDocument rows.next) documents) → HaveSoundColumns rows → HaveSoundColumns (with_rows documents)
    columns documents all whole = documents_whole rows whole documents (with_epoch n epoch rows.domains) (all whole) (epoch_whole rows whole n epoch (count_after epoch (nat_of d.epoch) rises fits))

    -- ---- a document that is there

    module _ (x : DocumentRow) (there : filter (is_document n key) rows.documents ≡ x ∷ []) where
      found : find has_key xs ≡ Some x
      found = find_one has_key xs x [] (sym among ∙ there)

      present : get state.documents key ≡ Some (stored x)
      present = got (Some x) found

      pub activity_planned : (active : Bool) → x.active ≢ active → Plans (SetActive n key active ∷ epoch_step n epoch ∷ []) (within (activity_set key active)) name rows
      activity_planned active other =
          let f : DocumentRow → DocumentRow = λ x. record x { active = active } in
          let documents = update_where (is_document n key) f rows.documents in
          let put : StoredDocument = record { text = x.text; active = active } in
          let target = insert state.documents key put in
          let here : documents_by_key (documents_at documents n) ≡ target = ap documents_by_key (filter_update ours has_key f (λ x. refl) rows.documents) ∙ entry.updated keys_total keys_exact key_of stored key f (λ x. refl) xs x found in
          let others = λ (m : ℤ) (apart : m ≢ n). filter_update_apart ours has_key (λ x. int_eq x.number m) (apart_from m apart) f (λ x. refl) rows.documents in
          let differs : state.documents ≢ target = λ same. other (let both : ◌≡◌ {A = Option StoredDocument} (Some (stored x)) (Some put) = sym present ∙ ap (λ m. get m key) same ∙ get_put keys_total state.documents key put in
          let it : stored x ≡ put = cc in ap (λ (s : StoredDocument). s.active) it) in
          planned rows name d one (activity_set key active) are (with_documents target state) (ap (λ o. or_absent o >>= (λ document. Ok (with_document key document.text active state))) present)
          (SetActive n key active ∷ epoch_step n epoch ∷ []) epoch up (reads, (tt, tt)) (rewrote documents target here others differs) (next_epoch documents target here others differs)
          (columns documents (λ whole. all_update (IsWholeDocument rows.next) (is_document n key) f (λ x h. h) rows.documents whole.documents))

      pub drop_planned : x.active ≡ false → Plans (DropDocument n key ∷ epoch_step n epoch ∷ []) (within (deleted key)) name rows
      drop_planned idle =
          let documents = delete_where (is_document n key) rows.documents in
          let target = remove state.documents key in
          let here : documents_by_key (documents_at documents n) ≡ target = ap documents_by_key (filter_delete ours has_key rows.documents) ∙ entry.deleted keys_total keys_exact key_of stored key xs in
          let others = λ (m : ℤ) (apart : m ≢ n). filter_delete_apart ours has_key (λ x. int_eq x.number m) (apart_from m apart) rows.documents in
          let differs : state.documents ≢ target = λ same. let both : ◌≡◌ {A = Option StoredDocument} (Some (stored x)) None = sym present ∙ ap (λ m. get m key) same ∙ get_taken keys_total state.documents key in cc in
          planned rows name d one (deleted key) are (with_documents target state)
          (ap (λ o. or_absent o >>= (λ document. cond document.active (Err StillActive) (Ok (with_documents target state)))) present ∙ ap (λ b. cond b (Err StillActive) (Ok (with_documents target state))) idle)
          (DropDocument n key ∷ epoch_step n epoch ∷ []) epoch up (reads, (tt, tt)) (rewrote documents target here others differs) (next_epoch documents target here others differs)
          (columns documents (λ whole. all_filter (IsWholeDocument rows.next) (λ x. not (is_document n key x)) rows.documents whole.documents))

    -- ---- a document that isn't there

    module _ (none : filter (is_document n key) rows.documents ≡ []) where
      missing : get state.documents key ≡ None
      missing = got None (find_none has_key xs (sym among ∙ none))

      pub upload_planned : (body : List ℕ) → IsDocumentOf key body → nat_lt (len state.documents) 1_024 ≡ true → Plans (AddDocument n key body ∷ epoch_step n epoch ∷ []) (within (uploaded key body)) name rows
      upload_planned body document room =
          let new : DocumentRow = record { rowid = next_key (λ x. x.rowid) rows.documents; number = n; key = key; text = body; active = false } in
          let documents = rows.documents ++ new ∷ [] in
          let put : StoredDocument = record { text = body; active = false } in
          let target = insert state.documents key put in
          let here : documents_by_key (documents_at documents n) ≡ target =
          ap documents_by_key (filter_push ours rows.documents new (own_number n)) ∙ entry.pushed keys_total keys_exact key_of stored xs new (find_none has_key xs (sym among ∙ none)) in
          let others = λ (m : ℤ) (apart : m ≢ n). filter_push_apart (λ x. int_eq x.number m) rows.documents new (int_eq_apart n m (λ same. apart (sym same))) in
          let differs : state.documents ≢ target = λ same. let both : ◌≡◌ {A = Option StoredDocument} None (Some put) = sym missing ∙ ap (λ m. get m key) same ∙ get_put keys_total state.documents key put in cc in
          planned rows name d one (uploaded key body) are (with_documents target state) (ap (uploaded_over key body state) missing ∙ ap (λ b. cond b (Ok (with_document key body false state)) (Err Quota)) room)
          (AddDocument n key body ∷ epoch_step n epoch ∷ []) epoch up ((none, reads, of_key key body document), (tt, tt)) (rewrote documents target here others differs) (next_epoch documents target here others differs)
          (columns documents (λ whole. all_push (IsWholeDocument rows.next) rows.documents new whole.documents (its_domain rows whole name d one).0))

  -- ---- if nothing is done

  module _ (x : DocumentRow) (there : filter (is_document n key) rows.documents ≡ x ∷ []) where
    in_place : get state.documents key ≡ Some (stored x)
    in_place = got (Some x) (find_one has_key xs x [] (sym among ∙ there))

    pub activity_kept : (active : Bool) → x.active ≡ active → Plans [] (within (activity_set key active)) name rows
    activity_kept active same =
        let target = with_document key x.text active state in
        let put : insert state.documents key (record { text = x.text; active = active }) ≡ state.documents =
        put_again keys_total keys_exact state.documents key (record { text = x.text; active = active }) (in_place ∙ ap (λ b. let s : StoredDocument = record { text = x.text; active = b } in Some s) same) in
        unchanged rows name d one (activity_set key active) are target (ap (λ o. or_absent o >>= (λ document. Ok (with_document key document.text active state))) in_place) (λ i. with_documents (sym put i) state)

    pub upload_kept : (body : List ℕ) → bytes_eq x.text body ≡ true → Plans [] (within (uploaded key body)) name rows
    upload_kept body same = unchanged rows name d one (uploaded key body) are state (ap (uploaded_over key body state) in_place ∙ ap (λ b. cond b (Ok state) (Err SameVersionOtherText)) same) refl

    pub upload_other : (body : List ℕ) → bytes_eq x.text body ≡ false → within (uploaded key body) (state_of name (kept_of rows)) ≡ Err SameVersionOtherText
    upload_other body other = refused rows name d one (uploaded key body) SameVersionOtherText (ap (uploaded_over key body state) in_place ∙ ap (λ b. cond b (Ok state) (Err SameVersionOtherText)) other)

    pub drop_active : x.active ≡ true → within (deleted key) (state_of name (kept_of rows)) ≡ Err StillActive
    drop_active busy =
        let left = with_documents (remove state.documents key) state in
        refused rows name d one (deleted key) StillActive (ap (λ o. or_absent o >>= (λ document. cond document.active (Err StillActive) (Ok left))) in_place ∙ ap (λ b. cond b (Err StillActive) (Ok left)) busy)

  module _ (none : filter (is_document n key) rows.documents ≡ []) where
    nowhere : get state.documents key ≡ None
    nowhere = got None (find_none has_key xs (sym among ∙ none))

    pub activity_absent : (active : Bool) → within (activity_set key active) (state_of name (kept_of rows)) ≡ Err Absent
    activity_absent active = refused rows name d one (activity_set key active) Absent (ap (λ o. or_absent o >>= (λ document. Ok (with_document key document.text active state))) nowhere)

    pub drop_absent : within (deleted key) (state_of name (kept_of rows)) ≡ Err Absent
    drop_absent = refused rows name d one (deleted key) Absent (ap (λ o. or_absent o >>= (λ document. cond document.active (Err StillActive) (Ok (with_documents (remove state.documents key) state)))) nowhere)

    pub upload_full : (body : List ℕ) → nat_lt (len state.documents) 1_024 ≡ false → within (uploaded key body) (state_of name (kept_of rows)) ≡ Err Quota
    upload_full body full = refused rows name d one (uploaded key body) Quota (ap (uploaded_over key body state) nowhere ∙ ap (λ b. cond b (Ok (with_document key body false state)) (Err Quota)) full)

-- ---- of a domain that was found

module _ (rows : Rows) (name : List ℕ) (found : FoundDomain) (are : AreNumbered rows) (up : IsKeyedBy number_of rows.domains) (is : IsDomain name rows found) (key : DocumentKey) (reads : KeyReads key) where
  finds_own : (o : Option FoundDocument) → FindsDocument found.number key rows o → FindsDocument is.row.number key rows o
  finds_own o = subst (λ n. FindsDocument n key rows o) is.number

  module _ (next : ℤ) (raises : RaisesTo found.epoch (Ok next)) where
    raise : (next ≡ Rattle.std.specs.Prelude.pos (nat_of is.row.epoch + 1)) × (nat_of is.row.epoch + 1 < 2 ^ 63)
    raise = raises (nat_of is.row.epoch) (is.epoch ∙ is.has_epoch)

    one_more : nat_of next ≡ nat_of is.row.epoch + 1
    one_more = ap nat_of raise.0

    still_fits : nat_of next < 2 ^ 63
    still_fits = subst (λ k. k < 2 ^ 63) (sym one_more) raise.1

    pub plan_activity : (there : FoundDocument) → FindsDocument found.number key rows (Some there) → (active : Bool) → (there.active ≡ active → ⊥)
        → Plans (SetActive found.number key active ∷ epoch_step found.number next ∷ []) (within (activity_set key active)) name rows
    plan_activity there finds active other =
        let own = finds_own (Some there) finds in
        let same : own.0.active ≡ there.active = ap (λ (f : FoundDocument). f.active) own.2 in
        subst (λ n. Plans (SetActive n key active ∷ epoch_step n next ∷ []) (within (activity_set key active)) name rows) (sym is.number)
        (activity_planned rows name is.row is.only up are key reads next one_more still_fits own.0 own.1 active (λ e. other (sym same ∙ e)))

    pub plan_drop : (there : FoundDocument) → FindsDocument found.number key rows (Some there) → there.active ≡ false → Plans (DropDocument found.number key ∷ epoch_step found.number next ∷ []) (within (deleted key)) name rows
    plan_drop there finds idle =
        let own = finds_own (Some there) finds in
        let same : own.0.active ≡ there.active = ap (λ (f : FoundDocument). f.active) own.2 in
        subst (λ n. Plans (DropDocument n key ∷ epoch_step n next ∷ []) (within (deleted key)) name rows) (sym is.number)
        (drop_planned rows name is.row is.only up are key reads next one_more still_fits own.0 own.1 (same ∙ idle))

    pub plan_upload : (body : List ℕ) → IsDocumentOf key body → (count : ℕ) → count ≡ len (state_at rows found.number).documents → FindsDocument found.number key rows None → nat_lt count 1_024 ≡ true
        → IsUploadPlanned key body name rows (Ok (AddDocument found.number key body ∷ epoch_step found.number next ∷ []))
    plan_upload body document count all finds room =
        let own = finds_own None finds in
        let own_count : count ≡ len (state_at rows is.row.number).documents = all ∙ ap (λ n. len (state_at rows n).documents) is.number in (
          subst (λ n. Plans (AddDocument n key body ∷ epoch_step n next ∷ []) (within (uploaded key body)) name rows) (sym is.number)
              (upload_planned rows name is.row is.only up are key reads next one_more still_fits own body document (subst (λ k. nat_lt k 1_024 ≡ true) own_count room)),
          sym (ap (upload_of key) (its_state rows name is.row is.only) ∙ ap (λ o. cond (is_some o) Same New) (nowhere rows name is.row is.only up are key reads own)),
        )

  pub plan_still : (there : FoundDocument) → FindsDocument found.number key rows (Some there) → (active : Bool) → there.active ≡ active → Plans [] (within (activity_set key active)) name rows
  plan_still there finds active e =
      let own = finds_own (Some there) finds in
      let same : own.0.active ≡ there.active = ap (λ (f : FoundDocument). f.active) own.2 in
      activity_kept rows name is.row is.only up are key reads own.0 own.1 active (same ∙ e)

  pub plan_no_activity : (active : Bool) → FindsDocument found.number key rows None → within (activity_set key active) (state_of name (kept_of rows)) ≡ Err Absent
  plan_no_activity active finds = activity_absent rows name is.row is.only up are key reads (finds_own None finds) active

  pub plan_busy : (there : FoundDocument) → FindsDocument found.number key rows (Some there) → there.active ≡ true → within (deleted key) (state_of name (kept_of rows)) ≡ Err StillActive
  plan_busy there finds busy =
      let own = finds_own (Some there) finds in
      let same : own.0.active ≡ there.active = ap (λ (f : FoundDocument). f.active) own.2 in
      drop_active rows name is.row is.only up are key reads own.0 own.1 (same ∙ busy)

  pub plan_no_drop : FindsDocument found.number key rows None → within (deleted key) (state_of name (kept_of rows)) ≡ Err Absent
  plan_no_drop finds = drop_absent rows name is.row is.only up are key reads (finds_own None finds)

  module _ (there : FoundDocument) (finds : FindsDocument found.number key rows (Some there)) (body : List ℕ) where
    own_text : (finds_own (Some there) finds).0.text ≡ there.text
    own_text = ap (λ (f : FoundDocument). f.text) (finds_own (Some there) finds).2

    pub plan_again : bytes_eq there.text body ≡ true → IsUploadPlanned key body name rows (Ok [])
    plan_again e =
        let own = finds_own (Some there) finds in (
          upload_kept rows name is.row is.only up are key reads own.0 own.1 body (ap (λ t. bytes_eq t body) own_text ∙ e),
          sym (ap (upload_of key) (its_state rows name is.row is.only) ∙ ap (λ o. cond (is_some o) Same New) (in_place rows name is.row is.only up are key reads own.0 own.1)),
        )

    pub plan_other : bytes_eq there.text body ≡ false → within (uploaded key body) (state_of name (kept_of rows)) ≡ Err SameVersionOtherText
    plan_other e =
        let own = finds_own (Some there) finds in
        upload_other rows name is.row is.only up are key reads own.0 own.1 body (ap (λ t. bytes_eq t body) own_text ∙ e)

  pub plan_full : (body : List ℕ) (count : ℕ) → count ≡ len (state_at rows found.number).documents → FindsDocument found.number key rows None → nat_lt count 1_024 ≡ false
      → within (uploaded key body) (state_of name (kept_of rows)) ≡ Err Quota
  plan_full body count all finds full =
      let own_count : count ≡ len (state_at rows is.row.number).documents = all ∙ ap (λ n. len (state_at rows n).documents) is.number in
      upload_full rows name is.row is.only up are key reads (finds_own None finds) body (subst (λ k. nat_lt k 1_024 ≡ false) own_count full)
