-- The plans of changes of tokens.
use Rattle.std.proofs.Common.{◌≡◌, ◌≢◌, inl, ℕ, ℤ, List, [], ◌∷◌, ◌++◌, filter, find, Bool, true, false, ◌||◌, not, cond, nat_lt, Option, Some, None, option_map, is_some, Ok, Err, refl, sym, ap, subst, ◌∙◌, int_eq}
use Rattle.xa_store.proofs.Common.{AllByRecursion, eq_by_cmp, FinMap, contains_key, insert, remove, len, IsKeyedBy, next_key, update_where, delete_where, int_eq_apart, same_int, Role, Absent, Quota, token_dropped, token_put, with_tokens, within, DomainState, compare_bytes, IsNextEpoch, state_of, bytes_exact, bytes_total, is_digest, DomainRow, TokenRow, nat_of, AreNumbered, Rows, roles_of, state_at, tokens_at, kept_of}
use Rattle.xa_store.specs.declared.query.domain.FoundDomain.{FoundDomain}
use Rattle.xa_store.specs.keeping.Lookup.{FindsRole, IsDomain}
use Rattle.xa_store.specs.declared.step.Step.TheVariants.{AddToken, SetRole, DropToken}
use Rattle.xa_store.specs.keeping.Steps.{is_named, is_token, with_epoch}
use Rattle.xa_store.specs.keeping.Turns.{Plans}
use Rattle.xa_store.proofs.ChangeLemmas.{IsOnly, Rewrote, number_of, one_passes}
use Rattle.xa_store.proofs.EntryLemmas.{got, pushed, updated, deleted}
use Rattle.xa_store.proofs.FilterLemmas.{filter_both, filter_delete, filter_delete_apart, filter_push, filter_push_apart, filter_update, filter_update_apart, find_none, find_one, filter_alike}
use Rattle.xa_store.proofs.KeyLemmas.{untouched, own_number}
use Rattle.xa_store.proofs.PlanLemmas.{planned, refused}
use Rattle.xa_store.proofs.TextsKept.{all_filter, all_push, all_update}
use Rattle.xa_store.proofs.WholeLemmas.{IsWholeToken, its_domain, tokens_whole}

-- ---- the epoch that a domain has already

module _ (d : DomainRow) (p : DomainRow → Bool) where
  pub same_epoch : (ds : List DomainRow) → filter p ds ≡ d ∷ [] → AllByRecursion (λ x. p x ≡ int_eq x.number d.number) ds → with_epoch d.number d.epoch ds ≡ ds
  same_epoch [] one all = refl
  same_epoch (x ∷ ds) one all = go (p x) refl one (λ more. same_epoch ds more all.1)
    where
      none_of : (xs : List DomainRow) → filter p xs ≡ [] → AllByRecursion (λ x. p x ≡ int_eq x.number d.number) xs → filter (λ x. int_eq x.number d.number) xs ≡ []
      none_of xs none same = sym (filter_alike p (λ x. int_eq x.number d.number) xs same) ∙ none

      go : (b : Bool) → p x ≡ b → cond b (x ∷ filter p ds) (filter p ds) ≡ d ∷ [] → (filter p ds ≡ d ∷ [] → with_epoch d.number d.epoch ds ≡ ds) → with_epoch d.number d.epoch (x ∷ ds) ≡ x ∷ ds
      go true is e more =
          let same : x ≡ d = cc in
          let none : filter p ds ≡ [] = cc in
          ap (λ b. cond b (record x { epoch = d.epoch }) x ∷ with_epoch d.number d.epoch ds) (sym all.0 ∙ is)
          ∙ ap (λ (y : DomainRow). record x { epoch = y.epoch } ∷ with_epoch d.number d.epoch ds) (sym same)
          ∙ ap (λ l. x ∷ l) (untouched number_of (λ x. int_eq x.number d.number) (λ y. record y { epoch = d.epoch }) ds (none_of ds none all.1))
      go false is e more = ap (λ b. cond b (record x { epoch = d.epoch }) x ∷ with_epoch d.number d.epoch ds) (sym all.0 ∙ is) ∙ ap (λ l. x ∷ l) (more e)

abbrev digest_of : TokenRow → List ℕ
digest_of t = t.digest

abbrev role_in : TokenRow → Role
role_in t = t.role

module _ (rows : Rows) (name : List ℕ) (d : DomainRow) (one : IsOnly name d rows) (up : IsKeyedBy number_of rows.domains) (are : AreNumbered rows) (digest : List ℕ) where
  abbrev n : ℤ
  n = d.number

  abbrev ours : TokenRow → Bool
  ours t = int_eq t.number n

  abbrev has_digest : TokenRow → Bool
  has_digest t = eq_by_cmp compare_bytes digest t.digest

  abbrev ts : List TokenRow
  ts = tokens_at rows.tokens n

  abbrev state : DomainState
  state = state_at rows n

  kept_epoch : with_epoch n d.epoch rows.domains ≡ rows.domains
  kept_epoch = same_epoch d (is_named name) rows.domains one (one_passes (is_named name) d rows.domains up one)

  among : filter (is_token n digest) rows.tokens ≡ filter has_digest ts
  among = filter_both ours has_digest rows.tokens

  apart_from : (m : ℤ) → m ≢ n → (t : TokenRow) → ours t ≡ true → int_eq t.number m ≡ false
  apart_from m apart t here = int_eq_apart t.number m (λ same. apart (sym same ∙ same_int t.number n here))

  abbrev with_rows : List TokenRow → Rows
  with_rows tokens = record rows { tokens = tokens }

  -- tokens of the domain alone are others
  rewrote : (tokens : List TokenRow) (target : FinMap compare_bytes Role) → roles_of (tokens_at tokens n) ≡ target → ((m : ℤ) → m ≢ n → tokens_at tokens m ≡ tokens_at rows.tokens m)
      → Rewrote rows (with_rows tokens) d d.epoch (with_tokens target state)
  rewrote tokens target here others = record {
    next = refl;
    domains = sym kept_epoch;
    state = λ i. with_tokens (here i) state;
    others = λ m apart. λ i. with_tokens (roles_of (others m apart i)) (state_at rows m);
  }

  same_deciding : (target : FinMap compare_bytes Role) → IsNextEpoch state (with_tokens target state) (nat_of d.epoch) (nat_of d.epoch)
  same_deciding target = inl (record { documents = refl; root = refl; source = refl }, refl)

  holds : (b : Bool) → is_some (option_map role_in (find has_digest ts)) ≡ b → contains_key state.tokens digest ≡ b
  holds b is = ap is_some (got bytes_total bytes_exact digest_of role_in digest ts) ∙ is

  -- ---- the role of a token that is there

  module _ (t : TokenRow) (there : filter (is_token n digest) rows.tokens ≡ t ∷ []) where
    found : find has_digest ts ≡ Some t
    found = find_one has_digest ts t [] (sym among ∙ there)

    present : contains_key state.tokens digest ≡ true
    present = holds true (ap (λ o. is_some (option_map role_in o)) found)

    pub role_planned : (role : Role) → Plans (SetRole n digest role ∷ []) (within (token_put digest role)) name rows
    role_planned role =
        let f : TokenRow → TokenRow = λ t. record t { role = role } in
        let tokens = update_where (is_token n digest) f rows.tokens in
        let target = insert state.tokens digest role in
        let here : roles_of (tokens_at tokens n) ≡ target = ap roles_of (filter_update ours has_digest f (λ x. refl) rows.tokens) ∙ updated bytes_total bytes_exact digest_of role_in digest f (λ x. refl) ts t found in
        let others = λ (m : ℤ) (apart : m ≢ n). filter_update_apart ours has_digest (λ t. int_eq t.number m) (apart_from m apart) f (λ x. refl) rows.tokens in
        planned rows name d one (token_put digest role) are (with_tokens target state) (ap (λ b. cond (b || nat_lt (len state.tokens) 32) (Ok (with_tokens target state)) (Err Quota)) present)
        (SetRole n digest role ∷ []) d.epoch up (tt, tt) (rewrote tokens target here others) (same_deciding target)
        (λ whole. tokens_whole rows whole tokens (all_update (IsWholeToken rows.next) (is_token n digest) f (λ t h. h) rows.tokens whole.tokens))

    pub drop_planned : Plans (DropToken n digest ∷ []) (within (token_dropped digest)) name rows
    drop_planned =
        let tokens = delete_where (is_token n digest) rows.tokens in
        let target = remove state.tokens digest in
        let here : roles_of (tokens_at tokens n) ≡ target = ap roles_of (filter_delete ours has_digest rows.tokens) ∙ deleted bytes_total bytes_exact digest_of role_in digest ts in
        let others = λ (m : ℤ) (apart : m ≢ n). filter_delete_apart ours has_digest (λ t. int_eq t.number m) (apart_from m apart) rows.tokens in
        planned rows name d one (token_dropped digest) are (with_tokens target state) (ap (λ b. cond b (Ok (with_tokens target state)) (Err Absent)) present) (DropToken n digest ∷ []) d.epoch up (tt, tt)
        (rewrote tokens target here others) (same_deciding target) (λ whole. tokens_whole rows whole tokens (all_filter (IsWholeToken rows.next) (λ t. not (is_token n digest t)) rows.tokens whole.tokens))

  -- ---- a token that isn't there

  module _ (none : filter (is_token n digest) rows.tokens ≡ []) where
    unfound : find has_digest ts ≡ None
    unfound = find_none has_digest ts (sym among ∙ none)

    missing : contains_key state.tokens digest ≡ false
    missing = holds false (ap (λ o. is_some (option_map role_in o)) unfound)

    pub token_planned : (role : Role) → is_digest digest ≡ true → nat_lt (len state.tokens) 32 ≡ true → Plans (AddToken n digest role ∷ []) (within (token_put digest role)) name rows
    token_planned role long room =
        let new : TokenRow = record { rowid = next_key (λ t. t.rowid) rows.tokens; number = n; digest = digest; role = role } in
        let tokens = rows.tokens ++ new ∷ [] in
        let target = insert state.tokens digest role in
        let here : roles_of (tokens_at tokens n) ≡ target = ap roles_of (filter_push ours rows.tokens new (own_number n)) ∙ pushed bytes_total bytes_exact digest_of role_in ts new unfound in
        let others = λ (m : ℤ) (apart : m ≢ n). filter_push_apart (λ t. int_eq t.number m) rows.tokens new (int_eq_apart n m (λ same. apart (sym same))) in
        planned rows name d one (token_put digest role) are (with_tokens target state)
        (ap (λ b. cond (b || nat_lt (len state.tokens) 32) (Ok (with_tokens target state)) (Err Quota)) missing ∙ ap (λ b. cond b (Ok (with_tokens target state)) (Err Quota)) room) (AddToken n digest role ∷ []) d.epoch up
        (none, tt) (rewrote tokens target here others) (same_deciding target)
        (λ whole. tokens_whole rows whole tokens (all_push (IsWholeToken rows.next) rows.tokens new whole.tokens ((its_domain rows whole name d one).0, long)))

    pub token_refused : (role : Role) → nat_lt (len state.tokens) 32 ≡ false → within (token_put digest role) (state_of name (kept_of rows)) ≡ Err Quota
    token_refused role full =
        let set = with_tokens (insert state.tokens digest role) state in
        refused rows name d one (token_put digest role) Quota (ap (λ b. cond (b || nat_lt (len state.tokens) 32) (Ok set) (Err Quota)) missing ∙ ap (λ b. cond b (Ok set) (Err Quota)) full)

    pub drop_refused : within (token_dropped digest) (state_of name (kept_of rows)) ≡ Err Absent
    drop_refused = refused rows name d one (token_dropped digest) Absent (ap (λ b. cond b (Ok (with_tokens (remove state.tokens digest) state)) (Err Absent)) missing)

-- ---- of a domain that was found

module _ (rows : Rows) (name : List ℕ) (found : FoundDomain) (up : IsKeyedBy number_of rows.domains) (are : AreNumbered rows) (is : IsDomain name rows found) (digest : List ℕ) where
  finds_own : (o : Option Role) → FindsRole found.number digest rows o → FindsRole is.row.number digest rows o
  finds_own o = subst (λ n. FindsRole n digest rows o) is.number

  pub plan_role : (there role : Role) → FindsRole found.number digest rows (Some there) → Plans (SetRole found.number digest role ∷ []) (within (token_put digest role)) name rows
  plan_role there role finds =
      let own = finds_own (Some there) finds in
      subst (λ n. Plans (SetRole n digest role ∷ []) (within (token_put digest role)) name rows) (sym is.number) (role_planned rows name is.row is.only up are digest own.0 own.1 role)

  pub plan_drop : (there : Role) → FindsRole found.number digest rows (Some there) → Plans (DropToken found.number digest ∷ []) (within (token_dropped digest)) name rows
  plan_drop there finds =
      let own = finds_own (Some there) finds in
      subst (λ n. Plans (DropToken n digest ∷ []) (within (token_dropped digest)) name rows) (sym is.number) (drop_planned rows name is.row is.only up are digest own.0 own.1)

  pub plan_no_drop : FindsRole found.number digest rows None → within (token_dropped digest) (state_of name (kept_of rows)) ≡ Err Absent
  plan_no_drop finds = drop_refused rows name is.row is.only up are digest (finds_own None finds)

  module _ (count : ℕ) (all : count ≡ len (state_at rows found.number).tokens) where
    own_count : count ≡ len (state_at rows is.row.number).tokens
    own_count = all ∙ ap (λ n. len (state_at rows n).tokens) is.number

    pub plan_token : (role : Role) → is_digest digest ≡ true → FindsRole found.number digest rows None → nat_lt count 32 ≡ true → Plans (AddToken found.number digest role ∷ []) (within (token_put digest role)) name rows
    plan_token role long finds room =
        subst (λ n. Plans (AddToken n digest role ∷ []) (within (token_put digest role)) name rows) (sym is.number)
        (token_planned rows name is.row is.only up are digest (finds_own None finds) role long (subst (λ k. nat_lt k 32 ≡ true) own_count room))

    pub plan_full : (role : Role) → FindsRole found.number digest rows None → nat_lt count 32 ≡ false → within (token_put digest role) (state_of name (kept_of rows)) ≡ Err Quota
    plan_full role finds full = token_refused rows name is.row is.only up are digest (finds_own None finds) role (subst (λ k. nat_lt k 32 ≡ false) own_count full)
