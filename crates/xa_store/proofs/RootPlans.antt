-- The plan of a root that is set.
use Rattle.std.proofs.Common.{◌≡◌, ◌≢◌, inr, ◌+◌, ◌<◌, ◌^◌, ℕ, ℤ, List, [], Bool, true, false, not, cond, Option, Some, None, option_map, option_and_then, Ok, refl, sym, ap, subst, ◌∙◌, int_eq}
use Rattle.xa_store.proofs.Common.{is_utf8, IsKeyedBy, get_by, insert_by, without_key, all-insert_by, int_eq_apart, Reference, pattern_text, read_pattern, read_version, version_text, within, root_set, DomainState, is_assigned, is_count, is_pattern, is_version, DomainRow, RootRow, result_ok, nat_of, AreNumbered, AreRootTexts, HaveSoundColumns, is_if_any, Rows, root_at, state_at}
use Rattle.xa_store.specs.declared.query.domain.FoundDomain.{FoundDomain}
use Rattle.xa_store.specs.keeping.Lookup.{IsDomain}
use Rattle.xa_store.specs.keeping.Plan.{HasRootTexts, RaisesTo, RootReads, root_steps}
use Rattle.xa_store.specs.Rows.{root_of, reference_of}
use Rattle.xa_store.specs.keeping.Steps.{after_all, AllowsAll, with_epoch}
use Rattle.xa_store.specs.keeping.Turns.{Plans}
use Rattle.xa_store.proofs.ChangeLemmas.{IsOnly, Rewrote, number_of}
use Rattle.xa_store.proofs.KeyLemmas.{get_by-insert_by, get_by-without_key, own_number}
use Rattle.xa_store.proofs.PlanLemmas.{planned, unchanged}
use Rattle.xa_store.proofs.TextsKept.{all_filter}
use Rattle.xa_store.proofs.WholeLemmas.{IsWholeRoot, count_after, epoch_whole, its_domain, roots_whole}

abbrev root_key : RootRow → ℤ
root_key r = r.number

taken_out : (rs : List RootRow) (gone m : ℤ) → root_at (without_key root_key rs gone) m ≡ cond (int_eq gone m) None (root_at rs m)
taken_out rs gone m = ap (option_map reference_of) (get_by-without_key root_key gone m rs) ∙ none_or (int_eq gone m) (get_by root_key rs m)
  where
    none_or : (b : Bool) (o : Option RootRow) → option_map reference_of (cond b None o) ≡ cond b None (option_map reference_of o)
    none_or true o = refl
    none_or false o = refl

put_in : (rs : List RootRow) (r : RootRow) (m : ℤ) → root_at (insert_by root_key rs r) m ≡ cond (int_eq r.number m) (Some (reference_of r)) (root_at rs m)
put_in rs r m = ap (option_map reference_of) (get_by-insert_by root_key r m rs) ∙ some_or (int_eq r.number m) (get_by root_key rs m)
  where
    some_or : (b : Bool) (o : Option RootRow) → option_map reference_of (cond b (Some r) o) ≡ cond b (Some (reference_of r)) (option_map reference_of o)
    some_or true o = refl
    some_or false o = refl

its_number : (n : ℤ) (root : Reference) → (root_of n root).number ≡ n
unfolding root_of
its_number n root = refl

-- the roots after the steps
pub roots_after : (rows : Rows) (n e : ℤ) (root : Option Reference) → RootReads n root → (m : ℤ) → root_at (after_all (root_steps n e root) rows).roots m ≡ cond (int_eq n m) root (root_at rows.roots m)
roots_after rows n e None reads m = taken_out rows.roots n m
roots_after rows n e (Some root) reads m =
    put_in (without_key root_key rows.roots n) (root_of n root) m
    ∙ ap (λ k. cond (int_eq k m) (Some (reference_of (root_of n root))) (root_at (without_key root_key rows.roots n) m)) (its_number n root) ∙ ap (λ x. cond (int_eq n m) (Some x) (root_at (without_key root_key rows.roots n) m)) reads
    ∙ ap (cond (int_eq n m) (Some root)) (taken_out rows.roots n m) ∙ over (int_eq n m)
  where
    over : (b : Bool) → cond b (Some root) (cond b None (root_at rows.roots m)) ≡ cond b (Some root) (root_at rows.roots m)
    over true = refl
    over false = refl

abbrev with_root : Option Reference → DomainState → DomainState
with_root root state = record { tokens = state.tokens; documents = state.documents; root = root; source = state.source }

allowed : (rows : Rows) (n e : ℤ) (root : Option Reference) → AllowsAll (root_steps n e root) rows
allowed rows n e None = (tt, (tt, tt))
allowed rows n e (Some root) = (tt, (tt, (tt, tt)))

-- the columns after the steps
whole_after : (rows : Rows) → HaveSoundColumns rows → (n e : ℤ) (root : Option Reference) → is_assigned rows.next n ≡ true → HasRootTexts n root → is_count e ≡ true → HaveSoundColumns (after_all (root_steps n e root) rows)
whole_after rows whole n e None given texts counts =
    roots_whole rows whole (without_key root_key rows.roots n) (with_epoch n e rows.domains) (all_filter (IsWholeRoot rows.next) (λ r. not (int_eq r.number n)) rows.roots whole.roots) (epoch_whole rows whole n e counts)
whole_after rows whole n e (Some root) given texts counts =
    roots_whole rows whole (insert_by root_key (without_key root_key rows.roots n) (root_of n root)) (with_epoch n e rows.domains)
    (all-insert_by root_key (IsWholeRoot rows.next) (without_key root_key rows.roots n) (root_of n root) (subst (λ m. is_assigned rows.next m ≡ true) (sym (its_number n root)) given, texts)
    (all_filter (IsWholeRoot rows.next) (λ r. not (int_eq r.number n)) rows.roots whole.roots)) (epoch_whole rows whole n e counts)

module _ (rows : Rows) (name : List ℕ) (d : DomainRow) (one : IsOnly name d rows) (up : IsKeyedBy number_of rows.domains) (are : AreNumbered rows) (epoch : ℤ) (root : Option Reference) where
  abbrev target : DomainState
  target = with_root root (state_at rows d.number)

  rewrote : RootReads d.number root → Rewrote rows (after_all (root_steps d.number epoch root) rows) d epoch target
  rewrote reads =
      let at = roots_after rows d.number epoch root reads in
      go root at
    where
      go : (root : Option Reference) → ((m : ℤ) → root_at (after_all (root_steps d.number epoch root) rows).roots m ≡ cond (int_eq d.number m) root (root_at rows.roots m))
          → Rewrote rows (after_all (root_steps d.number epoch root) rows) d epoch (with_root root (state_at rows d.number))
      go None at = record {
        next = refl;
        domains = refl;
        state = λ i. with_root ((at d.number ∙ ap (λ b. cond b None (root_at rows.roots d.number)) (own_number d.number)) i) (state_at rows d.number);
        others = λ n apart. λ i. with_root ((at n ∙ ap (λ b. cond b None (root_at rows.roots n)) (int_eq_apart d.number n (λ same. apart (sym same)))) i) (state_at rows n);
      }
      go (Some r) at = record {
        next = refl;
        domains = refl;
        state = λ i. with_root ((at d.number ∙ ap (λ b. cond b (Some r) (root_at rows.roots d.number)) (own_number d.number)) i) (state_at rows d.number);
        others = λ n apart. λ i. with_root ((at n ∙ ap (λ b. cond b (Some r) (root_at rows.roots n)) (int_eq_apart d.number n (λ same. apart (sym same)))) i) (state_at rows n);
      }

  -- another root: the steps set it and raise the epoch
  pub root_planned : RootReads d.number root → HasRootTexts d.number root → root_at rows.roots d.number ≢ root → nat_of epoch ≡ nat_of d.epoch + 1 → nat_of epoch < 2 ^ 63 → Plans (root_steps d.number epoch root) (within (root_set root)) name rows
  root_planned reads texts differs rises fits =
      planned rows name d one (root_set root) are target refl (root_steps d.number epoch root) epoch up (allowed rows d.number epoch root) (rewrote reads) (inr (λ alike. differs alike.root, (rises, fits)))
      (λ whole. whole_after rows whole d.number epoch root (its_domain rows whole name d one).0 texts (count_after epoch (nat_of d.epoch) rises fits))

  -- the root that is there: nothing is done
  pub root_kept : root_at rows.roots d.number ≡ root → Plans [] (within (root_set root)) name rows
  root_kept same = unchanged rows name d one (root_set root) are target refl (λ i. with_root (same i) (state_at rows d.number))

-- of a domain that was found
module _ (rows : Rows) (name : List ℕ) (found : FoundDomain) (there root : Option Reference) (are : AreNumbered rows) (up : IsKeyedBy number_of rows.domains) (is : IsDomain name rows found)
    (at : there ≡ root_at rows.roots found.number) where
  its_root : there ≡ root_at rows.roots is.row.number
  its_root = at ∙ ap (root_at rows.roots) is.number

  pub plan_same : there ≡ root → Plans [] (within (root_set root)) name rows
  plan_same same = root_kept rows name is.row is.only up are is.row.epoch root (sym its_root ∙ same)

  pub plan_new : (there ≡ root → ⊥) → ((number : ℤ) → RootReads number root) → ((number : ℤ) → HasRootTexts number root) → (next : ℤ) → RaisesTo found.epoch (Ok next) → Plans (root_steps found.number next root) (within (root_set root)) name rows
  plan_new differs reads texts next raises =
      let r = raises (nat_of is.row.epoch) (is.epoch ∙ is.has_epoch) in
      let rises : nat_of next ≡ nat_of is.row.epoch + 1 = ap nat_of r.0 in
      subst (λ n. Plans (root_steps n next root) (within (root_set root)) name rows) (sym is.number)
      (root_planned rows name is.row is.only up are next root (reads is.row.number) (texts is.row.number) (λ same. differs (its_root ∙ same)) rises (subst (λ k. k < 2 ^ 63) (sym rises) r.1))

-- a reference reads back from its row, if its parts do
pub reference_back : (number : ℤ) (r : Reference) → option_and_then (λ text. result_ok (read_pattern text)) (option_map pattern_text r.version) ≡ r.version
    → option_and_then (λ text. result_ok (read_version text)) (option_map version_text r.earliest) ≡ r.earliest → option_and_then (λ text. result_ok (read_version text)) (option_map version_text r.latest) ≡ r.latest
    → reference_of (root_of number r) ≡ r
unfolding reference_of root_of
reference_back number r version earliest latest = λ i. record { kind = r.kind; id = r.id; version = version i; earliest = earliest i; latest = latest i }

-- its texts are such as read, if its parts' are
pub reference_texts : (number : ℤ) (r : Reference) → is_utf8 r.id ≡ true → is_if_any is_pattern (option_map pattern_text r.version) ≡ true → is_if_any is_version (option_map version_text r.earliest) ≡ true
    → is_if_any is_version (option_map version_text r.latest) ≡ true → AreRootTexts (root_of number r)
unfolding root_of
reference_texts number r id version earliest latest = (id, version, earliest, latest)
