-- The plan of a domain that is made.
use Rattle.std.proofs.Common.{◌≡◌, ◌≢◌, ℕ, ◌+◌, ◌<◌, ◌^◌, ℤ, pos, List, [], ◌∷◌, filter, find, Bool, true, false, cond, Option, Some, None, is_some, option_map, Ok, Err, Ordering, Less, Equal, Greater, is_eq, int_cmp, int_eq, int_lt, true≢false, refl, sym, ap, ap₂, subst, ◌∙◌, arith}
use Rattle.xa_store.proofs.Common.{AllByRecursion, match_ordering, get, eq_by_cmp_equiv, nat_list_cmp_total, insert_by, AreApart, int_eq_apart, all_both, all_weaker, created, DomainState, new_domain, Domain, Becomes, IsChanged, IsNextNumber, IsRaised, state_of, numbered_changed, Exists, is_domain_name, is_count, DomainRow, nat_of, AreNumbered, same_name, Rows, state_at, domain_of, kept_of}
use Rattle.xa_store.specs.declared.query.domain.FoundDomain.{FoundDomain}
use Rattle.xa_store.specs.keeping.Lookup.{FindsDomain, IsNext}
use Rattle.xa_store.specs.keeping.Plan.{RaisesTo, create_steps}
use Rattle.xa_store.specs.keeping.Steps.{is_named}
use Rattle.xa_store.specs.keeping.Turns.{Plans}
use Rattle.xa_store.proofs.ChangeLemmas.{kept_at, not_same, number_of}
use Rattle.xa_store.proofs.FilterLemmas.{find_none}
use Rattle.xa_store.proofs.HitLemmas.{turn_bytes}
use Rattle.xa_store.proofs.PlanLemmas.{its_state, no_state}
use Rattle.xa_store.proofs.RiseLemmas.{both_true}
use Rattle.xa_store.proofs.WholeLemmas.{count_is, created_whole, one_above}

-- ---- what is found after an insertion

module _ {X : Type 0} (key : X → ℤ) (p : X → Bool) (new : X) where
  find_new : (xs : List X) → p new ≡ true → filter p xs ≡ [] → find p (insert_by key xs new) ≡ Some new
  find_new [] is none = rw is refl
  find_new (x ∷ xs) is none = go (p x) (int_cmp (key x) (key new)) refl (find_new xs is) none
    where
      go : (b : Bool) (o : Ordering) → p x ≡ b → (filter p xs ≡ [] → find p (insert_by key xs new) ≡ Some new) → cond b (x ∷ filter p xs) (filter p xs) ≡ []
          → find p (match_ordering o (x ∷ insert_by key xs new) (new ∷ xs) (new ∷ x ∷ xs)) ≡ Some new
      go true o here more none = absurd cc
      go false Less here more none = rw here (more none)
      go false Equal here more none = rw is refl
      go false Greater here more none = rw is refl

  find_others : (xs : List X) → p new ≡ false → AllByRecursion (λ x. int_eq (key x) (key new) ≡ false) xs → find p (insert_by key xs new) ≡ find p xs
  find_others [] not apart = rw not refl
  find_others (x ∷ xs) not apart = go (int_cmp (key x) (key new)) refl (find_others xs not apart.1)
    where
      go : (o : Ordering) → int_cmp (key x) (key new) ≡ o → find p (insert_by key xs new) ≡ find p xs
          → find p (match_ordering o (x ∷ insert_by key xs new) (new ∷ xs) (new ∷ x ∷ xs)) ≡ cond (p x) (Some x) (find p xs)
      go Less is more = ap (cond (p x) (Some x)) more
      go Equal is more = absurd (true≢false (sym (ap is_eq is) ∙ apart.0))
      go Greater is more = rw not refl

-- ---- a number that was not given

own_name : (name : List ℕ) (d : DomainRow) → d.name ≡ name → is_named name d ≡ true
own_name name d same = ap (λ n. Rattle.std.specs.Ordering.eq_by_cmp Rattle.xa_records.specs.DomainState.compare_bytes name n) same ∙ (eq_by_cmp_equiv nat_list_cmp_total).refl name

-- each row is the first of its name
found_own : (ds : List DomainRow) → AreApart same_name ds → AllByRecursion (λ d. find (is_named d.name) ds ≡ Some d) ds
found_own [] apart = tt
found_own (d ∷ ds) apart = (
  ap (λ b. cond b (Some d) (find (is_named d.name) ds)) (own_name d.name d refl),
  all_both (λ x. same_name d x ≡ false) (λ x. find (is_named x.name) ds ≡ Some x) (λ x. find (is_named x.name) (d ∷ ds) ≡ Some x)
      (λ x differs at. ap (λ b. cond b (Some d) (find (is_named x.name) ds)) (turn_bytes x.name d.name ∙ differs) ∙ at) ds apart.0 (found_own ds apart.1),
)

module _ (rows : Rows) (are : AreNumbered rows) (apart : AreApart same_name rows.domains) where
  below : (d : DomainRow) → find (is_named d.name) rows.domains ≡ Some d → nat_of d.number < nat_of rows.next
  below d at = are.numbered.below d.name (domain_of rows d) (kept_at rows d.name ∙ ap (option_map (domain_of rows)) at)

  unlike : (d : DomainRow) → nat_of d.number < nat_of rows.next → int_eq d.number rows.next ≡ false
  unlike d low = int_eq_apart d.number rows.next (λ same. let it : nat_of d.number ≡ nat_of rows.next = ap nat_of same in absurd (omega arith))

  all_unlike : AllByRecursion (λ d. int_eq d.number rows.next ≡ false) rows.domains
  all_unlike = all_weaker (λ d. find (is_named d.name) rows.domains ≡ Some d) (λ d. int_eq d.number rows.next ≡ false) (λ d at. unlike d (below d at)) rows.domains (found_own rows.domains apart)

  module _ (name : List ℕ) (none : filter (is_named name) rows.domains ≡ []) (has : rows.next ≡ pos (nat_of rows.next)) (later : ℤ) (raises : RaisesTo rows.next (Ok later)) where
    abbrev made : DomainRow
    made = record { number = rows.next; name = name; epoch = pos 0 }

    abbrev after : Rows
    after = record rows { next = later; domains = insert_by number_of rows.domains made }

    rises : IsRaised (nat_of rows.next) (nat_of later)
    rises = let r = raises (nat_of rows.next) has in let up : nat_of later ≡ nat_of rows.next + 1 = ap nat_of r.0 in (up, subst (λ k. k < 2 ^ 63) (sym up) r.1)

    was : get (kept_of rows).domains name ≡ None
    was = kept_at rows name ∙ ap (option_map (domain_of rows)) (find_none (is_named name) rows.domains none)

    nothing_yet : state_at rows rows.next ≡ new_domain
    nothing_yet = ap (state_at rows) has ∙ are.unused (nat_of rows.next) (omega arith)

    abbrev whole : DomainState → Domain
    whole state = record { number = nat_of rows.next; epoch = 0; state = state }

    is_there : get (kept_of after).domains name ≡ Some (whole new_domain)
    is_there =
        kept_at after name ∙ ap (option_map (domain_of after)) (find_new number_of (is_named name) made rows.domains (own_name name made refl) none)
        ∙ ap (λ s. Some (whole s)) nothing_yet

    others : (other : List ℕ) → other ≢ name → get (kept_of after).domains other ≡ get (kept_of rows).domains other
    others other differs =
        kept_at after other ∙ ap (option_map (domain_of after)) (find_others number_of (is_named other) made rows.domains (not_same name other differs) all_unlike)
        ∙ sym (kept_at rows other)

    changed : IsChanged (kept_of rows) (kept_of after) name (Some new_domain)
    changed = record {
      domain = subst (λ o. Becomes (nat_of rows.next) o (Some new_domain) (get (kept_of after).domains name)) (sym was) is_there;
      others = others;
      next = subst (λ o. IsNextNumber (nat_of rows.next) o (Some new_domain) (nat_of later)) (sym was) rises;
    }

    -- the next number after it
    raised : (later ≡ pos (nat_of rows.next + 1)) × (nat_of rows.next + 1 < 2 ^ 63)
    raised = raises (nat_of rows.next) has

    later_counts : is_count later ≡ true
    later_counts = subst (λ n. is_count n ≡ true) (sym raised.0) (count_is (nat_of rows.next + 1) raised.1)

    above : int_lt rows.next later ≡ true
    above = ap₂ int_lt has raised.0 ∙ one_above (nat_of rows.next)

    create_planned : is_domain_name name ≡ true → Plans (create_steps name rows.next later) created name rows
    create_planned named = record {
      allows = (none, (tt, tt));
      made = (Some new_domain, ap created (no_state rows name none), changed);
      numbered = record {
        numbered = numbered_changed (kept_of rows) (kept_of after) name (Some new_domain) changed are.numbered;
        unused = λ n past. are.unused n (let up = rises.0 in omega arith);
      };
      whole = λ whole. created_whole rows whole later made later_counts above (both_true (is_count rows.next) (int_lt rows.next later) whole.next above, named, refl);
    }

-- with the number that was found
pub plan_created : (rows : Rows) (name : List ℕ) (number later : ℤ) → is_domain_name name ≡ true → AreNumbered rows → AreApart same_name rows.domains → filter (is_named name) rows.domains ≡ [] → IsNext rows number → RaisesTo number (Ok later)
    → Plans (create_steps name number later) created name rows
plan_created rows name number later named are apart none next raises =
    let has : rows.next ≡ pos (nat_of rows.next) = subst (λ n. n ≡ pos (nat_of n)) next.same next.has_number in
    subst (λ n. Plans (create_steps name n later) created name rows) (sym next.same)
    (create_planned rows are apart name none has later (subst (λ n. RaisesTo n (Ok later)) next.same raises) named)

-- there is a domain of that name
pub found_exists : (rows : Rows) (name : List ℕ) (found : Option FoundDomain) → is_some found ≡ true → FindsDomain name rows found → created (state_of name (kept_of rows)) ≡ Err Exists
found_exists rows name None is finds = absurd (true≢false (sym is))
found_exists rows name (Some there) is finds = ap created (its_state rows name finds.row finds.only)
