-- The plan of a domain that is removed.
use Rattle.std.proofs.Common.{◌≡◌, ◌≢◌, ℕ, ◌<◌, ℤ, pos, List, [], ◌∷◌, map, filter, find, not, Bool, true, false, cond, Option, Some, None, option_map, int_cmp, int_eq, slice_get, refl, sym, ap, subst, ◌∙◌, arith}
use Rattle.xa_store.proofs.Common.{AllByRecursion, eq_by_cmp, get, ints, both_ways, IsKeyedBy, get_by, delete_where, sort_by, int_eq_apart, same_int, all_weaker, slice_get-filter, same_bytes, removed, compare_bytes, Domain, Becomes, IsChanged, IsNextNumber, numbered_changed, count_from, places_of, PlacedRow, DomainRow, RootRow, nat_of, reference_of, AreNumbered, HaveSoundColumns, place_of, Rows, sources_at, roles_of, documents_by_key, root_at, source_of, state_at, domain_of, kept_of}
use Rattle.xa_store.specs.declared.query.domain.FoundDomain.{FoundDomain}
use Rattle.xa_store.specs.declared.step.Step.TheVariants.{DropDomain}
use Rattle.xa_store.specs.keeping.Lookup.{IsDomain}
use Rattle.xa_store.specs.keeping.Steps.{is_named, without_domain}
use Rattle.xa_store.specs.keeping.Turns.{Plans}
use Rattle.xa_store.proofs.ChangeLemmas.{IsOnly, found_all, kept_at, kept_one, not_same, number_of, one_passes}
use Rattle.xa_store.proofs.EntryLemmas.{found_passes}
use Rattle.xa_store.proofs.FilterLemmas.{filter_delete_all, filter_delete_others, find_none, filter_alike}
use Rattle.xa_store.proofs.KeyLemmas.{get_by-without_key}
use Rattle.xa_store.proofs.PlanLemmas.{its_state}
use Rattle.xa_store.proofs.TextsKept.{all_filter}
use Rattle.xa_store.proofs.WholeLemmas.{IsWholeDocument, IsWholeDomain, IsWholePlacedRow, IsWholeRoot, IsWholeToken, places_at}

find_same : {X : Type 0} (p : X → Bool) (xs ys : List X) → filter p xs ≡ filter p ys → find p xs ≡ find p ys
find_same p xs ys same = sym (slice_get-filter p xs) ∙ ap (λ l. slice_get l 0) same ∙ slice_get-filter p ys

-- rows of another number
module _ {X : Type 0} (number_in : X → ℤ) (gone n : ℤ) (apart : n ≢ gone) (xs : List X) where
  still_there : filter (λ x. int_eq (number_in x) n) (delete_where (λ x. int_eq (number_in x) gone) xs) ≡ filter (λ x. int_eq (number_in x) n) xs
  still_there =
      filter_delete_others (λ x. int_eq (number_in x) gone) (λ x. int_eq (number_in x) n)
      (λ x here. int_eq_apart (number_in x) n (λ same. apart (sym same ∙ same_int (number_in x) gone here))) xs

module _ (rows : Rows) (name : List ℕ) (d : DomainRow) (up : IsKeyedBy number_of rows.domains) (one : IsOnly name d rows) (are : AreNumbered rows) (has : d.number ≡ pos (nat_of d.number)) where
  abbrev after : Rows
  after = without_domain d.number rows

  abbrev of_number : DomainRow → Bool
  of_number x = int_eq x.number d.number

  same_test : AllByRecursion (λ x. is_named name x ≡ of_number x) rows.domains
  same_test = one_passes (is_named name) d rows.domains up one

  hit : filter of_number rows.domains ≡ d ∷ []
  hit = sym (filter_alike (is_named name) of_number rows.domains same_test) ∙ one

  by_name : delete_where of_number rows.domains ≡ delete_where (is_named name) rows.domains
  by_name =
      sym (filter_alike (λ x. not (is_named name x)) (λ x. not (of_number x)) rows.domains
      (all_weaker (λ x. is_named name x ≡ of_number x) (λ x. not (is_named name x) ≡ not (of_number x)) (λ x same. ap not same) rows.domains same_test))

  goes : get (kept_of after).domains name ≡ None
  goes =
      kept_at after name
      ∙ ap (option_map (domain_of after)) (find_none (is_named name) after.domains (ap (filter (is_named name)) by_name ∙ filter_delete_all (is_named name) rows.domains))

  same_state : (n : ℤ) → n ≢ d.number → state_at after n ≡ state_at rows n
  same_state n apart =
      let tokens = still_there (λ t. t.number) d.number n apart rows.tokens in
      let documents = still_there (λ d. d.number) d.number n apart rows.documents in
      let sources = still_there (λ a. a.number) d.number n apart rows.sources in
      let other : int_eq d.number n ≡ false = int_eq_apart d.number n (λ same. apart (sym same)) in
      let root : root_at after.roots n ≡ root_at rows.roots n =
      ap (option_map reference_of) (get_by-without_key (λ (r : RootRow). r.number) d.number n rows.roots ∙ ap (λ b. cond b None (get_by (λ r. r.number) rows.roots n)) other) in
      λ i. record { tokens = roles_of (tokens i); documents = documents_by_key (documents i); root = root i; source = source_of (sources i) }

  found_again : (other : List ℕ) → other ≢ name → find (is_named other) after.domains ≡ find (is_named other) rows.domains
  found_again other apart =
      ap (find (is_named other)) by_name
      ∙ find_same (is_named other) (delete_where (is_named name) rows.domains) rows.domains
      (filter_delete_others (is_named name) (is_named other) (λ x here. ap (eq_by_cmp compare_bytes other) (sym (same_bytes name x.name here)) ∙ not_same name other apart) rows.domains)

  others : (other : List ℕ) → other ≢ name → get (kept_of after).domains other ≡ get (kept_of rows).domains other
  others other apart = kept_at after other ∙ ap (option_map (domain_of after)) (found_again other apart) ∙ go (find (is_named other) rows.domains) refl ∙ sym (kept_at rows other)
    where
      go : (o : Option DomainRow) → find (is_named other) rows.domains ≡ o → option_map (domain_of after) o ≡ option_map (domain_of rows) o
      go None is = refl
      go (Some x) is =
          let named : other ≡ x.name = same_bytes other x.name (found_passes (is_named other) rows.domains x is) in
          let unlike : is_named name x ≡ false = ap (eq_by_cmp compare_bytes name) (sym named) ∙ not_same other name (λ same. apart (sym same)) in
          let number : is_named name x ≡ of_number x = found_all (λ x. is_named name x ≡ of_number x) (is_named other) rows.domains x same_test is in
          let own : int_eq d.number d.number ≡ true = grind (arith, ints) in
          let differs : x.number ≢ d.number = λ same. let no : of_number x ≡ true = ap (λ n. int_eq n d.number) same ∙ own in both_ways _ (sym number ∙ unlike) no in
          ap (λ s. let domain : Domain = record { number = nat_of x.number; epoch = nat_of x.epoch; state = s } in Some domain) (same_state x.number differs)

  was : get (kept_of rows).domains name ≡ Some (domain_of rows d)
  was = kept_one rows name d one

  changed : IsChanged (kept_of rows) (kept_of after) name None
  changed = record {
    domain = subst (λ o. Becomes (nat_of rows.next) o None (get (kept_of after).domains name)) (sym was) goes;
    others = others;
    next = subst (λ o. IsNextNumber (nat_of rows.next) o None (nat_of rows.next)) (sym was) refl;
  }

  own_below : nat_of d.number < nat_of rows.next
  own_below = are.numbered.below name (domain_of rows d) was

  -- ---- the columns

  abbrev sorted : List PlacedRow → List ℤ
  sorted xs = sort_by int_cmp (map (λ (a : PlacedRow). a.place) xs)

  places_left : HaveSoundColumns rows → (m : ℤ) → count_from (pos 0) (places_of (map place_of after.sources) m) ≡ true
  places_left whole m = ap (count_from (pos 0)) (places_at after.sources m) ∙ go (int_eq m d.number) refl
    where
      go : (b : Bool) → int_eq m d.number ≡ b → count_from (pos 0) (sorted (sources_at after.sources m)) ≡ true
      go true is =
          ap (λ k. count_from (pos 0) (sorted (sources_at after.sources k))) (same_int m d.number is)
          ∙ ap (λ l. count_from (pos 0) (sorted l)) (filter_delete_all (λ (a : PlacedRow). int_eq a.number d.number) rows.sources)
      go false is =
          let own : int_eq d.number d.number ≡ true = grind (arith, ints) in
          let apart : m ≢ d.number = λ same. both_ways _ is (ap (λ k. int_eq k d.number) same ∙ own) in
          ap (λ l. count_from (pos 0) (sorted l)) (still_there (λ (a : PlacedRow). a.number) d.number m apart rows.sources) ∙ ap (count_from (pos 0)) (sym (places_at rows.sources m)) ∙ whole.places m

  whole_left : HaveSoundColumns rows → HaveSoundColumns after
  whole_left whole = record {
    next = whole.next;
    domains = all_filter (IsWholeDomain rows.next) (λ x. not (of_number x)) rows.domains whole.domains;
    tokens = all_filter (IsWholeToken rows.next) (λ t. not (int_eq t.number d.number)) rows.tokens whole.tokens;
    documents = all_filter (IsWholeDocument rows.next) (λ x. not (int_eq x.number d.number)) rows.documents whole.documents;
    roots = all_filter (IsWholeRoot rows.next) (λ r. not (int_eq r.number d.number)) rows.roots whole.roots;
    sources = all_filter (IsWholePlacedRow rows.next) (λ a. not (int_eq a.number d.number)) rows.sources whole.sources;
    places = places_left whole;
  }

  pub remove_planned : Plans (DropDomain d.number ∷ []) removed name rows
  remove_planned = record {
    allows = ((d, hit), tt);
    made = (None, ap removed (its_state rows name d one), changed);
    numbered = record {
      numbered = numbered_changed (kept_of rows) (kept_of after) name None changed are.numbered;
      unused = λ n past.
          same_state (pos n) (λ same. let it : n ≡ nat_of d.number = ap nat_of same in let low = own_below in absurd (omega arith)) ∙ are.unused n past;
    };
    whole = whole_left;
  }

-- of a domain that was found
pub plan_removed : (rows : Rows) (name : List ℕ) (found : FoundDomain) → AreNumbered rows → IsKeyedBy number_of rows.domains → IsDomain name rows found → Plans (DropDomain found.number ∷ []) removed name rows
plan_removed rows name found are up is =
    subst (λ n. Plans (DropDomain n ∷ []) removed name rows) (sym is.number) (remove_planned rows name is.row up is.only are is.has_number)
