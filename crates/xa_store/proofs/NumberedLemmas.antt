-- Rows whose numbers were given are those of domains that are apart, and none stands for a number that wasn't.
use Rattle.std.proofs.Common.{◌≡◌, ◌<◌, ◌≤◌, ◌^◌, ℕ, ℤ, ◌<ℤ◌, pos, negsuc, true, false, cond, List, [], ◌∷◌, filter, find, int_eq, int_lt, Option, Some, None, option_map, refl, sym, ap, ap₂, subst, ◌∙◌, arith}
use Rattle.xa_store.proofs.Common.{AllByRecursion, get, ints, IsKeyedBy, get_by, int_eq_apart, all_both, all_weaker, filter_none, first_of_both, second_of_both, same_bytes, new_domain, Domain, IsNumbered, is_assigned, is_count, PlacedRow, DocumentRow, DomainRow, RootRow, TokenRow, nat_of, reference_of, AreNumbered, HaveSoundColumns, Rows, domain_of, kept_of, documents_by_key, roles_of, source_of, state_at}
use Rattle.sqlite.specs.Ops.{fits_i64}
use Rattle.xa_store.specs.keeping.Steps.{is_named}
use Rattle.xa_store.proofs.ChangeLemmas.{found_all, kept_at, number_of}
use Rattle.xa_store.proofs.EntryLemmas.{found_passes}
use Rattle.xa_store.proofs.FilterLemmas.{find_none}
use Rattle.xa_store.proofs.KeyLemmas.{own_number}
use Rattle.xa_store.proofs.ShapedLemmas.{count_back, no_count}
use Rattle.xa_store.proofs.WholeLemmas.{IsWholeDocument, IsWholeDomain, IsWholePlacedRow, IsWholeRoot, IsWholeToken}

-- ---- numbers

below_most : (n : ℕ) → fits_i64 (pos n) ≡ true → n < 2 ^ 63
below_most n h = grind (arith, h)

count_fits : (n : ℤ) → is_count n ≡ true → nat_of n < 2 ^ 63
count_fits (pos n) h = below_most n (second_of_both _ _ h)
count_fits (negsuc n) h = absurd (no_count n h)

same_count : (m n : ℤ) → is_count m ≡ true → is_count n ≡ true → nat_of m ≡ nat_of n → m ≡ n
same_count m n p q same = sym (count_back m p) ∙ ap pos same ∙ count_back n q

pos_below : (m n : ℕ) → int_lt (pos m) (pos n) ≡ true → m < n
pos_below m n h = grind (arith, ints)

assigned_below : (next n : ℤ) → is_count next ≡ true → is_assigned next n ≡ true → nat_of n < nat_of next
assigned_below next n counts h =
    let count = first_of_both (is_count n) (int_lt n next) h in
    pos_below (nat_of n) (nat_of next) (ap₂ int_lt (count_back n count) (count_back next counts) ∙ second_of_both (is_count n) (int_lt n next) h)

not_assigned : (next n : ℤ) (k : ℕ) → is_count next ≡ true → is_assigned next n ≡ true → nat_of next ≤ k → int_eq n (pos k) ≡ false
not_assigned next n k counts h past =
    let less = assigned_below next n counts h in
    int_eq_apart n (pos k) (λ same. let it : nat_of n ≡ k = ap nat_of same in absurd (omega (arith, less, past, it)))

-- ---- one row for each number

apart_of : (m n : ℤ) → m <ℤ n → int_eq m n ≡ false
apart_of m n less = grind (arith, ints)

get_own : {X : Type 0} (key : X → ℤ) (xs : List X) → IsKeyedBy key xs → AllByRecursion (λ x. get_by key xs (key x) ≡ Some x) xs
get_own key [] up = tt
get_own key (x ∷ xs) up = (
  ap (λ b. cond b (Some x) (get_by key xs (key x))) (own_number (key x)),
  all_both (λ y. key x <ℤ key y) (λ y. get_by key xs (key y) ≡ Some y) (λ y. get_by key (x ∷ xs) (key y) ≡ Some y)
      (λ y less own. ap (λ b. cond b (Some x) (get_by key xs (key y))) (apart_of (key x) (key y) less) ∙ own) xs up.0 (get_own key xs up.1),
)

-- ---- all rows

module _ (rows : Rows) (whole : HaveSoundColumns rows) (up : IsKeyedBy number_of rows.domains) where
  abbrev IsAt : List ℕ → Domain → Type 0
  IsAt name domain = (d : DomainRow) × (find (is_named name) rows.domains ≡ Some d) × (domain_of rows d ≡ domain)

  at : (name : List ℕ) (domain : Domain) → get (kept_of rows).domains name ≡ Some domain → IsAt name domain
  at name domain h = go (find (is_named name) rows.domains) refl (sym (kept_at rows name) ∙ h)
    where
      go : (o : Option DomainRow) → find (is_named name) rows.domains ≡ o → option_map (domain_of rows) o ≡ Some domain → IsAt name domain
      go None is h = absurd cc
      go (Some d) is h = (d, is, (let same : domain_of rows d ≡ domain = cc in same))

  module _ (name : List ℕ) (d : DomainRow) (is : find (is_named name) rows.domains ≡ Some d) where
    its : IsWholeDomain rows.next d
    its = found_all (IsWholeDomain rows.next) (is_named name) rows.domains d whole.domains is

    its_name : name ≡ d.name
    its_name = same_bytes name d.name (found_passes (is_named name) rows.domains d is)

    its_own : get_by number_of rows.domains d.number ≡ Some d
    its_own = found_all (λ x. get_by number_of rows.domains x.number ≡ Some x) (is_named name) rows.domains d (get_own number_of rows.domains up) is

    its_count : is_count d.number ≡ true
    its_count = first_of_both (is_count d.number) (int_lt d.number rows.next) its.0

  one_row : (x y : DomainRow) → ◌≡◌ {A = Option DomainRow} (Some x) (Some y) → x ≡ y
  one_row x y e = cc

  one_name : (one other : List ℕ) (a b : Domain) → IsAt one a → IsAt other b → a.number ≡ b.number → one ≡ other
  one_name one other a b (x, at_x, is_x) (y, at_y, is_y) same =
      let numbers : nat_of x.number ≡ nat_of y.number = ap (λ (domain : Domain). domain.number) is_x ∙ same ∙ sym (ap (λ (domain : Domain). domain.number) is_y) in
      let number = same_count x.number y.number (its_count one x at_x) (its_count other y at_y) numbers in
      let row = one_row x y (sym (its_own one x at_x) ∙ ap (get_by number_of rows.domains) number ∙ its_own other y at_y) in
      its_name one x at_x ∙ ap (λ (d : DomainRow). d.name) row ∙ sym (its_name other y at_y)

  below : (name : List ℕ) (domain : Domain) → IsAt name domain → domain.number < nat_of rows.next
  below name domain (d, at_d, is_d) = subst (λ (x : Domain). x.number < nat_of rows.next) is_d (assigned_below rows.next d.number whole.next (its name d at_d).0)

  low_epoch : (name : List ℕ) (domain : Domain) → IsAt name domain → domain.epoch < 2 ^ 63
  low_epoch name domain (d, at_d, is_d) = subst (λ (x : Domain). x.epoch < 2 ^ 63) is_d (count_fits d.epoch (its name d at_d).2)

  numbered : IsNumbered (kept_of rows)
  numbered = record {
    apart = λ one other a b here there same. one_name one other a b (at one a here) (at other b there) same;
    below = λ name domain there. below name domain (at name domain there);
    next = count_fits rows.next whole.next;
    epochs = λ name domain there. low_epoch name domain (at name domain there);
  }

  -- ---- no row stands for a number that wasn't given

  module _ (n : ℕ) (past : nat_of rows.next ≤ n) where
    none_left : {X : Type 0} (key : X → ℤ) (P : X → Type 0) → ((x : X) → P x → is_assigned rows.next (key x) ≡ true) → (xs : List X) → AllByRecursion P xs → filter (λ x. int_eq (key x) (pos n)) xs ≡ []
    none_left key P given xs all =
        filter_none (λ x. int_eq (key x) (pos n)) xs (all_weaker P (λ x. int_eq (key x) (pos n) ≡ false) (λ x h. not_assigned rows.next (key x) n whole.next (given x h) past) xs all)

    nothing : state_at rows (pos n) ≡ new_domain
    nothing = λ i. record {
      tokens = roles_of (none_left (λ (t : TokenRow). t.number) (IsWholeToken rows.next) (λ t h. h.0) rows.tokens whole.tokens i);
      documents = documents_by_key (none_left (λ (d : DocumentRow). d.number) (IsWholeDocument rows.next) (λ d h. h) rows.documents whole.documents i);
      root = option_map reference_of (find_none (λ (r : RootRow). int_eq r.number (pos n)) rows.roots (none_left (λ (r : RootRow). r.number) (IsWholeRoot rows.next) (λ r h. h.0) rows.roots whole.roots) i);
      source = source_of (none_left (λ (a : PlacedRow). a.number) (IsWholePlacedRow rows.next) (λ a h. h.0) rows.sources whole.sources i);
    }

  pub numbers_are : AreNumbered rows
  numbers_are = record { numbered = numbered; unused = λ n past. nothing n past }
