-- The rows of one domain are others, and those of no other domain.
use Rattle.std.proofs.Common.{◌≡◌, ◌≢◌, inl, inr, ℕ, ℤ, ◌<ℤ◌, List, [], ◌∷◌, filter, find, Bool, true, false, cond, Option, Some, None, option_map, refl, sym, ap, subst, ◌∙◌, arith, int_eq}
use Rattle.xa_store.proofs.Common.{AllByRecursion, eq_by_cmp, get, nat_cmp-IsAntisymmetric, slice_cmp-IsAntisymmetric, IsAntisymmetric, nat_list_cmp_total, ints, cases_Bool, both_ways, IsKeyedBy, all-filter, all_both, same_bytes, DomainState, compare_bytes, Domain, Becomes, IsChanged, IsNextEpoch, DomainRow, nat_of, Rows, state_at, domain_of, kept_of}
use Rattle.xa_store.specs.keeping.Steps.{is_named, with_epoch}
use Rattle.xa_store.proofs.EntryLemmas.{got, found_passes}
use Rattle.xa_store.proofs.FilterLemmas.{find_one}

-- the rows of one domain were written anew: its epoch is this, its state that, and no other domain's rows have changed
pub record Rewrote (old new : Rows) (d : DomainRow) (epoch : ℤ) (target : DomainState) : Type 0 where
  pub next : new.next ≡ old.next
  pub domains : new.domains ≡ with_epoch d.number epoch old.domains
  pub state : state_at new d.number ≡ target
  pub others : (n : ℤ) → n ≢ d.number → state_at new n ≡ state_at old n

-- the row is the one of that name
abbrev pub IsOnly : List ℕ → DomainRow → Rows → Type 0
IsOnly name d rows = filter (is_named name) rows.domains ≡ d ∷ []

abbrev pub number_of : DomainRow → ℤ
number_of d = d.number

pub none_pass : {X : Type 0} (p : X → Bool) (xs : List X) → filter p xs ≡ [] → AllByRecursion (λ x. p x ≡ false) xs
none_pass p [] e = tt
none_pass p (x ∷ xs) e = go (p x) refl (none_pass p xs) e
  where
    go : (b : Bool) → p x ≡ b → (filter p xs ≡ [] → AllByRecursion (λ x. p x ≡ false) xs) → cond b (x ∷ filter p xs) (filter p xs) ≡ [] → AllByRecursion (λ x. p x ≡ false) (x ∷ xs)
    go true is more e = absurd cc
    go false is more e = (is, more e)

-- if one row alone passes the test, and numbers are apart, the test is that of its number
pub one_passes : (p : DomainRow → Bool) (d : DomainRow) (xs : List DomainRow) → IsKeyedBy number_of xs → filter p xs ≡ d ∷ [] → AllByRecursion (λ x. p x ≡ int_eq x.number d.number) xs
one_passes p d [] up e = tt
one_passes p d (x ∷ xs) up e = go (p x) refl (one_passes p d xs up.1) e
  where
    go : (b : Bool) → p x ≡ b → (filter p xs ≡ d ∷ [] → AllByRecursion (λ y. p y ≡ int_eq y.number d.number) xs) → cond b (x ∷ filter p xs) (filter p xs) ≡ d ∷ []
        → AllByRecursion (λ y. p y ≡ int_eq y.number d.number) (x ∷ xs)
    go true is more e =
        let same : x ≡ d = cc in
        let none : filter p xs ≡ [] = cc in
        let here : int_eq d.number d.number ≡ true = grind (arith, ints) in
        let later = subst (λ (w : DomainRow). AllByRecursion (λ y. w.number <ℤ y.number) xs) same up.0 in
        (is ∙ sym (ap (λ (w : DomainRow). int_eq w.number d.number) same ∙ here), all_both _ _ (λ y. p y ≡ int_eq y.number d.number) (λ y not below. not ∙ sym (let apart : int_eq y.number d.number ≡ false = grind (arith, ints) in apart)) xs (none_pass p xs none) later)
    go false is more e =
        let below : x.number <ℤ d.number = (subst (AllByRecursion (λ y. x.number <ℤ y.number)) e (all-filter (λ y. x.number <ℤ y.number) p xs up.0)).0 in
        let apart : int_eq x.number d.number ≡ false = grind (arith, ints) in
        (is ∙ sym apart, more e)

pub found_all : {X : Type 0} (P : X → Type 0) (p : X → Bool) (xs : List X) (x : X) → AllByRecursion P xs → find p xs ≡ Some x → P x
found_all P p [] x all is = absurd cc
found_all P p (y ∷ xs) x all is = go (p y) (found_all P p xs x all.1) is
  where
    go : (b : Bool) → (find p xs ≡ Some x → P x) → cond b (Some y) (find p xs) ≡ Some x → P x
    go true more is = let same : y ≡ x = cc in subst P same all.0
    go false more is = more is

pub bytes_exact : IsAntisymmetric compare_bytes
bytes_exact = slice_cmp-IsAntisymmetric nat_cmp-IsAntisymmetric

pub not_same : (name other : List ℕ) → other ≢ name → eq_by_cmp compare_bytes other name ≡ false
not_same name other apart = elim (cases_Bool (eq_by_cmp compare_bytes other name)) [ inl same ↦ absurd (apart (same_bytes other name same)) | inr differs ↦ differs ]

-- what is kept of a name is what its row says
pub kept_at : (rows : Rows) (name : List ℕ) → get (kept_of rows).domains name ≡ option_map (domain_of rows) (find (is_named name) rows.domains)
kept_at rows name = got nat_list_cmp_total bytes_exact (λ (d : DomainRow). d.name) (domain_of rows) name rows.domains

pub kept_one : (rows : Rows) (name : List ℕ) (d : DomainRow) → IsOnly name d rows → get (kept_of rows).domains name ≡ Some (domain_of rows d)
kept_one rows name d one = kept_at rows name ∙ ap (option_map (domain_of rows)) (find_one (is_named name) rows.domains d [] one)

-- ---- the one lemma of changes of a domain that stays

module _ (old new : Rows) (name : List ℕ) (d : DomainRow) (epoch : ℤ) (state : DomainState) (up : IsKeyedBy number_of old.domains) (one : IsOnly name d old) (wrote : Rewrote old new d epoch state)
    (next_epoch : IsNextEpoch (state_at old d.number) state (nat_of d.epoch) (nat_of epoch)) where
  abbrev raised : DomainRow → DomainRow
  raised x = cond (int_eq x.number d.number) (record x { epoch = epoch }) x

  same_names : (q : List ℕ) (x : DomainRow) → is_named q (raised x) ≡ is_named q x
  same_names q x = elim (int_eq x.number d.number) as (λ b. is_named q (cond b (record x { epoch = epoch }) x) ≡ is_named q x) [ true ↦ refl | false ↦ refl ]

  find_raised : (q : List ℕ) (ds : List DomainRow) → find (is_named q) (with_epoch d.number epoch ds) ≡ option_map raised (find (is_named q) ds)
  find_raised q [] = refl
  find_raised q (x ∷ ds) =
      ap (λ b. cond b (Some (raised x)) (find (is_named q) (with_epoch d.number epoch ds))) (same_names q x) ∙ ap (cond (is_named q x) (Some (raised x))) (find_raised q ds)
      ∙ elim (is_named q x) as (λ b. cond b (Some (raised x)) (option_map raised (find (is_named q) ds)) ≡ option_map raised (cond b (Some x) (find (is_named q) ds))) [ true ↦ refl | false ↦ refl ]

  kept_after : (q : List ℕ) → get (kept_of new).domains q ≡ option_map (λ x. domain_of new (raised x)) (find (is_named q) old.domains)
  kept_after q =
      kept_at new q ∙ ap (λ ds. option_map (domain_of new) (find (is_named q) ds)) wrote.domains ∙ ap (option_map (domain_of new)) (find_raised q old.domains)
      ∙ elim (find (is_named q) old.domains) as (λ o. option_map (domain_of new) (option_map raised o) ≡ option_map (λ x. domain_of new (raised x)) o) [ None ↦ refl | Some x ↦ refl ]

  own : int_eq d.number d.number ≡ true
  own = grind (arith, ints)

  its_own : domain_of new (raised d) ≡ record { number = nat_of d.number; epoch = nat_of epoch; state = state }
  its_own =
      ap (λ b. domain_of new (cond b (record d { epoch = epoch }) d)) own
      ∙ ap (λ s. let domain : Domain = record { number = nat_of d.number; epoch = nat_of epoch; state = s } in domain) wrote.state

  own_after : get (kept_of new).domains name ≡ Some (record { number = nat_of d.number; epoch = nat_of epoch; state = state })
  own_after = kept_after name ∙ ap (option_map (λ x. domain_of new (raised x))) (find_one (is_named name) old.domains d [] one) ∙ ap Some its_own

  same_domain : (x : DomainRow) → int_eq x.number d.number ≡ false → domain_of new (raised x) ≡ domain_of old x
  same_domain x apart =
      let other : x.number ≢ d.number = λ same. let no : int_eq x.number d.number ≡ true = ap (λ n. int_eq n d.number) same ∙ own in both_ways _ apart no in
      ap (λ b. domain_of new (cond b (record x { epoch = epoch }) x)) apart
      ∙ ap (λ s. let domain : Domain = record { number = nat_of x.number; epoch = nat_of x.epoch; state = s } in domain) (wrote.others x.number other)

  others_after : (other : List ℕ) → other ≢ name → get (kept_of new).domains other ≡ get (kept_of old).domains other
  others_after other apart = kept_after other ∙ go (find (is_named other) old.domains) refl ∙ sym (kept_at old other)
    where
      go : (o : Option DomainRow) → find (is_named other) old.domains ≡ o → option_map (λ x. domain_of new (raised x)) o ≡ option_map (domain_of old) o
      go None is = refl
      go (Some x) is =
          let named : other ≡ x.name = same_bytes other x.name (found_passes (is_named other) old.domains x is) in
          let unlike : is_named name x ≡ false = ap (eq_by_cmp compare_bytes name) (sym named) ∙ not_same other name (λ same. apart (sym same)) in
          let number = found_all (λ x. is_named name x ≡ int_eq x.number d.number) (is_named other) old.domains x (one_passes (is_named name) d old.domains up one) is in
          ap Some (same_domain x (sym number ∙ unlike))

  pub rewritten : IsChanged (kept_of old) (kept_of new) name (Some state)
  rewritten =
      let was = kept_one old name d one in
      record {
        domain = subst (λ o. Becomes (nat_of old.next) o (Some state) (get (kept_of new).domains name)) (sym was) (nat_of epoch, next_epoch, own_after);
        others = others_after;
        next = subst (λ o. Rattle.xa_records.specs.Kept.IsNextNumber (nat_of old.next) o (Some state) (nat_of new.next)) (sym was) (ap nat_of wrote.next);
      }
