-- Numbers stay apart through every change.
use Rattle.std.proofs.Common.{◌≡◌, ◌<◌, ◌≤◌, ◌+◌, ◌^◌, ℕ, List, refl, sym, ap, ◌∙◌, subst, inl, inr, arith}
use Rattle.std.specs.Prelude.{Option, Some, None, Result, Ok, Err, ◌⊎◌}
use Rattle.std.specs.FinMap.{empty, get, get-empty, insert}
use Rattle.xa_records.specs.declared.refusal.ChangeError.{ChangeError}
use Rattle.xa_records.specs.declared.refusal.ChangeError.TheVariants.{Failed, Refused}
use Rattle.xa_records.specs.Changes.{Change}
use Rattle.xa_records.specs.DomainState.{DomainState, compare_bytes, new_domain}
use Rattle.xa_records.specs.Keeper.{Changes}
use Rattle.xa_records.specs.Kept.{Becomes, Domain, IsChanged, IsNextEpoch, IsNextNumber, IsNumbered, Kept, one_kept}
use Rattle.xa_records.proofs.FinMapLemmas.{different, get_put, get_put_elsewhere, here_or_elsewhere}
use Rattle.xa_records.proofs.OrderLemmas.{bytes_exact, bytes_total}

-- a domain of the name after the change: new, or gone over from the one before
abbrev IsFresh : ℕ → ℕ → Domain → Type 0
IsFresh next after d = (d.number ≡ next) × (after ≡ next + 1) × (d.epoch ≡ 0)

abbrev IsKept : ℕ → ℕ → Option Domain → Domain → Type 0
IsKept next after old d = (before : Domain) × (old ≡ Some before) × (before.number ≡ d.number) × (next ≤ after) × (before.epoch < 2 ^ 63 → d.epoch < 2 ^ 63)

nothing : (d : Domain) → None ≡ Some d → ⊥
nothing d e = cc

one_value : (a b : Domain) → Some a ≡ Some b → a ≡ b
one_value a b e = cc

low_epoch : (before after : DomainState) (old new : ℕ) → IsNextEpoch before after old new → old < 2 ^ 63 → new < 2 ^ 63
low_epoch before after old new (inl (alike, e)) low = subst (λ n. n < 2 ^ 63) (sym e) low
low_epoch before after old new (inr (differs, (up, fits))) low = fits

became : (next after : ℕ) (old : Option Domain) (state : Option DomainState) (new : Option Domain) (d : Domain) → Becomes next old state new → IsNextNumber next old state after → new ≡ Some d
    → IsFresh next after d ⊎ IsKept next after old d
became next after None None new d becomes rises there = absurd (cc)
became next after (Some before) None new d becomes rises there = absurd (cc)
became next after None (Some state) new d becomes (up, fits) there =
    let e : record { number = next; epoch = 0; state = state } ≡ d = one_value _ _ (sym becomes ∙ there) in
    inl (sym (ap (λ x. x.number) e), up, sym (ap (λ x. x.epoch) e))
became next after (Some before) (Some state) new d (epoch, is, becomes) rises there =
    let e : record { number = before.number; epoch = epoch; state = state } ≡ d = one_value _ _ (sym becomes ∙ there) in
    inr (before, refl, ap (λ x. x.number) e, omega arith, λ low. subst (λ n. n < 2 ^ 63) (ap (λ x. x.epoch) e) (low_epoch before.state state before.epoch epoch is low))

not_falling : (next : ℕ) (old : Option Domain) (state : Option DomainState) (after : ℕ) → IsNextNumber next old state after → next ≤ after
not_falling next None None after is = omega arith
not_falling next None (Some state) after (up, fits) = omega arith
not_falling next (Some domain) None after is = omega arith
not_falling next (Some domain) (Some state) after is = omega arith

low_number : (next : ℕ) (old : Option Domain) (state : Option DomainState) (after : ℕ) → IsNextNumber next old state after → next < 2 ^ 63 → after < 2 ^ 63
low_number next None None after is low = subst (λ n. n < 2 ^ 63) (sym is) low
low_number next None (Some state) after (up, fits) low = fits
low_number next (Some domain) None after is low = subst (λ n. n < 2 ^ 63) (sym is) low
low_number next (Some domain) (Some state) after is low = subst (λ n. n < 2 ^ 63) (sym is) low

came : (old new : Kept) (name : List ℕ) (state : Option DomainState) → IsChanged old new name state → (q : List ℕ) (d : Domain) → get new.domains q ≡ Some d
    → ((q ≡ name) × IsFresh old.next new.next d) ⊎ IsKept old.next new.next (get old.domains q) d
came old new name state changed q d there = elim (here_or_elsewhere bytes_exact q name) [
  | inl here ↦ elim (became old.next new.next (get old.domains name) state (get new.domains name) d changed.domain changed.next (ap (get new.domains) (sym here) ∙ there)) [
    | inl fresh ↦ inl (here, fresh)
    | inr before ↦ inr (before.0, ap (get old.domains) here ∙ before.1, before.2, before.3, before.4)
  ]
  | inr away ↦ inr (d, sym (changed.others q (different bytes_total q name away)) ∙ there, refl, not_falling old.next (get old.domains name) state new.next changed.next, λ low. low)
]

pub numbered_changed : (old new : Kept) (name : List ℕ) (state : Option DomainState) → IsChanged old new name state → IsNumbered old → IsNumbered new
numbered_changed old new name state changed numbered = record {
  apart = λ one other a b there here same. elim (came old new name state changed one a there) [
    | inl (at, (number, after, zero)) ↦ elim (came old new name state changed other b here) [
      | inl (at', (number', after', zero')) ↦ at ∙ sym at'
      | inr (before, was, keeps, up, epoch) ↦ let low : before.number < old.next = numbered.below other before was in absurd (omega arith)
    ]
    | inr (before, was, keeps, up, epoch) ↦ elim (came old new name state changed other b here) [
      | inl (at', (number', after', zero')) ↦ let low : before.number < old.next = numbered.below one before was in absurd (omega arith)
      | inr (before', was', keeps', up', epoch') ↦ numbered.apart one other before before' was was' (keeps ∙ same ∙ sym keeps')
    ]
  ];
  below = λ q d there. elim (came old new name state changed q d there) [
    | inl (at, (number, after, zero)) ↦ omega arith
    | inr (before, was, keeps, up, epoch) ↦ let low : before.number < old.next = numbered.below q before was in omega arith
  ];
  next = low_number old.next (get old.domains name) state new.next changed.next numbered.next;
  epochs = λ q d there. elim (came old new name state changed q d there) [
    | inl (at, (number, after, zero)) ↦ subst (λ n. n < 2 ^ 63) (sym zero) (omega arith)
    | inr (before, was, keeps, up, epoch) ↦ epoch (numbered.epochs q before was)
  ];
}

pub numbered_after : {X : Type 0} (old new : Kept) (r : Result X ChangeError) (name : List ℕ) (change : Change) → Changes old new r name change → IsNumbered old → IsNumbered new
numbered_after old new (Ok x) name change (state, made, changed) numbered = numbered_changed old new name state changed numbered
numbered_after old new (Err (Refused e)) name change (is, same) numbered = subst IsNumbered (sym same) numbered
numbered_after old new (Err (Failed failure)) name change same numbered = subst IsNumbered (sym same) numbered

-- no domains at all
pub numbered_new : (next : ℕ) → next < 2 ^ 63 → IsNumbered (record { domains = empty; next = next })
numbered_new next low = record {
  apart = λ one other a b there here same. absurd (nothing a (sym (get-empty compare_bytes one) ∙ there));
  below = λ name d there. absurd (nothing d (sym (get-empty compare_bytes name) ∙ there));
  next = low;
  epochs = λ name d there. absurd (nothing d (sym (get-empty compare_bytes name) ∙ there));
}

-- one domain
pub at_one : (name : List ℕ) (one d : Domain) (q : List ℕ) → get (insert {R = compare_bytes} empty name one) q ≡ Some d → (q ≡ name) × (d ≡ one)
at_one name one d q there = elim (here_or_elsewhere bytes_exact q name) [
  | inl here ↦ (here, one_value d one (sym there ∙ ap (get (insert {R = compare_bytes} empty name one)) here ∙ get_put bytes_total empty name one))
  | inr away ↦ absurd (nothing d (sym (get-empty compare_bytes q) ∙ sym (get_put_elsewhere bytes_total bytes_exact empty name one q (different bytes_total q name away)) ∙ there))
]

pub numbered_one : (name : List ℕ) (number epoch : ℕ) → number + 1 < 2 ^ 63 → epoch < 2 ^ 63 → IsNumbered (one_kept name number epoch)
numbered_one name number epoch next low =
    let one : Domain = record { number = number; epoch = epoch; state = new_domain } in record {
      apart = λ q other a b there here same. (at_one name one a q there).0 ∙ sym (at_one name one b other here).0;
      below = λ q d there. subst (λ (x : Domain). x.number < number + 1) (sym (at_one name one d q there).1) (omega arith);
      next = next;
      epochs = λ q d there. subst (λ (x : Domain). x.epoch < 2 ^ 63) (sym (at_one name one d q there).1) low;
    }
