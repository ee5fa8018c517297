-- What the plans of changes have in common.
use Rattle.std.proofs.Common.{◌≡◌, inl, ℕ, ◌<◌, ◌≤◌, ℤ, pos, List, [], filter, Option, Some, None, option_map, Result, Ok, Err, refl, sym, ap, subst, ◌∙◌, arith}
use Rattle.xa_store.proofs.Common.{get, IsKeyedBy, DomainState, ◌>>=◌, within, Becomes, Domain, Kept, IsChanged, IsNextEpoch, IsNextNumber, state_of, numbered_changed, DomainRow, nat_of, AreNumbered, HaveSoundColumns, Rows, state_at, domain_of, kept_of}
use Rattle.xa_records.specs.declared.refusal.Refusal.{Refusal}
use Rattle.xa_store.specs.keeping.Steps.{AllowsAll, after_all, is_named}
use Rattle.xa_store.specs.keeping.Turns.{Plans}
use Rattle.xa_store.specs.declared.step.Step.{Step}
use Rattle.xa_store.proofs.ChangeLemmas.{IsOnly, Rewrote, kept_at, kept_one, number_of, rewritten}
use Rattle.xa_store.proofs.FilterLemmas.{find_none}

-- no row has that name
pub no_state : (rows : Rows) (name : List ℕ) → filter (is_named name) rows.domains ≡ [] → state_of name (kept_of rows) ≡ None
no_state rows name none = ap (option_map (λ (domain : Domain). domain.state)) (kept_at rows name ∙ ap (option_map (domain_of rows)) (find_none (is_named name) rows.domains none))

-- a domain goes over into the state that it has
still : (kept : Kept) (name : List ℕ) (domain : Domain) → get kept.domains name ≡ Some domain → IsChanged kept kept name (Some domain.state)
still kept name domain there = record {
  domain = subst (λ o. Becomes kept.next o (Some domain.state) (get kept.domains name)) (sym there) (domain.epoch, inl (record { documents = refl; root = refl; source = refl }, refl), there);
  others = λ other apart. refl;
  next = subst (λ o. IsNextNumber kept.next o (Some domain.state) kept.next) (sym there) refl;
}

module _ (rows : Rows) (name : List ℕ) (d : DomainRow) (one : IsOnly name d rows) where
  pub its_state : state_of name (kept_of rows) ≡ Some (state_at rows d.number)
  its_state = ap (option_map (λ (domain : Domain). domain.state)) (kept_one rows name d one)

  module _ (new : Rows) (epoch : ℤ) (state : DomainState) (up : IsKeyedBy number_of rows.domains) (wrote : Rewrote rows new d epoch state)
      (next_epoch : IsNextEpoch (state_at rows d.number) state (nat_of d.epoch) (nat_of epoch)) where
    pub changed : IsChanged (kept_of rows) (kept_of new) name (Some state)
    changed = rewritten rows new name d epoch state up one wrote next_epoch

    -- numbers stay apart, and the unused are unused still
    pub numbered_after : AreNumbered rows → AreNumbered new
    numbered_after are = record {
      numbered = numbered_changed (kept_of rows) (kept_of new) name (Some state) changed are.numbered;
      unused = λ n past.
          let was : nat_of rows.next ≤ n = subst (λ k. k ≤ n) (ap nat_of wrote.next) past in
          let own : nat_of d.number < nat_of rows.next = are.numbered.below name (domain_of rows d) (kept_one rows name d one) in
          wrote.others (pos n) (λ same. let it : n ≡ nat_of d.number = ap nat_of same in absurd (omega arith)) ∙ are.unused n was;
    }

  module _ (change : DomainState → Result DomainState Refusal) where
    -- why it is refused
    pub refused : (e : Refusal) → change (state_at rows d.number) ≡ Err e → within change (state_of name (kept_of rows)) ≡ Err e
    refused e is = ap (within change) its_state ∙ ap (λ r. r >>= (λ next. Ok (Some next))) is

    module _ (are : AreNumbered rows) (target : DomainState) (is : change (state_at rows d.number) ≡ Ok target) where
      becomes : within change (state_of name (kept_of rows)) ≡ Ok (Some target)
      becomes = ap (within change) its_state ∙ ap (λ r. r >>= (λ next. Ok (Some next))) is

      -- no step, if the domain has that state
      pub unchanged : state_at rows d.number ≡ target → Plans [] (within change) name rows
      unchanged same = record {
        allows = tt;
        made = (Some target, becomes, subst (λ s. IsChanged (kept_of rows) (kept_of rows) name (Some s)) same (still (kept_of rows) name (domain_of rows d) (kept_one rows name d one)));
        numbered = are;
        whole = λ whole. whole;
      }

      -- steps that write that state
      pub planned : (steps : List Step) (epoch : ℤ) → IsKeyedBy number_of rows.domains → AllowsAll steps rows → Rewrote rows (after_all steps rows) d epoch target
          → IsNextEpoch (state_at rows d.number) target (nat_of d.epoch) (nat_of epoch) → (HaveSoundColumns rows → HaveSoundColumns (after_all steps rows)) → Plans steps (within change) name rows
      planned steps epoch up allows wrote next_epoch whole = record {
        allows = allows;
        made = (Some target, becomes, changed (after_all steps rows) epoch target up wrote next_epoch);
        numbered = numbered_after (after_all steps rows) epoch target up wrote next_epoch are;
        whole = whole;
      }
