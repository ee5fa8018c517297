-- Cached views decide as what is kept does.
use Rattle.std.proofs.Common.{◌≡◌, ℕ, Bool, true, false, nat_eq, List, refl, sym, ap, ◌∙◌, subst, cond}
use Rattle.std.specs.Prelude.{Option, Some, None, Ok, IfSome, length}
use Rattle.std.specs.FinMap.{get}
use Rattle.std.specs.Map.{lookup}
use Rattle.std.proofs.lemmas.Bool.{eqb-true}
use Rattle.xa_decide.specs.Decision.{Viewed}
use Rattle.xa_records.specs.declared.kept_view.KeptView.{KeptView}
use Rattle.xa_records.specs.DomainState.{DomainState}
use Rattle.xa_records.specs.Kept.{DecidesAlike, Domain, IsNumbered, Kept, state_of}
use Rattle.xa_records.specs.Readings.{gate_of_domain}
use Rattle.xa_shelf.proofs.EntryLemmas.{all_promoted, all_removed, all_taken, value_found}
use Rattle.xa_server.specs.declared.revision.Revision.{Revision}
use Rattle.xa_server.specs.declared.cached_view.CachedView.{CachedView}
use Rattle.xa_server.specs.handling.Gates.{revision_by, revision_of}
use Rattle.xa_server.specs.handling.Asking.{view_told}
use Rattle.xa_server.specs.Resources.{AreReady, IsReady, ViewsModel}
use Rattle.xa_server.specs.Standing.{StandsUnder}
use Rattle.xa_server.specs.View.{view_of}
use Rattle.xa_server.specs.handling.Views.{added, bytes_of_tree, bytes_of_view, fitting_count, in_front, promoted, view_ready, with_view, without}
use Rattle.xa_server.proofs.GrowthLemmas.{HasGrown}
use Rattle.xa_server.proofs.StandingLemmas.{all_implied, made_stands, stands_on}
use Rattle.xa_server.proofs.WorkLemmas.{domain_of_revision}

-- that a view is that of a state
abbrev IsViewOf : Viewed → DomainState → Type 0
IsViewOf view state = view_of state ≡ view

-- states that decide alike have one view
alike_viewed : (view : Viewed) (a b : DomainState) → DecidesAlike a b → IsViewOf view a → IsViewOf view b
alike_viewed view a b alike is = let same : view_of b ≡ view_of a = rw (alike.documents, alike.root, alike.source) refl in same ∙ is

-- as domains go on
pub ready_grown : (old new : Kept) → HasGrown old new → (views : List (ℕ × CachedView)) → AreReady old views → AreReady new views
ready_grown old new grows views ready =
    all_implied (IsReady old) (IsReady new) (λ entry. stands_on (IsViewOf entry.1.view) (alike_viewed entry.1.view) old new grows entry.0 entry.1.revision.epoch) views ready

-- ---- a view that is found

-- it stands under its number, and is of its epoch
found_entry : (kept : Kept) (views : List (ℕ × CachedView)) (number epoch : ℕ) (view : Viewed) → AreReady kept views → view_ready number epoch views ≡ Some view
    → StandsUnder kept number epoch (IsViewOf view)
found_entry kept views number epoch view ready found = by_lookup (lookup (nat_eq number) views) refl where
  one_view : (a b : Viewed) → Some a ≡ Some b → a ≡ b
  one_view a b e = cc

  by_epoch : (entry : CachedView) (same : Bool) → nat_eq entry.revision.epoch epoch ≡ same → IsReady kept (number, entry) → cond same (Some entry.view) None ≡ Some view → StandsUnder kept number epoch (IsViewOf view)
  by_epoch entry false e stands is = absurd cc
  by_epoch entry true e stands is =
      subst (λ at. StandsUnder kept number at (IsViewOf view)) (eqb-true entry.revision.epoch epoch e)
      (subst (λ v. StandsUnder kept number entry.revision.epoch (IsViewOf v)) (one_view entry.view view is) stands)

  by_lookup : (there : Option CachedView) → lookup (nat_eq number) views ≡ there → StandsUnder kept number epoch (IsViewOf view)
  by_lookup None e = let none : None ≡ Some view = rw e at found in absurd cc
  by_lookup (Some entry) e =
      let on = value_found (IsReady kept) (nat_eq number) views entry ready e in
      by_epoch entry (nat_eq entry.revision.epoch epoch) refl (subst (λ n. IsReady kept (n, entry)) (sym (eqb-true number on.0 on.2)) on.1) (rw e at found)

-- it is what decides in the domain of that revision
pub ready_found : (kept : Kept) (name : List ℕ) (revision : Revision) (views : List (ℕ × CachedView)) (view : Viewed) → revision_of name kept ≡ Some revision → AreReady kept views
    → view_ready revision.number revision.epoch views ≡ Some view → view_told (state_of name kept) ≡ Ok view
ready_found kept name revision views view opens ready found = by_gate (domain_of_revision kept name revision opens) where
  by_gate : ((d : Domain) × (get kept.domains name ≡ Some d) × (revision_by (gate_of_domain d) ≡ revision)) → view_told (state_of name kept) ≡ Ok view
  by_gate (d, there, is) =
      let stands = found_entry kept views revision.number revision.epoch view ready found in
      let holds : view_of d.state ≡ view = (stands.1 name d there (ap (λ o. o.number) is)).1 (sym (ap (λ o. o.epoch) is)) in
      rw there (ap Ok holds)

-- ---- a view that was made

told_view : (state : DomainState) (view : Viewed) → view_told (Some state) ≡ Ok view → view_of state ≡ view
told_view state view told = cc

pub made_ready : (kept : Kept) (name : List ℕ) (revision : Revision) (ready : CachedView) → IsNumbered kept → revision_of name kept ≡ Some revision → view_told (state_of name kept) ≡ Ok ready.view
    → ready.revision ≡ revision → IsReady kept (ready.revision.number, ready)
made_ready kept name revision ready numbered opens told is = by_gate (domain_of_revision kept name revision opens) where
  by_gate : ((d : Domain) × (get kept.domains name ≡ Some d) × (revision_by (gate_of_domain d) ≡ revision)) → IsReady kept (ready.revision.number, ready)
  by_gate (d, there, its) =
      let holds = told_view d.state ready.view (rw there at told) in
      let stands = made_stands (IsViewOf ready.view) kept name d numbered there holds in
      let same : revision_by (gate_of_domain d) ≡ ready.revision = its ∙ sym is in
      subst (λ n. StandsUnder kept n ready.revision.epoch (IsViewOf ready.view)) (ap (λ o. o.number) same)
      (subst (λ e. StandsUnder kept d.number e (IsViewOf ready.view)) (ap (λ o. o.epoch) same) stands)

-- ---- what is kept after a use, and after a view was kept

pub ready_promoted : (kept : Kept) (number : ℕ) (cached : ViewsModel) → AreReady kept cached.views → AreReady kept (promoted number cached).views
ready_promoted kept number cached ready = all_promoted (IsReady kept) (nat_eq number) cached.views ready

pub ready_without : (kept : Kept) (number : ℕ) (cached : ViewsModel) → AreReady kept cached.views → AreReady kept (without number cached).views
ready_without kept number cached ready = all_removed (IsReady kept) (nat_eq number) cached.views ready

pub ready_with : (kept : Kept) (number : ℕ) (view : CachedView) (cached : ViewsModel) → IsReady kept (number, view) → AreReady kept cached.views → AreReady kept (with_view number view cached).views
ready_with kept number view cached this ready =
    let all = in_front number view cached.views in
    all_taken (IsReady kept) (fitting_count cached.max_count cached.max_bytes all) all (this, all_removed (IsReady kept) (nat_eq number) cached.views ready)

-- by how much memory a view is counted that was made of what is kept
pub estimated : (there : Option KeptView) (kept : KeptView) (ready : CachedView) (read : ℕ) → Some kept ≡ there
    → ready.bytes ≡ added (bytes_of_view read (length kept.source)) (bytes_of_tree ready.view)
    → IfSome there (λ k. ready.bytes ≡ added (bytes_of_view read (length k.source)) (bytes_of_tree ready.view))
estimated there kept ready read is bytes =
    subst (λ (o : Option KeptView). IfSome o (λ k. ready.bytes ≡ added (bytes_of_view read (length k.source)) (bytes_of_tree ready.view))) is bytes
