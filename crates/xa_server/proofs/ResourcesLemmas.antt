-- All that a server holds still stands after an ask.
use Rattle.std.proofs.Common.{◌≡◌, ℕ, ℤ, Bool, true, false, List, refl, sym, subst}
use Rattle.std.specs.Prelude.{Ok, Option, Some, Result}
use Rattle.xa_cache.specs.declared.key.Key.{Key}
use Rattle.xa_records.specs.Kept.{IsNumbered, Kept, state_of}
use Rattle.xa_server.specs.declared.revision.Revision.{Revision}
use Rattle.xa_server.specs.declared.cached_view.CachedView.{CachedView}
use Rattle.xa_server.specs.declared.handling_error.HandlingError.{HandlingError}
use Rattle.xa_server.specs.handling.Gates.{revision_of}
use Rattle.xa_server.specs.handling.Asking.{IsFresh, IsLookedUp, evaluated_in, view_told}
use Rattle.xa_server.specs.Resources.{AllStand, AreGates, AreReady, ResourcesModel}
use Rattle.xa_server.specs.handling.Views.{promoted, with_view, without}
use Rattle.xa_server.specs.Work.{key_of_revision}
use Rattle.xa_server.proofs.ReadyLemmas.{made_ready, ready_promoted, ready_with, ready_without}
use Rattle.xa_server.proofs.ValidLemmas.{fresh_valid, looked_valid}

-- after a look-up of a decision
pub looked_stands : (kept : Kept) (held : Option (List ℕ)) (key : Key) (old new : ResourcesModel) → IsLookedUp held key old.decisions new.decisions → new.views ≡ old.views → new.gates ≡ old.gates → AllStand kept old → AllStand kept new
looked_stands kept held key old new moved views gates stand =
    record { decisions = looked_valid kept held key old.decisions new.decisions moved stand.decisions; views = subst (λ r. AreReady kept r.views) (sym views) stand.views; gates = subst (AreGates kept) (sym gates) stand.gates }

module _ (kept : Kept) (name body : List ℕ) (moment : ℤ) (revision : Revision) (numbered : IsNumbered kept) (opens : revision_of name kept ≡ Some revision) where
  -- after a decision was evaluated, if the views stand
  fresh_stands : (result : Result (List ℕ) HandlingError) (old new : ResourcesModel) → IsFresh (key_of_revision revision body) (evaluated_in (state_of name kept) body moment) result old.decisions new.decisions
      → AreReady kept new.views.views → new.gates ≡ old.gates → AllStand kept old → AllStand kept new
  fresh_stands result old new work views gates stand =
      record { decisions = fresh_valid kept name body moment revision result old.decisions new.decisions numbered opens work stand.decisions; views = views; gates = subst (AreGates kept) (sym gates) stand.gates }

  -- the views are as they were
  pub left_stands : (result : Result (List ℕ) HandlingError) (old new : ResourcesModel) → IsFresh (key_of_revision revision body) (evaluated_in (state_of name kept) body moment) result old.decisions new.decisions
      → new.views ≡ old.views → new.gates ≡ old.gates → AllStand kept old → AllStand kept new
  left_stands result old new work views gates stand = fresh_stands result old new work (subst (λ r. AreReady kept r.views) (sym views) stand.views) gates stand

  -- one of them was made the most recently used
  pub promoted_stands : (result : Result (List ℕ) HandlingError) (old new : ResourcesModel) → IsFresh (key_of_revision revision body) (evaluated_in (state_of name kept) body moment) result old.decisions new.decisions
      → new.views ≡ promoted revision.number old.views → new.gates ≡ old.gates → AllStand kept old → AllStand kept new
  promoted_stands result old new work views gates stand =
      fresh_stands result old new work (subst (λ r. AreReady kept r.views) (sym views) (ready_promoted kept revision.number old.views stand.views)) gates stand

  -- one was made, and kept or not
  pub kept_stands : (result : Result (List ℕ) HandlingError) (ready : CachedView) (is_kept : Bool) (old new : ResourcesModel)
      → IsFresh (key_of_revision revision body) (evaluated_in (state_of name kept) body moment) result old.decisions new.decisions → view_told (state_of name kept) ≡ Ok ready.view → ready.revision ≡ revision
      → (is_kept ≡ true → new.views ≡ with_view ready.revision.number ready old.views) → (is_kept ≡ false → new.views ≡ without ready.revision.number old.views) → new.gates ≡ old.gates → AllStand kept old → AllStand kept new
  kept_stands result ready true old new work told is was wasnt gates stand =
      fresh_stands result old new work
      (subst (λ r. AreReady kept r.views) (sym (was refl)) (ready_with kept ready.revision.number ready old.views (made_ready kept name revision ready numbered opens told is) stand.views)) gates stand
  kept_stands result ready false old new work told is was wasnt gates stand =
      fresh_stands result old new work (subst (λ r. AreReady kept r.views) (sym (wasnt refl)) (ready_without kept ready.revision.number old.views stand.views)) gates stand
