-- Steps that were taken in a transaction.
use Rattle.std.proofs.Common.{◌≡◌, List, [], ◌∷◌, Result, Ok, Err, IsTrue, OnOk, refl, sym, ap, subst, ◌∙◌, arith}
use Rattle.xa_store.proofs.Common.{State, HasCleanDisk, Survives, survives_then, Failure, Rows, rows_of}
use Rattle.xa_store.specs.declared.step.Step.{Step}
use Rattle.xa_store.specs.keeping.Execution.{IsInside, StaysInside, Takes, Took}
use Rattle.xa_store.specs.keeping.Steps.{AllowsAll, after_all}
use Rattle.xa_store.proofs.ApartLemmas.{survives_still}
use Rattle.xa_store.proofs.StepLemmas.{Stepped}

-- a statement that ran took its step
pub took_ok : {X E P : Type 0} (old new : State) (step : Step) (r : Result X E) → OnOk r (IsTrue new.in_transaction) → OnOk r P → (P → Stepped old new step) → OnOk r (Took (step ∷ []) old new)
took_ok old new step (Ok x) on ran by = let it = by ran in record { within = record { inside = on; schema = it.schema; database = it.database; tables = it.tables.0 }; rows = it.tables.1 }
took_ok old new step (Err e) on ran by = tt

-- ---- one after another

-- those before the rest were taken: the rest may be taken now, and leads to where all of them do
pub record SoFar (steps rest : List Step) (old mid : State) : Type 0 where
  pub stays : StaysInside {X = Unit {0}} old mid (Ok tt)
  pub leads : HasCleanDisk mid → IsInside old → AllowsAll steps (rows_of old.now.trees)
      → IsInside mid × AllowsAll rest (rows_of mid.now.trees) × (after_all rest (rows_of mid.now.trees) ≡ after_all steps (rows_of old.now.trees))

pub none_taken : (steps : List Step) (s : State) → SoFar steps steps s s
none_taken steps s = record {
  stays = record { survives = survives_still s; kept = λ clean inside. record { was_open = λ up. up; committed = λ up. refl }; inside = λ clean inside. inside };
  leads = λ clean inside allows. (inside, allows, refl);
}

module _ (steps rest : List Step) (old mid new : State) (so_far : SoFar steps rest old mid) where
  before : Survives mid new (λ _. ⊥) → HasCleanDisk new → HasCleanDisk mid
  before survived clean = omega (arith, survived.clean, clean)

  pub stays_on : (r q : Result (Unit {0}) Failure) → (OnOk r (IsTrue new.in_transaction) → OnOk q (IsTrue new.in_transaction)) → StaysInside mid new r → StaysInside old new q
  stays_on r q same on = record {
    survives = survives_then old mid new (λ _. ⊥) (λ _. ⊥) (λ _. ⊥) (λ _ db h. h) (λ _ db h. h) so_far.stays.survives on.survives;
    kept = λ clean inside.
        let clean_mid = before on.survives clean in
        let first = so_far.stays.kept clean_mid inside in
        let second = on.kept clean (so_far.stays.inside clean_mid inside) in
        record { was_open = λ up. first.was_open (second.was_open up); committed = λ up. second.committed up ∙ first.committed (second.was_open up) };
    inside = λ clean inside. same (on.inside clean (so_far.stays.inside (before on.survives clean) inside));
  }

pub one_more : (steps : List Step) (step : Step) (rest : List Step) (old mid new : State) → SoFar steps (step ∷ rest) old mid → (x : Unit {0}) → StaysInside mid new (Ok x) → Takes step mid new (Ok x) → SoFar steps rest old new
one_more steps step rest old mid new so_far x on takes = record {
  stays = stays_on steps (step ∷ rest) old mid new so_far (Ok x) (Ok tt) (λ h. h) on;
  leads = λ clean inside allows.
      let here = so_far.leads (omega (arith, on.survives.clean, clean)) inside allows in
      let took : Took (step ∷ []) mid new = takes clean here.0 here.1.0 in
      (took.within, subst (λ (rows : Rows). AllowsAll rest rows) (sym took.rows) here.1.1, ap (λ (rows : Rows). after_all rest rows) took.rows ∙ here.2);
}

pub all_taken : (steps : List Step) (old new : State) → SoFar steps [] old new → HasCleanDisk new → IsInside old → AllowsAll steps (rows_of old.now.trees) → Took steps old new
all_taken steps old new so_far clean inside allows = let it = so_far.leads clean inside allows in record { within = it.0; rows = it.2 }
