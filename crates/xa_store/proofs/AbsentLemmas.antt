-- A change of what is absent is refused.
use Rattle.std.proofs.Common.{◌≡◌, ℕ, List, Option, Some, None, Err, IfErr, IfOk, refl, sym, ap, subst, ◌∙◌}
use Rattle.std.specs.Option.{ok_or}
use Rattle.xa_store.proofs.Common.{Absent, Change, ChangeError, IfAnswered, state_of, Rows, kept_of}
use Rattle.xa_records.specs.declared.refusal.ChangeError.TheVariants.{Failed, Refused}
use Rattle.xa_records.specs.declared.refusal.Refusal.{Refusal}
use Rattle.xa_store.specs.keeping.Lookup.{FindsDomain, TellsAbsent}
use Rattle.xa_store.specs.keeping.Turns.{IsPlanned}
use Rattle.xa_store.proofs.PlanLemmas.{no_state}

-- what was looked for is there, or the change of it is refused
module _ {X : Type 0} (P : Option X → Type 0) where
  pub found_there : (found : Option X) → P found → IfOk (ok_or found (Refused Absent)) (λ x. P (Some x))
  found_there (Some x) p = p
  found_there None p = tt

  pub found_absent : (found : Option X) → P found → IfErr (ok_or found (Refused Absent)) (TellsAbsent (P None))
  found_absent (Some x) p = tt
  found_absent None p = (refl, p)

pub found_answers : {X : Type 0} (A : Type 0) (found : Option X) → A → IfAnswered (ok_or found (Refused Absent)) A
found_answers A (Some x) a = a
found_answers A None a = a

-- a change that refuses what is absent has no plan there
pub refused_plan : {A : Type 0} (change : Change) (rows : Rows) (name : List ℕ) → (A → change (state_of name (kept_of rows)) ≡ Err Absent) → (error : ChangeError) → TellsAbsent A error → IsPlanned change name rows (Err error)
refused_plan change rows name refuses (Refused e) (is, none) = subst (λ (e : Refusal). change (state_of name (kept_of rows)) ≡ Err e) (sym is) (refuses none)
refused_plan change rows name refuses (Failed failure) told = tt

-- of a domain
pub absent_plan : (change : Change) (rows : Rows) (name : List ℕ) → change None ≡ Err Absent → (error : ChangeError) → TellsAbsent (FindsDomain name rows None) error → IsPlanned change name rows (Err error)
absent_plan change rows name refuses = refused_plan {A = FindsDomain name rows None} change rows name (λ none. ap change (no_state rows name none) ∙ refuses)
