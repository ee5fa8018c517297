-- Obligations and advice, one after another.
use Rattle.std.proofs.Common.{◌≡◌, List, ap₂, append_assoc, append-nil}
use Rattle.xa_policy.specs.declared.duty.Duty.{Duty}
use Rattle.xa_policy.specs.Duties.{DutyLists, and_then, no_duties}

abbrev found : List Duty → List Duty → DutyLists
found obligations advice = record { obligations = obligations; advice = advice }

pub and_then_none : (a : DutyLists) → and_then a no_duties ≡ a
and_then_none a = ap₂ found (append-nil a.obligations) (append-nil a.advice)

pub and_then_assoc : (a b c : DutyLists) → and_then (and_then a b) c ≡ and_then a (and_then b c)
and_then_assoc a b c = ap₂ found (append_assoc a.obligations b.obligations c.obligations) (append_assoc a.advice b.advice c.advice)
