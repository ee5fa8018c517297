-- What the decision on a request may cost, and when a call may answer that a limit was reached.
use Rattle.std.specs.Prelude.{◌<◌, ◌≤◌, ℕ, ⊤, List, IsSome, length, Option, Some, None, Result, Ok, Err}
use Rattle.xa_value.specs.declared.or_memory.OrMemory.{OrMemory}
use Rattle.xa_value.specs.declared.or_memory.OrMemory.TheVariants.{Memory, Error}
use Rattle.xa_decide.specs.declared.limits.Limits.{Limits}
use Rattle.xa_decide.specs.declared.limits.OverLimit.{OverLimit}
use Rattle.xa_decide.specs.declared.limits.OverLimit.TheVariants.{Work, Reply, Results, Reading}

-- no limits
abbrev pub no_limits : Limits
no_limits = record { work = None; reply = None }

-- a body has no more bytes than the limit, if there is one
abbrev pub IsWithin : Option ℕ → List ℕ → Type 0
IsWithin None body = ⊤
IsWithin (Some most) body = length body ≤ most

-- a number of bytes is more than the limit, if there is one
abbrev pub IsOver : Option ℕ → ℕ → Type 0
IsOver None bytes = ⊥
IsOver (Some most) bytes = most < bytes

-- there is a limit, and a body, which has more bytes
abbrev pub IsLonger : Option ℕ → Option (List ℕ) → Type 0
IsLonger None body = ⊥
IsLonger (Some most) None = ⊥
IsLonger (Some most) (Some body) = most < length body

-- what is told by the limit that a decision has reached, the definition's body being this, if there is one. The body is
-- longer than it may be, whether that was found of the whole or of its first results; or there is a limit of the work,
-- of which no more is said
abbrev pub MayRefuse : Limits → Option (List ℕ) → OverLimit → Type 0
MayRefuse limits body Work = IsSome limits.work
MayRefuse limits body Reply = IsLonger limits.reply body
MayRefuse limits body Results = IsLonger limits.reply body
MayRefuse limits body Reading = ⊥

-- if a call has reached a limit, P holds of that
abbrev pub IfOver : {X : Type 0} → Result X (OrMemory OverLimit) → (OverLimit → Type 0) → Type 0
IfOver (Ok x) P = ⊤
IfOver (Err Memory) P = ⊤
IfOver (Err (Error over)) P = P over
