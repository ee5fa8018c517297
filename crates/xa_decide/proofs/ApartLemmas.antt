-- What a call answers that tells want of memory apart: the definition's answer.
use Rattle.std.proofs.Common.{◌≡◌, ℕ, ◌+◌, subst, sym}
use Rattle.std.specs.Prelude.{IfOk, IsOk, Result, Ok, Err}
use Rattle.std.specs.declared.alloc.AllocError.{AllocError}
use Rattle.std.proofs.lemmas.Bool.{true≢false}
use Rattle.xa_value.specs.declared.or_memory.OrMemory.{OrMemory}
use Rattle.xa_value.specs.declared.or_memory.OrMemory.TheVariants.{Memory, Error}
use Rattle.xa_value.specs.Gives.{Gives, memory_apart}
use Rattle.xa_link.specs.Reading.{OnceAnswered}

-- it is the definition's
pub given_apart : {X E : Type 0} (given : Result X (OrMemory E)) (definition : Result X E) (told : Result (Result X E) AllocError)
    → told ≡ memory_apart given → Gives given definition → IfOk told (λ answer. answer ≡ definition)
given_apart {X} {E} (Ok x) definition told is gives =
    subst (λ (t : Result (Result X E) AllocError). IfOk t (λ answer. answer ≡ definition)) (sym is) (sym gives)
given_apart {X} {E} (Err Memory) definition told is gives =
    subst (λ (t : Result (Result X E) AllocError). IfOk t (λ answer. answer ≡ definition)) (sym is) tt
given_apart {X} {E} (Err (Error e)) definition told is gives =
    subst (λ (t : Result (Result X E) AllocError). IfOk t (λ answer. answer ≡ definition)) (sym is) (sym gives)

-- what a call reads that gave a value
pub read_apart : {X E : Type 0} (given : Result X (OrMemory E)) (told : Result (Result X E) AllocError) (old new units : ℕ)
    → told ≡ memory_apart given → IfOk given (λ _. old ≡ new + units) → IfOk told (λ answer. IsOk answer → old ≡ new + units)
read_apart {X} {E} (Ok x) told old new units is read =
    subst (λ (t : Result (Result X E) AllocError). IfOk t (λ answer. IsOk answer → old ≡ new + units)) (sym is) (λ ok. read)
read_apart {X} {E} (Err Memory) told old new units is read =
    subst (λ (t : Result (Result X E) AllocError). IfOk t (λ answer. IsOk answer → old ≡ new + units)) (sym is) tt
read_apart {X} {E} (Err (Error e)) told old new units is read =
    subst (λ (t : Result (Result X E) AllocError). IfOk t (λ answer. IsOk answer → old ≡ new + units)) (sym is) (λ ok. absurd (true≢false (sym ok)))

-- what holds once a call has answered
pub answered_apart : {X E : Type 0} (given : Result X (OrMemory E)) (told : Result (Result X E) AllocError) (P : Type 0)
    → told ≡ memory_apart given → OnceAnswered given P → IfOk told (λ _. P)
answered_apart {X} {E} (Ok x) told P is holds = subst (λ (t : Result (Result X E) AllocError). IfOk t (λ _. P)) (sym is) holds
answered_apart {X} {E} (Err Memory) told P is holds = subst (λ (t : Result (Result X E) AllocError). IfOk t (λ _. P)) (sym is) tt
answered_apart {X} {E} (Err (Error e)) told P is holds = subst (λ (t : Result (Result X E) AllocError). IfOk t (λ _. P)) (sym is) holds
