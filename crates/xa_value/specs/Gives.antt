-- What a call that may grow something answers, beside the answer that its definition gives. No definition knows want
-- of memory.
use Rattle.std.specs.Prelude.{◌≡◌, Result, Ok, Err, alloc_error}
use Rattle.std.specs.declared.alloc.AllocError.{AllocError}
use Rattle.xa_value.specs.declared.or_memory.OrMemory.{OrMemory}
use Rattle.xa_value.specs.declared.or_memory.OrMemory.TheVariants.{Memory, Error}

-- the answer is the definition's, or that there was no memory
abbrev pub Gives : {X E : Type 0} → Result X (OrMemory E) → Result X E → Type 0
Gives (Ok x) given = given ≡ Ok x
Gives (Err Memory) given = Unit {0}
Gives (Err (Error e)) given = given ≡ Err e

-- the definition's answer, as a call answers it that finds memory
abbrev pub answered : {X E : Type 0} → Result X E → Result X (OrMemory E)
answered (Ok x) = Ok x
answered (Err e) = Err (Error e)

-- the definition's answer, with want of memory alone as an error
abbrev pub memory_apart : {X E : Type 0} → Result X (OrMemory E) → Result (Result X E) AllocError
memory_apart (Ok x) = Ok (Ok x)
memory_apart (Err Memory) = Err alloc_error
memory_apart (Err (Error e)) = Ok (Err e)

-- what holds of a call's answer: P of its value, N if there was no memory, and Q of its error
abbrev pub MatchGiven : {X E : Type 0} → Result X (OrMemory E) → (X → Type 0) → Type 0 → (E → Type 0) → Type 0
MatchGiven (Ok x) P N Q = P x
MatchGiven (Err Memory) P N Q = N
MatchGiven (Err (Error e)) P N Q = Q e

-- the answer is an error, and P holds of that
abbrev pub IsErrorAnd : {X E : Type 0} → Result X (OrMemory E) → (E → Type 0) → Type 0
IsErrorAnd (Ok x) P = ⊥
IsErrorAnd (Err Memory) P = ⊥
IsErrorAnd (Err (Error e)) P = P e

-- P holds of the answer's error, if it is one, in the form for a `requires`
abbrev pub ForError : {X E : Type 0} → Result X (OrMemory E) → (E → Type 0) → Type 0
ForError {X} {E} given P = (e : E) → given ≡ Err (Error e) → P e

-- the second step, if the first gave a value
infixl 10 ◌>>=◌
abbrev pub ◌>>=◌ : {A B E : Type 0} → Result A E → (A → Result B E) → Result B E
Ok x >>= f = f x
Err e >>= f = Err e
