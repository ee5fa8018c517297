-- What a call answers that is asked for its answer apart from want of memory.
use Rattle.std.proofs.Common.{◌≡◌, subst}
use Rattle.std.specs.Prelude.{Result, Ok, Err}
use Rattle.xa_value.specs.declared.or_memory.OrMemory.{OrMemory}
use Rattle.xa_value.specs.Gives.{Gives, answered}

-- the answer that is given apart is the definition's
pub told_apart : {X E : Type 0} (given : Result X (OrMemory E)) (definition answer : Result X E) → given ≡ answered answer → Gives given definition → definition ≡ answer
told_apart {X} {E} given definition (Ok x) same gives = let P : Result X (OrMemory E) → Type 0 = λ g. Gives g definition in subst P same gives
told_apart {X} {E} given definition (Err e) same gives = let P : Result X (OrMemory E) → Type 0 = λ g. Gives g definition in subst P same gives
