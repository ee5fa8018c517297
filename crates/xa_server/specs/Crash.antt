-- What a crash may leave after a message.
use Rattle.std.specs.Prelude.{◌⊎◌, ℕ, ℤ, List, Option, Some, None}
use Rattle.xa_http.specs.declared.message.Message.{Message}
use Rattle.xa_records.specs.Kept.{IsChanged, Kept}
use Rattle.xa_server.specs.Machine.{next_state, step}
use Rattle.xa_server.specs.Owner.{owner}
use Rattle.xa_server.specs.Served.{state}
use Rattle.xa_server.specs.World.{World}

-- the step of a domain's machine was made: the domain has gone over into the state that it gives, and no other has
-- changed; a message of no domain makes none
abbrev pub IsStepMade : World → Kept → ℤ → Message → Option (List ℕ) → Type 0
IsStepMade old left moment message None = ⊥
IsStepMade old left moment message (Some domain) =
    IsChanged old.kept left domain (next_state (step old.operator (state domain old) message moment))

-- what a crash may leave after a message, whatever became of it: what it might have left before, or all with that one
-- step made
abbrev pub LeavesStep : (Kept → Type 0) → (Kept → Type 0) → World → ℤ → Message → Type 0
LeavesStep before after old moment message =
    (left : Kept) → after left → before left ⊎ IsStepMade old left moment message (owner message)
