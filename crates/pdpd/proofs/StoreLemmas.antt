-- A store in memory, as it is opened.
use Rattle.sqlite.specs.State.{State}
use Rattle.sqlite.specs.Steps.{IsEmpty}
use Rattle.xa_store.specs.Opening.{IsBlank}

-- it begins without tables
pub blank : (s : State) → IsEmpty s → IsBlank s
blank s empty = record { schema = empty.2; settled = empty.0.clean; idle = empty.0.autocommit }
