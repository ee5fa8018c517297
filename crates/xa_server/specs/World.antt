-- What the replies of a server may depend on.
use Rattle.std.specs.Prelude.{ℕ, List}
use Rattle.xa_records.specs.Keeper.{Custody}
use Rattle.xa_records.specs.Kept.{Kept}
use Rattle.xa_server.specs.Decisions.{DecisionsModel}

-- a world: the digest of the operator's token, and what is kept of all domains
pub record World : Type 0 where
  pub operator : List ℕ
  pub kept : Kept

-- a server as contracts see it: the digest of the operator's token, its keeper, and its cached decisions with their
-- counts
pub record ServerModel (R : Type 0) : Type 0 where
  pub operator : List ℕ
  pub records : R
  pub decisions : DecisionsModel

-- the world of a server, by what its keeper keeps
abbrev pub world : {R : Type 0} → (R → Custody) → ServerModel R → World
world custody server = record { operator = server.operator; kept = (custody server.records).kept }

-- what is known of a server: its world, and its cached decisions with their counts
pub record ServerState : Type 0 where
  pub world : World
  pub decisions : DecisionsModel

-- the state of a server, by what its keeper keeps
abbrev pub server_state : {R : Type 0} → (R → Custody) → ServerModel R → ServerState
server_state custody server = record { world = world custody server; decisions = server.decisions }
