-- Which of the connections has been idle for the longest time.
use Rattle.std.proofs.Common.{◌≡◌, ◌<◌, ◌⊎◌, ℕ, false, Option, Some, None}
use Rattle.std.specs.Duration.{as_nanos}
use Rattle.std.specs.declared.time.Duration.{Duration}
use Rattle.xa_reactor.specs.declared.board.Board.{Board}
use Rattle.xa_reactor.specs.Turn.{HasCome, IsIdleSince, Lanes, lane_at, ready_at}
use Rattle.xa_reactor.specs.handling.Taking.{IsBefore}

-- what was found is idle, and nothing has come on it
abbrev pub IsSilent : Board → Lanes → Option (ℕ × Duration) → Type 0
IsSilent board lanes None = Unit {0}
IsSilent board lanes (Some found) = IsIdleSince (lane_at found.0 lanes) (as_nanos found.1) × ((ready_at board found.0).readable ≡ false)

-- what was found before a place is idle, and each other before it is passed over for it, or since something has come on it
pub record IsFound (board : Board) (lanes : Lanes) (found : Option (ℕ × Duration)) (place : ℕ) : Type 0 where
  pub silent : IsSilent board lanes found
  pub passed : (other earlier : ℕ) → other < place → IsIdleSince (lane_at other lanes) earlier → IsBefore found earlier ⊎ HasCome board other
