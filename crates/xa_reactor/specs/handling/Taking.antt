-- How a connection is taken, call by call.
use Rattle.std.specs.Prelude.{◌≡◌, ◌⊎◌, ◌<◌, ◌≤◌, ℕ, Bool, false, List, [], ◌∷◌, length, Option, Some, None}
use Rattle.std.specs.Prelude.{slice_set}
use Rattle.std.specs.Duration.{as_nanos}
use Rattle.std.specs.declared.time.Duration.{Duration}
use Rattle.xa_records.specs.Keeper.{Custody}
use Rattle.xa_server.specs.declared.front.Front.{Front}
use Rattle.xa_server.specs.declared.lines.Conn.{Conn}
use Rattle.xa_server.specs.Lines.{first_free}
use Rattle.xa_reactor.specs.declared.access.Access.{Access}
use Rattle.xa_reactor.specs.declared.board.Board.{Board}
use Rattle.xa_reactor.specs.declared.board.Ready.{Ready}
use Rattle.xa_reactor.specs.declared.lane.Lane.{Lane}
use Rattle.xa_reactor.specs.Timing.{IsFresh}
use Rattle.xa_reactor.specs.Traffic.{Traffic}
use Rattle.xa_reactor.specs.Turn.{IsIdleSince, Lanes, MayCome, MayGo, lane_at, opens, ready_at}
use Rattle.xa_reactor.specs.handling.Turning.{Does, TakesSome}

-- ---- which of them has been idle for the longest time

-- one was found that is idle since then, or longer
abbrev pub IsBefore : Option (ℕ × Duration) → ℕ → Type 0
IsBefore None since = ⊥
IsBefore (Some found) since = as_nanos found.1 ≤ since

-- the one that was found, or that at a place, on which nothing is known to have come
abbrev pub IsFoundOr : Option (ℕ × Duration) → ℕ → Option Lane → Ready → Option (ℕ × Duration) → Type 0
IsFoundOr found place lane ready result =
    (result ≡ found)
    ⊎ ((since : Duration) × (result ≡ Some (place, since)) × IsIdleSince lane (as_nanos since)
    × (ready.readable ≡ false))

-- ---- where another can be taken

-- there is a place for another connection: a free one, or that of the one that is driven out for it
abbrev pub IsRoom : Board → ℕ → Option ℕ → Access → Lanes → Type 0
IsRoom board now None access lanes =
    (place : ℕ) × (place < length lanes) × (lane_at place lanes ≡ None) × MayCome access lanes
IsRoom board now (Some place) access lanes = MayGo board now place access lanes

-- What is known to be ready, by what was known first, when the turn began: at each place it is the same, or nobody who
-- is there was idle before.
pub record Follows (first board : Board) (now : ℕ) (lanes : Lanes) : Type 0 where
  pub at : (place : ℕ) → (ready_at board place ≡ ready_at first place)
      ⊎ ((since : ℕ) → IsIdleSince (lane_at place lanes) since → now ≤ since)

module _ {R N : Type 0} (custody : R → Custody) (done : N → Option (List Traffic)) where
  -- one was opened, at the least place at which none was
  abbrev pub Opens : Access → ℕ → Lanes → Lanes → Front R → Front R → N → N → Type 0
  Opens access now old new front_old =
      Does custody done
      (λ deeds. (conn : Conn) × (lane : Lane) × (first_free front_old.lines ≡ Some conn.number)
      × (lane_at conn.number old ≡ None) × IsFresh now lane × (new ≡ slice_set old conn.number (Some lane))
      × (deeds ≡ opens conn access ∷ [])) old new front_old

  -- connections were taken in a turn, also if that was broken off, whatever was known first
  pub record TakesOn (split : Bool) (now : ℕ) (board_old board_new : Board) (old new : Lanes)
      (front_old front_new : Front R) (network_old network_new : N) : Type 0 where
    pub takes : (first : Board) → Follows first board_old now old
        → TakesSome custody done split first now old new front_old front_new network_old network_new
    pub follows : (first : Board) → Follows first board_old now old → Follows first board_new now new
