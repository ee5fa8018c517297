-- What is done for all connections, call by call.
use Rattle.std.specs.Prelude.{◌≡◌, ◌≢◌, ◌⊎◌, ◌≤◌, ℕ, Bool, true, List, [], ◌∷◌, ◌++◌, Option, Some, None}
use Rattle.std.specs.Prelude.{option_map, Result, Ok, Err}
use Rattle.std.specs.Prelude.{slice_set}
use Rattle.xa_records.specs.Keeper.{Custody}
use Rattle.xa_server.specs.declared.front.Front.{Front}
use Rattle.xa_reactor.specs.declared.board.Board.{Board}
use Rattle.xa_reactor.specs.declared.lane.Lane.{Lane}
use Rattle.xa_reactor.specs.declared.lane.Share.{Share}
use Rattle.xa_reactor.specs.declared.limits.Terms.{Terms}
use Rattle.xa_reactor.specs.declared.progress.Progress.{Progress}
use Rattle.xa_reactor.specs.declared.progress.Progress.TheVariants.{Ends}
use Rattle.xa_reactor.specs.declared.progress.Reason.{Reason}
use Rattle.xa_reactor.specs.Step.{DropsAs, IsStepOn, Step, Works, joined}
use Rattle.xa_reactor.specs.Timing.{IsParted}
use Rattle.xa_reactor.specs.Traffic.{Traffic}
use Rattle.xa_reactor.specs.Turn.{AnswersAt, AreDone, AreShared, AreTaken, Deed, EndsBy, FitAll, IsShareOf, IsStepIn}
use Rattle.xa_reactor.specs.Turn.{IsTurn, Lanes, Turn, calls_of, closes, lane_at, opens, traffic_of, under_way}

-- why a connection is closed behind a step, if it is; else it isn't late, if it was parted with
abbrev pub EndsAt : Terms → Step → Lane → Progress → Type 0
EndsAt terms step lane (Ends reason) = EndsBy terms step lane reason
EndsAt terms step lane _ = IsParted terms lane

-- that by what a step came to
abbrev pub EndsIf : {E : Type 0} → Terms → Step → Lane → Result Progress E → Type 0
EndsIf terms step lane (Ok progress) = EndsAt terms step lane progress
EndsIf terms step lane (Err _) = Unit {0}

-- what is known of a share before it
pub record IsShareAt (share : Share) (terms : Terms) (place : ℕ) (lanes : Lanes) : Type 0 where
  pub conn : share.conn ≡ record { number = place }
  pub at : share.now ≡ terms.began
  pub parts : share.parts ≡ terms.parts
  pub there : lane_at place lanes ≢ None
  pub room : share.has_room ≡ true → under_way lanes ≤ 33_554_432
  pub came : option_map (λ lane. lane.access) (lane_at place lanes) ≡ Some share.access

-- nobody is opened
abbrev pub OpensNone : List Deed → Type 0
OpensNone [] = Unit {0}
OpensNone (opens conn access ∷ deeds) = ⊥
OpensNone (_ ∷ deeds) = OpensNone deeds

-- a turn
abbrev pub turn_of : Terms → Board → ℕ → List Deed → List Deed → Turn
turn_of terms board first taken shared =
    record { terms = terms; board = board; first = first; taken = taken; shared = shared }

module _ {R N : Type 0} (custody : R → Custody) (done : N → Option (List Traffic)) where
  -- deeds were done by a front and over a network, and are so
  pub record Does (are : List Deed → Type 0) (old new : Lanes) (front_old front_new : Front R)
      (network_old network_new : N) : Type 0 where
    pub deeds : List Deed
    pub are_so : are deeds
    pub are_done : AreDone deeds old new
    pub works : Works custody done (calls_of deeds) (traffic_of deeds) front_old front_new network_old network_new

  -- connections were taken, also if that was broken off
  abbrev pub TakesSome : Bool → Board → ℕ → Lanes → Lanes → Front R → Front R → N → N → Type 0
  TakesSome split board now old new = Does (λ deeds. AreTaken board now deeds old new × FitAll split deeds) old new

  -- the connection at a place had one step; in `ends` is why it is to be closed then, if it is
  pub record StepsAt {E : Type 0} (result : Result Progress E) (terms : Terms) (place : ℕ) (old new : Lanes)
      (front_old front_new : Front R) (network_old network_new : N) : Type 0 where
    pub step : Step
    pub was : Lane
    pub is : Lane
    pub there : lane_at place old ≡ Some was
    pub its : step.conn ≡ record { number = place }
    pub within : IsStepIn terms step
    pub is_step : IsStepOn step was is
    pub answers : AnswersAt step was is old
    pub ends : EndsIf terms step is result
    pub drops : DropsAs step.dropped is.stage result
    pub put : new ≡ slice_set old place (Some is)
    pub works : Works custody done (joined step.fed step.asked) step.traffic front_old front_new network_old network_new

  -- a place had its share; or that was broken off
  abbrev pub Shares : {X E : Type 0} → Result X E → Terms → ℕ → Lanes → Lanes → Front R → Front R → N → N → Type 0
  Shares (Ok _) terms place old new =
      Does (λ deeds. IsShareOf terms place (lane_at place old) deeds (lane_at place new)) old new
  Shares (Err _) terms place old new = Does OpensNone old new

  -- these places had their shares; or that was broken off
  abbrev pub ShareEach : {X E : Type 0} → Result X E → Terms → List ℕ → Lanes → Lanes → Front R → Front R → N → N
      → Type 0
  ShareEach (Ok _) terms places old new = Does (λ deeds. AreShared terms places deeds old new) old new
  ShareEach (Err _) terms places old new = Does OpensNone old new

  -- connections were taken, and then the places from `first` on had their shares
  pub record Deals (split : Bool) (terms : Terms) (board : Board) (old new : Lanes) (front_old front_new : Front R)
      (network_old network_new : N) : Type 0 where
    pub first : ℕ
    pub taken : List Deed
    pub shared : List Deed
    pub is_turn : IsTurn (turn_of terms board first taken shared) old new
    pub fit : FitAll split (taken ++ shared)
    pub works : Works custody done (calls_of (taken ++ shared)) (traffic_of (taken ++ shared)) front_old front_new
        network_old network_new

  -- the connection at a place was closed
  abbrev pub Closes : ℕ → Reason → Lanes → Lanes → Front R → Front R → N → N → Type 0
  Closes place reason old new = Does (λ deeds. deeds ≡ closes (record { number = place }) reason ∷ []) old new
