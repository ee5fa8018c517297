-- Who is taken, and who has to go for it.
use Rattle.std.proofs.Common.{◌≡◌, ◌≢◌, ◌≤◌, ◌<◌, ◌⊎◌, inl, inr, ℕ, zero, suc, Bool, true, false, List, [], ◌∷◌, ◌++◌, length, get_or, set, Option, Some, None, Result, Ok, Err, IsTrue, slice_set, refl, sym, ap, subst, ◌∙◌, arith}
use Rattle.std.proofs.lemmas.Bool.{cases_eq}
use Rattle.std.proofs.lemmas.List.{get_or-set_other, set-set}
use Rattle.xa_records.specs.Keeper.{Custody}
use Rattle.xa_server.specs.declared.event.Event.TheVariants as event
use Rattle.xa_server.specs.declared.event.Outcome.TheVariants as outcome
use Rattle.xa_server.specs.declared.front.Front.{Front}
use Rattle.xa_server.specs.declared.front_error.FrontError.{FrontError}
use Rattle.xa_server.specs.declared.front_error.FrontError.TheVariants.{Memory, NoSuchConnection, TooManyConnections, Full}
use Rattle.xa_server.specs.declared.lines.Conn.{Conn}
use Rattle.xa_server.specs.Lines.{IsClosed, IsOpened, Lines, first_free, line_at, with_line}
use Rattle.xa_server.specs.Transfers.{Grows}
use Rattle.xa_server.proofs.PlayLemmas.{unasked_played}
use Rattle.xa_reactor.specs.declared.access.Access.{Access}
use Rattle.xa_reactor.specs.declared.access.Access.TheVariants.{All, Asks, Changes}
use Rattle.xa_reactor.specs.declared.board.Board.{Board}
use Rattle.xa_reactor.specs.declared.board.Ready.{Ready}
use Rattle.xa_reactor.specs.declared.lane.Lane.{Lane}
use Rattle.xa_reactor.specs.declared.progress.Reason.{Reason}
use Rattle.xa_reactor.specs.declared.progress.Reason.TheVariants.{Ended, Failed, Idle, Late, DrivenOut, WantOfMemory}
use Rattle.xa_reactor.specs.Timing.{IsFresh, left_of}
use Rattle.xa_reactor.specs.Traffic.{Traffic, seated, vacated}
use Rattle.xa_reactor.specs.Turn.{AreAlike, AreDone, AreOpen, AreTaken, Deed, FitAll, Fits, HasChanges, HasCome, IsForChanges, IsFullFor, IsIdleSince, IsIdlest, Lanes, MayCome, MayGo, OpensAt, calls_in, closes, free_in, lane_at, opens, ready_at, steps}
use Rattle.xa_reactor.specs.handling.Going.{Makes}
use Rattle.xa_reactor.specs.handling.Taking.{Follows, IsRoom, Opens, TakesOn}
use Rattle.xa_reactor.specs.handling.Turning.{Closes, TakesSome}
use Rattle.xa_reactor.proofs.AlikeLemmas.{alike_at, alike_first, first_alone, some_free, some_lane, some_line, within}
use Rattle.xa_reactor.proofs.DeedLemmas.{does_more, does_none, done_one, fit_on}
use Rattle.xa_reactor.proofs.WorksLemmas.{makes_one, works_of}

-- ---- who may go

-- the one that has been idle for the longest time may go, if no place is free for another and that is long enough
pub may_go : (board : Board) (now place since : ℕ) (access : Access) (lanes : Lanes) → IsFullFor access lanes → IsIdlest board lanes place since
    → left_of 100_000_000 since now ≡ 0 → MayGo board now place access lanes
may_go board now place since access lanes full idlest none = record {
  full = full;
  since = since;
  idlest = idlest;
  long = omega (arith, none);
}

-- one that is idle is there
idle_there : (lane : Option Lane) (since : ℕ) → IsIdleSince lane since → (is : Lane) × (lane ≡ Some is)
idle_there None since none = absurd none
idle_there (Some lane) since idle = (lane, refl)

some_not_none : (lane : Option Lane) (is : Lane) → lane ≡ Some is → lane ≢ None
some_not_none lane is there none = let e : Some is ≡ None = sym there ∙ none in absurd cc

-- one that may go is there, and its place is one of them
pub goes_there : (board : Board) (now place : ℕ) (access : Access) (lanes : Lanes) → MayGo board now place access lanes → lane_at place lanes ≢ None
goes_there board now place access lanes goes =
    let it = idle_there (lane_at place lanes) goes.since goes.idlest.idle in some_not_none (lane_at place lanes) it.0 it.1

goes_within : (board : Board) (now place : ℕ) (access : Access) (lanes : Lanes) → MayGo board now place access lanes → place < length lanes
goes_within board now place access lanes goes =
    let it = idle_there (lane_at place lanes) goes.since goes.idlest.idle in within lanes place it.0 it.1

-- ---- what is known to be ready, since the turn began

pub follows_none : (board : Board) (now : ℕ) (lanes : Lanes) → Follows board board now lanes
follows_none board now lanes = record { at = λ place. inl refl }

-- by another board, and other connections, that are the same where it matters
follows_same : (first board other : Board) (now : ℕ) (lanes : Lanes) → other.ready ≡ board.ready → Follows first board now lanes → Follows first other now lanes
follows_same first board other now lanes same follows = record {
  at = λ place.
      subst (λ (ready : List Ready). (get_or ready place (record { readable = false; writable = false; ends = false }) ≡ ready_at first place)
      ⊎ ((since : ℕ) → IsIdleSince (lane_at place lanes) since → now ≤ since)) (sym same) (follows.at place);
}

none_set : (lanes : Lanes) (n : ℕ) → get_or (set lanes n None) n None ≡ None
none_set [] n = refl
none_set (lane ∷ lanes) zero = refl
none_set (lane ∷ lanes) (suc n) = none_set lanes n

-- one was closed
pub follows_closed : (first board other : Board) (now n : ℕ) (old new : Lanes) → other ≡ board → new ≡ slice_set old n None → Follows first board now old → Follows first other now new
follows_closed first board other now n old new same put follows =
    subst (λ (b : Board). Follows first b now new) (sym same)
    (subst (λ (lanes : Lanes). Follows first board now lanes) (sym put) (record { at = λ place. by_place place (cases_eq place n) }))
  where
    nobody : (place : ℕ) → place ≡ n → (since : ℕ) → IsIdleSince (lane_at place (slice_set old n None)) since → now ≤ since
    nobody place is since idle =
        absurd (subst (λ (lane : Option Lane). IsIdleSince lane since) (none_set old n) (subst (λ (k : ℕ). IsIdleSince (get_or (set old n None) k None) since) is idle))

    by_place : (place : ℕ) → (place ≡ n) ⊎ (place ≡ n → ⊥)
        → (ready_at board place ≡ ready_at first place) ⊎ ((since : ℕ) → IsIdleSince (lane_at place (slice_set old n None)) since → now ≤ since)
    by_place place (inl is) = inr (nobody place is)
    by_place place (inr apart) =
        subst (λ (lane : Option Lane). (ready_at board place ≡ ready_at first place) ⊎ ((since : ℕ) → IsIdleSince lane since → now ≤ since))
        (sym (get_or-set_other old n place None None apart)) (follows.at place)

fresh_set : (lanes : Lanes) (n now : ℕ) (lane : Lane) → IsFresh now lane → (since : ℕ) → IsIdleSince (get_or (set lanes n (Some lane)) n None) since → now ≤ since
fresh_set [] n now lane fresh since none = absurd none
fresh_set (first ∷ lanes) zero now lane fresh since idle = omega (arith, fresh.2, idle.0.2)
fresh_set (first ∷ lanes) (suc n) now lane fresh since idle = fresh_set lanes n now lane fresh since idle

-- one was opened
pub follows_opened : (first board other : Board) (now n : ℕ) (ready : Ready) (lane : Lane) (old new : Lanes) → other ≡ record board { ready = slice_set board.ready n ready }
    → IsFresh now lane → new ≡ slice_set old n (Some lane) → Follows first board now old → Follows first other now new
follows_opened first board other now n ready lane old new noted fresh put follows =
    subst (λ (b : Board). Follows first b now new) (sym noted)
    (subst (λ (lanes : Lanes). Follows first (record board { ready = slice_set board.ready n ready }) now lanes) (sym put) (record { at = λ place. by_place place (cases_eq place n) }))
  where
    by_place : (place : ℕ) → (place ≡ n) ⊎ (place ≡ n → ⊥)
        → (ready_at (record board { ready = slice_set board.ready n ready }) place ≡ ready_at first place)
        ⊎ ((since : ℕ) → IsIdleSince (lane_at place (slice_set old n (Some lane))) since → now ≤ since)
    by_place place (inl is) =
        inr (λ since idle. fresh_set old n now lane fresh since (subst (λ (k : ℕ). IsIdleSince (get_or (set old n (Some lane)) k None) since) is idle))
    by_place place (inr apart) =
        subst (λ (other_lane : Option Lane). (ready_at (record board { ready = slice_set board.ready n ready }) place ≡ ready_at first place)
        ⊎ ((since : ℕ) → IsIdleSince other_lane since → now ≤ since))
        (sym (get_or-set_other old n place (Some lane) None apart))
        (subst (λ (is : Ready). (is ≡ ready_at first place) ⊎ ((since : ℕ) → IsIdleSince (lane_at place old) since → now ≤ since))
        (sym (get_or-set_other board.ready n place ready (record { readable = false; writable = false; ends = false }) apart)) (follows.at place))

-- who may go by what is known now may go by what was known first
pub goes_first : (first board : Board) (now place : ℕ) (access : Access) (lanes : Lanes) → Follows first board now lanes → MayGo board now place access lanes → MayGo first now place access lanes
goes_first first board now place access lanes follows goes = record {
  full = goes.full;
  since = goes.since;
  idlest = record {
    idle = goes.idlest.idle;
    silent = λ come. silent_by come (follows.at place);
    longest = λ other earlier idle. longest_by other earlier idle (goes.idlest.longest other earlier idle) (follows.at other);
  };
  long = goes.long;
}
  where
    silent_by : HasCome first place → (ready_at board place ≡ ready_at first place) ⊎ ((since : ℕ) → IsIdleSince (lane_at place lanes) since → now ≤ since) → ⊥
    silent_by come (inl same) = goes.idlest.silent (subst (λ (ready : Ready). ready.readable ≡ true) (sym same) come)
    silent_by come (inr late) = omega (arith, late goes.since goes.idlest.idle, goes.long)

    longest_by : (other earlier : ℕ) → IsIdleSince (lane_at other lanes) earlier → (goes.since ≤ earlier) ⊎ HasCome board other
        → (ready_at board other ≡ ready_at first other) ⊎ ((since : ℕ) → IsIdleSince (lane_at other lanes) since → now ≤ since)
        → (goes.since ≤ earlier) ⊎ HasCome first other
    longest_by other earlier idle (inl longer) known = inl longer
    longest_by other earlier idle (inr come) (inl same) = inr (subst (λ (ready : Ready). ready.readable ≡ true) same come)
    longest_by other earlier idle (inr come) (inr late) = inl (omega (arith, late earlier idle, goes.long))

-- ---- what was taken

-- some, and others after them
taken_on : (board : Board) (now : ℕ) (deeds more : List Deed) (old mid new : Lanes) → AreTaken board now deeds old mid → AreTaken board now more mid new
    → AreTaken board now (deeds ++ more) old new
taken_on board now [] more old mid new same later = subst (λ (lanes : Lanes). AreTaken board now more lanes new) same later
taken_on board now (opens conn access ∷ deeds) more old mid new (lane, free, fresh, rest) later =
    (lane, free, fresh, taken_on board now deeds more (slice_set old conn.number (Some lane)) mid new rest later)
taken_on board now (steps step ∷ deeds) more old mid new none later = absurd none
taken_on board now (closes conn DrivenOut ∷ opens other access ∷ deeds) more old mid new (lane, goes, same, fresh, rest) later =
    (lane, goes, same, fresh, taken_on board now deeds more (slice_set (slice_set old conn.number None) other.number (Some lane)) mid new rest later)
taken_on board now (closes conn DrivenOut ∷ []) more old mid new none later = absurd none
taken_on board now (closes conn DrivenOut ∷ steps step ∷ deeds) more old mid new none later = absurd none
taken_on board now (closes conn DrivenOut ∷ closes other reason ∷ deeds) more old mid new none later = absurd none
taken_on board now (closes conn Ended ∷ deeds) more old mid new none later = absurd none
taken_on board now (closes conn Failed ∷ deeds) more old mid new none later = absurd none
taken_on board now (closes conn WantOfMemory ∷ deeds) more old mid new none later = absurd none
taken_on board now (closes conn Idle ∷ deeds) more old mid new none later = absurd none
taken_on board now (closes conn Late ∷ deeds) more old mid new none later = absurd none

-- the one that was opened is taken
opened_taken : (board : Board) (now : ℕ) (deeds : List Deed) (conn : Conn) (access : Access) (lane : Lane) (old new : Lanes) → lane_at conn.number old ≡ None → IsFresh now lane
    → new ≡ slice_set old conn.number (Some lane) → deeds ≡ opens conn access ∷ [] → AreTaken board now deeds old new
opened_taken board now deeds conn access lane old new free fresh put are =
    subst (λ (ds : List Deed). AreTaken board now ds old new) (sym are) (lane, free, fresh, put)

same_number : (conn : Conn) (place : ℕ) (found : Option ℕ) → found ≡ Some place → found ≡ Some conn.number → conn ≡ record { number = place }
same_number conn place found is at =
    let e : Some place ≡ Some conn.number = sym is ∙ at in
    let n : conn.number ≡ place = cc in
    ap (λ (number : ℕ). record { number = number }) n

-- one was driven out, and another was opened: at the same place, if no other is free
replaced_taken : (board : Board) (now place : ℕ) (access : Access) (deeds more : List Deed) (conn : Conn) (lane : Lane) (old mid new : Lanes) → MayGo board now place access old
    → mid ≡ slice_set old place None → (AreOpen old → conn ≡ record { number = place }) → IsFresh now lane → new ≡ slice_set mid conn.number (Some lane)
    → deeds ≡ closes (record { number = place }) DrivenOut ∷ [] → more ≡ opens conn access ∷ [] → AreTaken board now (deeds ++ more) old new
replaced_taken board now place access deeds more conn lane old mid new goes closed same fresh put are others =
    subst (λ (ds : List Deed). AreTaken board now ds old new)
    (sym (ap (λ (ds : List Deed). ds ++ more) are ∙ ap (λ (ds : List Deed). closes (record { number = place }) DrivenOut ∷ ds) others))
    (lane, goes, same, fresh, put ∙ ap (λ (ls : Lanes). slice_set ls conn.number (Some lane)) closed)

-- who is opened comes at the address that fits
opened_fit : (split : Bool) (conn : Conn) (access : Access) (deeds : List Deed) → Fits split access → deeds ≡ opens conn access ∷ [] → FitAll split deeds
opened_fit split conn access deeds fits are = subst (λ (ds : List Deed). FitAll split ds) (sym are) (fits, tt)

closed_fit : (split : Bool) (place : ℕ) (reason : Reason) (deeds : List Deed) → deeds ≡ closes (record { number = place }) reason ∷ [] → FitAll split deeds
closed_fit split place reason deeds are = subst (λ (ds : List Deed). FitAll split ds) (sym are) tt

-- a front refuses to open a connection only if all are open
pub full_if_refused : (old new : Lines) (error : FrontError) → IsOpened old (Err error) new → first_free old ≡ None
full_if_refused old new TooManyConnections is = is.0
full_if_refused old new _ none = absurd none

-- a connection of the front that was open was closed
finished_well : (conn : Conn) (result : Result (Unit {0}) FrontError) (old new : Lines) → line_at conn old ≢ None
    → IsClosed conn old result new → (result ≡ Ok tt) × (new ≡ with_line conn None old)
finished_well conn (Ok tt) old new there is = (refl, is.2)
finished_well conn (Err NoSuchConnection) old new there is = absurd (there is.0)
finished_well conn (Err Memory) old new there none = absurd none
finished_well conn (Err TooManyConnections) old new there none = absurd none
finished_well conn (Err Full) old new there none = absurd none

pub finished_lines : (conn : Conn) (result : Result (Unit {0}) FrontError) (old new : Lines) → line_at conn old ≢ None
    → IsClosed conn old result new → new ≡ with_line conn None old
finished_lines conn result old new there is = (finished_well conn result old new there is).1

-- each was one call
module _ {R : Type 0} (custody : R → Custody) (is_open : (s : R) → (custody s).sound → IsTrue (custody s).is_open) where
  pub begun_makes : (conn : Conn) (old new : Front R) → IsOpened old.lines (Ok conn) new.lines → new.server ≡ old.server
      → (access : Access) → Makes custody (calls_in (opens conn access)) old new
  begun_makes conn old new is same access =
      makes_one custody event.Begin (outcome.Begun (Ok conn)) old new
      (unasked_played custody is_open old new event.Begin (outcome.Begun (Ok conn)) (refl, is) same)

  pub finished_makes : (conn : Conn) (result : Result (Unit {0}) FrontError) (old new : Front R)
      → line_at conn old.lines ≢ None → IsClosed conn old.lines result new.lines → new.server ≡ old.server
      → (reason : Reason) → Makes custody (calls_in (closes conn reason)) old new
  finished_makes conn result old new there is same reason =
      let well = finished_well conn result old.lines new.lines there is in
      makes_one custody (event.Finish conn) (outcome.Finished (Ok tt)) old new
      (unasked_played custody is_open old new (event.Finish conn) (outcome.Finished (Ok tt)) (refl, rw well.0 at is) same)

put_by : (place : ℕ) (reason : Reason) (deeds : List Deed) (old new : Lanes) → deeds ≡ closes (record { number = place }) reason ∷ [] → AreDone deeds old new
    → new ≡ slice_set old place None
put_by place reason deeds old new are done =
    let (mid, (lane, there, put), same) = subst (λ (ds : List Deed). AreDone ds old new) are done in same ∙ put

module _ {R N : Type 0} (custody : R → Custody) (done : N → Option (List Traffic)) (is_open : (s : R) → (custody s).sound → IsTrue (custody s).is_open) where
  -- the connection at a place was closed
  pub closed : (place : ℕ) (reason : Reason) (old new : Lanes) (front_old front_new : Front R) (network_old network_new : N) → lane_at place old ≢ None
      → new ≡ slice_set old place None → Makes custody (calls_in (closes (record { number = place }) reason)) front_old front_new
      → Grows (done network_old) (done network_new) (vacated place reason ∷ []) → Closes custody done place reason old new front_old front_new network_old network_new
  closed place reason old new front_old front_new network_old network_new there put makes leaves =
      let lane = some_lane (lane_at place old) there in
      record {
        deeds = closes (record { number = place }) reason ∷ [];
        are_so = refl;
        are_done = done_one (closes (record { number = place }) reason) old new (lane.0, lane.1, put);
        works =
            works_of custody is_open done (calls_in (closes (record { number = place }) reason)) (vacated place reason ∷ []) front_old front_new network_old network_new makes
            leaves;
      }

  -- and nobody is there then
  pub closed_lanes : (place : ℕ) (reason : Reason) (old new : Lanes) (front_old front_new : Front R) (network_old network_new : N)
      → Closes custody done place reason old new front_old front_new network_old network_new → new ≡ slice_set old place None
  closed_lanes place reason old new front_old front_new network_old network_new it = put_by place reason it.deeds old new it.are_so it.are_done

  -- one was opened
  pub opened : (access : Access) (now : ℕ) (conn : Conn) (lane : Lane) (old new : Lanes) (front_old front_new : Front R) (network_old network_new : N) → AreAlike old front_old.lines
      → first_free front_old.lines ≡ Some conn.number → IsFresh now lane → OpensAt access lane old → new ≡ slice_set old conn.number (Some lane)
      → Makes custody (calls_in (opens conn access)) front_old front_new → Grows (done network_old) (done network_new) (seated conn.number ∷ [])
      → Opens custody done access now old new front_old front_new network_old network_new
  opened access now conn lane old new front_old front_new network_old network_new alike first fresh at put makes sits =
      let free = alike_first old front_old.lines conn.number alike first in
      record {
        deeds = opens conn access ∷ [];
        are_so = (conn, lane, first, free, fresh, put, refl);
        are_done = done_one (opens conn access) old new (lane, free, at, put);
        works =
            works_of custody is_open done (calls_in (opens conn access)) (seated conn.number ∷ []) front_old front_new network_old network_new makes
            sits;
      }

  module _ (split : Bool) where
    -- none was taken
    pub takes_none : (board : Board) (now : ℕ) (old new : Lanes) (front_old front_new : Front R) (network_old network_new : N) → new ≡ old → front_new ≡ front_old
        → done network_new ≡ done network_old → TakesSome custody done split board now old new front_old front_new network_old network_new
    takes_none board now old new front_old front_new network_old network_new lanes front network =
        does_none custody done is_open (λ deeds. AreTaken board now deeds old new × FitAll split deeds) old new front_old front_new network_old network_new (lanes, tt) lanes front network

    -- some were, and others after them
    takes_more : (board : Board) (now : ℕ) (old mid new : Lanes) (front_old front_mid front_new : Front R) (network_old network_mid network_new : N)
        → TakesSome custody done split board now old mid front_old front_mid network_old network_mid
        → TakesSome custody done split board now mid new front_mid front_new network_mid network_new
        → TakesSome custody done split board now old new front_old front_new network_old network_new
    takes_more board now old mid new front_old front_mid front_new network_old network_mid network_new first later =
        does_more custody done is_open (λ deeds. AreTaken board now deeds old mid × FitAll split deeds) (λ deeds. AreTaken board now deeds mid new × FitAll split deeds)
        (λ deeds. AreTaken board now deeds old new × FitAll split deeds) old mid new front_old front_mid front_new network_old network_mid network_new
        (λ deeds others are so. (taken_on board now deeds others old mid new are.0 so.0, fit_on split deeds others are.1 so.1)) first later

    -- one was, at a free place
    takes_opened : (access : Access) (board : Board) (now : ℕ) (old new : Lanes) (front_old front_new : Front R) (network_old network_new : N) → Fits split access
        → Opens custody done access now old new front_old front_new network_old network_new → TakesSome custody done split board now old new front_old front_new network_old network_new
    takes_opened access board now old new front_old front_new network_old network_new fits one = record {
      deeds = one.deeds;
      are_so = (
        opened_taken board now one.deeds one.are_so.0 access one.are_so.1 old new one.are_so.3 one.are_so.4 one.are_so.5 one.are_so.6,
        opened_fit split one.are_so.0 access one.deeds fits one.are_so.6,
      );
      are_done = one.are_done;
      works = one.works;
    }

    -- or where one was driven out for it
    takes_replaced : (access : Access) (board : Board) (now place : ℕ) (old mid new : Lanes) (front_old front_mid front_new : Front R) (network_old network_mid network_new : N) → Fits split access
        → MayGo board now place access old → mid ≡ slice_set old place None → (AreOpen old → first_free front_mid.lines ≡ Some place)
        → Closes custody done place DrivenOut old mid front_old front_mid network_old network_mid
        → Opens custody done access now mid new front_mid front_new network_mid network_new
        → TakesSome custody done split board now old new front_old front_new network_old network_new
    takes_replaced access board now place old mid new front_old front_mid front_new network_old network_mid network_new fits goes put first gone come =
        let it = come.are_so in
        does_more custody done is_open (λ deeds. deeds ≡ gone.deeds) (λ deeds. deeds ≡ come.deeds) (λ deeds. AreTaken board now deeds old new × FitAll split deeds) old mid new
        front_old front_mid front_new network_old network_mid network_new
        (λ deeds others are so. (
          replaced_taken board now place access deeds others it.0 it.1 old mid new goes put
              (λ all. same_number it.0 place (first_free front_mid.lines) (first all) it.2) it.4 it.5 (are ∙ gone.are_so) (so ∙ it.6),
          fit_on split deeds others (closed_fit split place DrivenOut deeds (are ∙ gone.are_so)) (opened_fit split it.0 access others fits (so ∙ it.6)),
        ))
        (record { deeds = gone.deeds; are_so = refl; are_done = gone.are_done; works = gone.works })
        (record { deeds = come.deeds; are_so = refl; are_done = come.are_done; works = come.works })

    -- ---- the same, whatever was known to be ready first

    pub on_none : (now : ℕ) (board_old board_new : Board) (old new : Lanes) (front_old front_new : Front R) (network_old network_new : N) → board_new.ready ≡ board_old.ready → new ≡ old
        → front_new ≡ front_old → done network_new ≡ done network_old → TakesOn custody done split now board_old board_new old new front_old front_new network_old network_new
    on_none now board_old board_new old new front_old front_new network_old network_new board lanes front network = record {
      takes = λ first follows. takes_none first now old new front_old front_new network_old network_new lanes front network;
      follows = λ first follows.
          follows_same first board_old board_new now new board (subst (λ (ls : Lanes). Follows first board_old now ls) (sym lanes) follows);
    }

    pub on_more : (now : ℕ) (board_old board_mid board_new : Board) (old mid new : Lanes) (front_old front_mid front_new : Front R) (network_old network_mid network_new : N)
        → TakesOn custody done split now board_old board_mid old mid front_old front_mid network_old network_mid
        → TakesOn custody done split now board_mid board_new mid new front_mid front_new network_mid network_new
        → TakesOn custody done split now board_old board_new old new front_old front_new network_old network_new
    on_more now board_old board_mid board_new old mid new front_old front_mid front_new network_old network_mid network_new before later = record {
      takes = λ first follows.
          takes_more first now old mid new front_old front_mid front_new network_old network_mid network_new (before.takes first follows)
          (later.takes first (before.follows first follows));
      follows = λ first follows. later.follows first (before.follows first follows);
    }

    pub on_opened : (access : Access) (now : ℕ) (board_old board_new : Board) (old new : Lanes) (front_old front_new : Front R) (network_old network_new : N) → Fits split access
        → Opens custody done access now old new front_old front_new network_old network_new
        → ((first : Board) → Follows first board_old now old → Follows first board_new now new)
        → TakesOn custody done split now board_old board_new old new front_old front_new network_old network_new
    on_opened access now board_old board_new old new front_old front_new network_old network_new fits one follows =
        record { takes = λ first known. takes_opened access first now old new front_old front_new network_old network_new fits one; follows = follows }

    pub on_replaced : (access : Access) (now place : ℕ) (board_old board_mid board_new : Board) (old mid new : Lanes) (front_old front_mid front_new : Front R)
        (network_old network_mid network_new : N) → Fits split access
        → MayGo board_old now place access old → board_mid ≡ board_old → mid ≡ slice_set old place None → (AreOpen old → first_free front_mid.lines ≡ Some place)
        → Closes custody done place DrivenOut old mid front_old front_mid network_old network_mid
        → Opens custody done access now mid new front_mid front_new network_mid network_new
        → ((first : Board) → Follows first board_mid now mid → Follows first board_new now new)
        → TakesOn custody done split now board_old board_new old new front_old front_new network_old network_new
    on_replaced access now place board_old board_mid board_new old mid new front_old front_mid front_new network_old network_mid network_new fits goes same put free gone come follows = record {
      takes = λ first known.
          takes_replaced access first now place old mid new front_old front_mid front_new network_old network_mid network_new fits
          (goes_first first board_old now place access old known goes) put free gone come;
      follows = λ first known. follows first (follows_closed first board_old board_mid now place old mid same put known);
    }

    -- from the beginning of the turn on
    pub from_first : (now : ℕ) (board_old board_new : Board) (old new : Lanes) (front_old front_new : Front R) (network_old network_new : N)
        → TakesOn custody done split now board_old board_new old new front_old front_new network_old network_new
        → TakesSome custody done split board_old now old new front_old front_new network_old network_new
    from_first now board_old board_new old new front_old front_new network_old network_new taken = taken.takes board_old (follows_none board_old now old)

-- ---- the places, and the connections of the front

-- the connection of the front is open where one may be closed
pub line_there : (place : ℕ) (lanes : Lanes) (lines : Lines) → AreAlike lanes lines → lane_at place lanes ≢ None → line_at (record { number = place }) lines ≢ None
line_there place lanes lines alike there none =
    let line = some_line (lane_at place lanes) (line_at (record { number = place }) lines) (alike_at lanes lines place alike) there in
    let e : None ≡ Some line.0 = sym none ∙ line.1 in absurd cc

-- where all were taken and one is driven out, its place is the least that is free
pub first_driven : (board : Board) (now place : ℕ) (access : Access) (old new : Lanes) (lines : Lines) → MayGo board now place access old → new ≡ slice_set old place None → AreAlike new lines
    → AreOpen old → first_free lines ≡ Some place
first_driven board now place access old new lines goes put alike all =
    first_alone old lines place all (goes_within board now place access old goes) (subst (λ (lanes : Lanes). AreAlike lanes lines) put alike)

set_length : (lanes : Lanes) (n : ℕ) (lane : Option Lane) → length (set lanes n lane) ≡ length lanes
set_length [] n lane = refl
set_length (one ∷ lanes) zero lane = refl
set_length (one ∷ lanes) (suc n) lane = ap suc (set_length lanes n lane)

-- where one was driven out, one can be opened
pub driven_free : (board : Board) (now place : ℕ) (access : Access) (old new : Lanes) (lines : Lines) → MayGo board now place access old → new ≡ slice_set old place None → AreAlike new lines
    → first_free lines ≢ None
driven_free board now place access old new lines goes put alike =
    some_free new lines place alike
    (subst (λ (ls : Lanes). place < length ls) (sym put) (omega (arith, set_length old place None, goes_within board now place access old goes)))
    (ap (lane_at place) put ∙ none_set old place)

-- where nobody is, one can be opened
pub room_free : (board : Board) (now : ℕ) (access : Access) (lanes : Lanes) (lines : Lines) → AreAlike lanes lines → IsRoom board now None access lanes → first_free lines ≢ None
room_free board now access lanes lines alike (place, inside, none, may) = some_free lanes lines place alike inside none

-- ---- for whom a place is free, once one was driven out

set_free : (lanes : Lanes) (n : ℕ) (lane : Lane) → lane_at n lanes ≡ Some lane → free_in (set lanes n None) ≡ suc (free_in lanes)
set_free [] n lane there = let e : None ≡ Some lane = there in absurd cc
set_free (None ∷ lanes) zero lane there = let e : None ≡ Some lane = there in absurd cc
set_free (Some one ∷ lanes) zero lane there = omega arith
set_free (None ∷ lanes) (suc n) lane there = omega (arith, set_free lanes n lane there)
set_free (Some one ∷ lanes) (suc n) lane there = omega (arith, set_free lanes n lane there)

some_access : {x y : Lane} → Some x ≡ Some y → x ≡ y
some_access e = cc

-- the one that came at the address for changes is there still, if another was driven out
changes_kept : (lanes : Lanes) (n : ℕ) (lane : Lane) → lane_at n lanes ≡ Some lane → lane.access ≢ Changes → HasChanges lanes → HasChanges (set lanes n None)
changes_kept [] n lane there other none = none
changes_kept (one ∷ lanes) zero lane there other (inl is) =
    absurd (other (subst (λ (l : Option Lane). IsForChanges l) there is))
changes_kept (one ∷ lanes) zero lane there other (inr has) = inr has
changes_kept (one ∷ lanes) (suc n) lane there other (inl is) = inl is
changes_kept (one ∷ lanes) (suc n) lane there other (inr has) = inr (changes_kept lanes n lane there other has)

-- who is driven out didn't come there
idle_other : (lane : Option Lane) (since : ℕ) (is : Lane) → lane ≡ Some is → IsIdleSince lane since → is.access ≢ Changes
idle_other None since is there none = absurd none
idle_other (Some lane) since is there idle = λ access. idle.1 (ap (λ (l : Lane). l.access) (some_access there) ∙ access)

-- so another may come
pub may_after : (board : Board) (now place : ℕ) (access : Access) (old new : Lanes) → MayGo board now place access old → new ≡ slice_set old place None → MayCome access new
may_after board now place All old new goes put = tt
may_after board now place Changes old new goes put = absurd goes.full
may_after board now place Asks old new goes put = by_full goes.full where
  there : (is : Lane) × (lane_at place old ≡ Some is)
  there = idle_there (lane_at place old) goes.since goes.idlest.idle

  by_full : IsFullFor Asks old → MayCome Asks new
  by_full (inl (has, all)) =
      inl (subst (λ (lanes : Lanes). HasChanges lanes) (sym put)
      (changes_kept old place there.0 there.1 (idle_other (lane_at place old) goes.since there.0 there.1 goes.idlest.idle) has))
  by_full (inr (none, one)) = inr (omega (arith, ap free_in put ∙ set_free old place there.0 there.1, one))
