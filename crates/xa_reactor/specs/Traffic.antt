-- What has gone over a network: who was seated at its places and left them, the bytes that it gave and took there, and
-- its failures.
use Rattle.std.specs.Prelude.{◌≡◌, ◌≢◌, ◌⊎◌, ℕ, List, [], ◌∷◌, ◌++◌, take, Result, Ok, Err, nat_eq, if◌then◌else◌}
use Rattle.std.specs.IoError.{error_kind}
use Rattle.std.specs.declared.io.Error.{Error}
use Rattle.std.specs.declared.io.ErrorKind.{ErrorKind}
use Rattle.std.specs.declared.io.ErrorKind.TheVariants.{Interrupted, WouldBlock}
use Rattle.xa_reactor.specs.declared.progress.Reason.{Reason}

-- bytes that were read at a place, none if its stream has ended there; bytes that were taken there; a failure of a
-- read or a write there; a connection that was seated there; a peer there that was told that no more is sent; or a
-- connection that was closed there
pub data Traffic : Type 0 where
  received : ℕ → List ℕ → Traffic
  sent : ℕ → List ℕ → Traffic
  failed : ℕ → ErrorKind → Traffic
  seated : ℕ → Traffic
  finished : ℕ → Traffic
  vacated : ℕ → Reason → Traffic

-- what a read was, by its result and its room
abbrev pub received_by : ℕ → Result ℕ Error → List ℕ → List Traffic
received_by place (Ok count) room = received place (take count room) ∷ []
received_by place (Err error) room = failed place (error_kind error) ∷ []

-- what a write was, by its result and the bytes that it was given
abbrev pub sent_by : ℕ → Result ℕ Error → List ℕ → List Traffic
sent_by place (Ok count) bytes = sent place (take count bytes) ∷ []
sent_by place (Err error) bytes = failed place (error_kind error) ∷ []

-- the bytes that were read at a place
abbrev pub received_at : ℕ → List Traffic → List ℕ
received_at place [] = []
received_at place (received other bytes ∷ traffic) =
    (if nat_eq other place then bytes else []) ++ received_at place traffic
received_at place (_ ∷ traffic) = received_at place traffic

-- the bytes that were taken at a place
abbrev pub sent_at : ℕ → List Traffic → List ℕ
sent_at place [] = []
sent_at place (sent other bytes ∷ traffic) = (if nat_eq other place then bytes else []) ++ sent_at place traffic
sent_at place (_ ∷ traffic) = sent_at place traffic

-- where it was
abbrev pub place_of : Traffic → ℕ
place_of (received place bytes) = place
place_of (sent place bytes) = place
place_of (failed place kind) = place
place_of (seated place) = place
place_of (finished place) = place
place_of (vacated place reason) = place

-- all of it was at that place, and nobody was seated or closed there meanwhile
abbrev pub AreAt : ℕ → List Traffic → Type 0
AreAt place [] = Unit {0}
AreAt place (seated other ∷ traffic) = ⊥
AreAt place (vacated other reason ∷ traffic) = ⊥
AreAt place (one ∷ traffic) = (place_of one ≡ place) × AreAt place traffic

-- a read or a write has failed, and not because it was made too early or was interrupted; or a write took no byte
abbrev pub HasFailedIn : List Traffic → Type 0
HasFailedIn [] = ⊥
HasFailedIn (failed place kind ∷ traffic) = ((kind ≢ WouldBlock) × (kind ≢ Interrupted)) ⊎ HasFailedIn traffic
HasFailedIn (sent place [] ∷ traffic) = Unit {0}
HasFailedIn (_ ∷ traffic) = HasFailedIn traffic
