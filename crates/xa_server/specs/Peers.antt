-- Connections that are given one after another, driven to their ends, and taken back.
use Rattle.std.specs.Prelude.{◌≡◌, ℕ, ℤ, List, [], ◌∷◌, map, Option, Result, Ok, Err}
use Rattle.xa_http.specs.Stream.{Stream}
use Rattle.xa_records.specs.Keeper.{Custody}
use Rattle.xa_server.specs.Connection.{empty_stream}
use Rattle.xa_server.specs.declared.accept_error.AcceptError.{AcceptError}
use Rattle.xa_server.specs.declared.drive_end.DriveEnd.{DriveEnd}
use Rattle.xa_server.specs.Driven.{IsDrivenWithin, Known}
use Rattle.xa_server.specs.Transfers.{Grows, ReadEnd, WriteEnd}
use Rattle.xa_server.specs.World.{ServerModel}

-- what is known of a connection: the bytes that it has yet to give, and how reads of it ended; the bytes that it was
-- given, and how writes to it ended
pub record Peer : Type 0 where
  pub left : Option (List ℕ)
  pub reads : Option (List ReadEnd)
  pub contents : Option (List ℕ)
  pub writes : Option (List WriteEnd)

-- what of that is known beside the clock and the keeper
abbrev pub peer_in : Known → Peer
peer_in known =
    record { left = known.left; reads = known.reads; contents = known.contents; writes = known.writes }

-- a connection, as it was given, and as it was taken back
pub record Visit : Type 0 where
  pub came : Peer
  pub parted : Peer

module _ {P : Type 0} (given taken : P → Option (List Peer)) where
  -- these connections were given, and taken back, one after another, and no others
  pub record HasVisits (old new : P) (visits : List Visit) : Type 0 where
    pub came : Grows (given old) (given new) (map (λ visit. visit.came) visits)
    pub parted : Grows (taken old) (taken new) (map (λ visit. visit.parted) visits)

module _ {R P : Type 0} (custody : R → Custody) (given taken : P → Option (List Peer)) where
  -- the next connection was given, of which nothing had come, driven to that end, and taken back; the clock was asked
  -- for its messages alone. Or none was given, and nothing was done
  abbrev pub DrivesNext : Result DriveEnd AcceptError → ServerModel R → ServerModel R → Option (List (Option ℤ))
      → Option (List (Option ℤ)) → P → P → Type 0
  DrivesNext (Ok end) old new told told_new before after =
      (known : Known) × (known_new : Known) × (stream : Stream) × (known.told ≡ told) × (known_new.told ≡ told_new)
      × IsDrivenWithin custody 1_000_000 end (record { server = old; stream = empty_stream; known = known })
      (record { server = new; stream = stream; known = known_new })
      × HasVisits given taken before after (record { came = peer_in known; parted = peer_in known_new } ∷ [])
  DrivesNext (Err _) old new told told_new before after =
      (new ≡ old) × (told_new ≡ told) × HasVisits given taken before after []
