-- Connections that are given one after another, and taken back.
use Rattle.std.proofs.Common.{◌≡◌, List, [], ◌∷◌, ◌++◌, map, Option, Ok, refl, sym, subst}
use Rattle.std.proofs.lemmas.List.{map-append}
use Rattle.xa_http.specs.Stream.{Stream}
use Rattle.xa_records.specs.Keeper.{Custody}
use Rattle.xa_server.specs.Connection.{empty_stream}
use Rattle.xa_server.specs.declared.drive_end.DriveEnd.{DriveEnd}
use Rattle.xa_server.specs.Driven.{IsDrivenWithin, Known}
use Rattle.xa_server.specs.Peers.{DrivesNext, HasVisits, Peer, Visit, peer_in}
use Rattle.xa_server.specs.Transfers.{Grows}
use Rattle.xa_server.specs.World.{ServerModel}
use Rattle.xa_server.proofs.TransferLemmas.{grows_none, grows_trans}

module _ {P : Type 0} (came parted : P → Option (List Peer)) where
  -- one, of which that is known
  pub visited_one : (p q r : P) (was is : Peer) → Grows (came p) (came q) (was ∷ []) → parted q ≡ parted p
      → came r ≡ came q → Grows (parted q) (parted r) (is ∷ [])
      → HasVisits came parted p r (record { came = was; parted = is } ∷ [])
  visited_one p q r was is comes stays keeps parts = record {
    came = subst (λ (l : Option (List Peer)). Grows (came p) l (was ∷ [])) (sym keeps) comes;
    parted = subst (λ (l : Option (List Peer)). Grows l (parted r) (is ∷ [])) stays parts;
  }

  pub visited_none : (p q : P) → came q ≡ came p → parted q ≡ parted p → HasVisits came parted p q []
  visited_none p q comes parts = record {
    came = subst (λ (l : Option (List Peer)). Grows (came p) l []) (sym comes) (grows_none (came p));
    parted = subst (λ (l : Option (List Peer)). Grows (parted p) l []) (sym parts) (grows_none (parted p));
  }

  pub visited_on : (p q r : P) (vs ws : List Visit) → HasVisits came parted p q vs → HasVisits came parted q r ws
      → HasVisits came parted p r (vs ++ ws)
  visited_on p q r vs ws first later = record {
    came = rw (map-append (λ (v : Visit). v.came) vs ws)
        (grows_trans (came p) (came q) (came r) (map (λ (v : Visit). v.came) vs) (map (λ (v : Visit). v.came) ws)
        first.came later.came);
    parted = rw (map-append (λ (v : Visit). v.parted) vs ws)
        (grows_trans (parted p) (parted q) (parted r) (map (λ (v : Visit). v.parted) vs)
        (map (λ (v : Visit). v.parted) ws) first.parted later.parted);
  }

module _ {R P : Type 0} (custody : R → Custody) (came parted : P → Option (List Peer)) where
  -- the next was given, driven, and taken back
  pub driven_next : (end : DriveEnd) (old new : ServerModel R) (begun after : Stream) (known known_new : Known)
      (p q r : P) → begun ≡ empty_stream
      → IsDrivenWithin custody 1_000_000 end (record { server = old; stream = begun; known = known })
      (record { server = new; stream = after; known = known_new }) → Grows (came p) (came q) (peer_in known ∷ [])
      → parted q ≡ parted p → came r ≡ came q → Grows (parted q) (parted r) (peer_in known_new ∷ [])
      → DrivesNext custody came parted (Ok end) old new known.told known_new.told p r
  driven_next end old new begun after known known_new p q r empty driven comes stays keeps parts = (
    known,
    known_new,
    after,
    refl,
    refl,
    subst (λ (s : Stream). IsDrivenWithin custody 1_000_000 end (record { server = old; stream = s; known = known })
        (record { server = new; stream = after; known = known_new })) empty driven,
    visited_one came parted p q r (peer_in known) (peer_in known_new) comes stays keeps parts,
  )
