-- What a connection takes of an entry.
use Rattle.std.proofs.Common.{◌≡◌, ◌≢◌, ℕ, Bool, true, false, List, [], ◌∷◌, length, Option, refl, sym, subst, arith}
use Rattle.std.proofs.KnownBytes.{Appends-nil}
use Rattle.xa_http.specs.Stream.{Stream}
use Rattle.xa_records.specs.Keeper.{Custody}
use Rattle.xa_server.specs.Connection.{empty_stream}
use Rattle.xa_server.specs.World.{ServerModel}
use Rattle.pdpd.specs.declared.replay.heading.Heading.{Heading}
use Rattle.pdpd.specs.Replay.{ConnectionTakes, OpenTakes, StreamTakes, no_exchange}
use Rattle.pdpd.specs.running.Replaying.{Writes}

module _ {R : Type 0} (custody : R → Custody) where
  -- no bytes close it, and the next begins in its place
  pub closed : (heading : Heading) (bytes : List ℕ) (was is : Stream) (a : ServerModel R) (before : Option (List ℕ)) → length bytes ≡ 0 → is ≡ empty_stream
      → Writes before before (ConnectionTakes custody heading bytes was is a a)
  closed heading [] was is a before none new = (no_exchange, Appends-nil before, (new, refl, refl))
  closed heading (byte ∷ bytes) was is a before none new = absurd (omega (arith, none))

  -- bytes are passed over if its session has ended
  pub passed_over : (heading : Heading) (bytes : List ℕ) (was : Stream) (a : ServerModel R) (before : Option (List ℕ)) → bytes ≢ [] → was.ended ≡ true
      → Writes before before (ConnectionTakes custody heading bytes was was a a)
  passed_over heading [] was a before some over = absurd (some refl)
  passed_over heading (byte ∷ bytes) was a before some over = (
    no_exchange,
    Appends-nil before,
    subst (λ (b : Bool). OpenTakes custody b heading (byte ∷ bytes) was was a a no_exchange) (sym over) (refl, refl, refl),
  )

  -- and else taken
  pub gone_on : (heading : Heading) (bytes : List ℕ) (was is : Stream) (a b : ServerModel R) (before now : Option (List ℕ)) → bytes ≢ [] → was.ended ≡ false
      → Writes before now (StreamTakes custody heading bytes was is a b) → Writes before now (ConnectionTakes custody heading bytes was is a b)
  gone_on heading [] was is a b before now some on takes = absurd (some refl)
  gone_on heading (byte ∷ bytes) was is a b before now some on takes =
      (takes.0, takes.1, subst (λ (e : Bool). OpenTakes custody e heading (byte ∷ bytes) was is a b takes.0) (sym on) takes.2)
