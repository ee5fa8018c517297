-- What the program holds and writes while a transcript is replayed.
use Rattle.std.specs.Prelude.{◌<◌, ℕ, List, Option, Result, Ok, Err}
use Rattle.std.specs.Io.KnownBytes.{Appends}
use Rattle.xa_http.specs.Stream.{Stream}
use Rattle.xa_server.specs.Lines.{IsOpen, Lines}
use Rattle.pdpd.specs.declared.exit.Exit.{Exit}
use Rattle.pdpd.specs.declared.exit.Exit.TheVariants.{Done}
use Rattle.pdpd.specs.Replay.{Exchange}
use Rattle.pdpd.specs.running.Telling.{HasRoom}

-- how the program ends by a result
abbrev pub end_of : Result (Unit {0}) Exit → Exit
end_of (Ok _) = Done
end_of (Err exit) = exit

-- an exchange has that property, and a writer took what was written of it
abbrev pub Writes : Option (List ℕ) → Option (List ℕ) → (Exchange → Type 0) → Type 0
Writes before now is = (exchange : Exchange) × Appends before now exchange.written × is exchange

-- each connection of a transcript is open, and has room for a piece if its session goes on
unfoldable pub AreReady : Lines → Type 0
AreReady lines =
    (number : ℕ) → number < 64 → (stream : Stream) × IsOpen (record { number = number }) lines stream × HasRoom stream
