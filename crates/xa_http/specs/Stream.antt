-- What a session holds of its stream.
use Rattle.std.specs.Prelude.{ℕ, List, ◌++◌, Bool}

-- the bytes that have come and belong to no message that was cut off, and whether the session has ended
pub record Stream : Type 0 where
  pub held : List ℕ
  pub ended : Bool

-- a piece comes to what is held
abbrev pub fed : Stream → List ℕ → Stream
fed stream piece = record stream { held = stream.held ++ piece }
