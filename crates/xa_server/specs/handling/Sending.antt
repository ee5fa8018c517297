-- How one reply is sent.
use Rattle.std.specs.Prelude.{◌≡◌, ℕ, List, [], ◌∷◌, ◌++◌, length, Option, Some, None}
use Rattle.std.specs.Io.KnownBytes.{Appends}
use Rattle.std.specs.List.{All}
use Rattle.xa_server.specs.Transfers.{Grows, HasFailed, IsWrittenOn, WriteEnd, bytes_taken}

-- writes were made, and what is known of the writer has grown by them
pub record HasWritten (writes : List WriteEnd) (contents_old contents_new : Option (List ℕ))
    (writes_old writes_new : Option (List WriteEnd)) : Type 0 where
  pub grows : Grows writes_old writes_new writes
  pub appends : Appends contents_old contents_new (bytes_taken writes)

-- how a write of the bytes ended, by what is left of them: there is another after it, or it failed and took nothing
abbrev pub LeavesOf : List ℕ → Option (List ℕ) → WriteEnd → Type 0
LeavesOf bytes (Some left) write = IsWrittenOn write × (bytes ≡ bytes_taken (write ∷ []) ++ left)
LeavesOf bytes None write = HasFailed write × (bytes_taken (write ∷ []) ≡ [])

-- the bytes were written once
pub record SendsOnce (bytes : List ℕ) (left : Option (List ℕ)) (contents_old contents_new : Option (List ℕ))
    (writes_old writes_new : Option (List WriteEnd)) : Type 0 where
  pub write : WriteEnd
  pub leaves : LeavesOf bytes left write
  pub written : HasWritten (write ∷ []) contents_old contents_new writes_old writes_new

-- the bytes were taken by so many writes, up to those that are left
pub record SendsPart (bytes left : List ℕ) (tried : ℕ) (contents_old contents_new : Option (List ℕ))
    (writes_old writes_new : Option (List WriteEnd)) : Type 0 where
  pub tries : List WriteEnd
  pub on : All IsWrittenOn tries
  pub counted : length tries ≡ tried
  pub part : bytes ≡ bytes_taken tries ++ left
  pub written : HasWritten tries contents_old contents_new writes_old writes_new
