-- Which half of a store isn't there: its file, or the log beside it.
use Rattle.std.specs.Prelude.{ℕ, Bool, true, false, nat_eq, nat_le, ◌&&◌, if◌then◌else◌, Option, Some, None}
use Rattle.pdpd.specs.declared.store.halves.Halves.{Halves}
use Rattle.pdpd.specs.declared.store.halves.Halves.TheVariants.{FileAlone, LogAlone, NoLog, Whole}

-- which halves of a store are there, by the length of the file, 0 if it isn't there; by the length of the log, if it is
-- there; and by whether the file has its commits in a log first. A log of fewer than 56 bytes has no room for a commit
-- (SQLite's file format, 4.1), and a file of one page of 4,096 bytes has none for tables
abbrev pub halves_of : ℕ → Option ℕ → Bool → Halves
halves_of file (Some log) is_logged = if nat_eq file 0 && nat_le 56 log then LogAlone else Whole
halves_of file None true = if nat_le file 4_096 then FileAlone else NoLog
halves_of file None false = Whole
