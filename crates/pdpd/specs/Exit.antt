-- How the program ends.
use Rattle.std.specs.Prelude.{ℕ, Bool, true, false}
use Rattle.std.specs.declared.io.ErrorKind.{ErrorKind}
use Rattle.std.specs.declared.io.ErrorKind.TheVariants.{OutOfMemory}
use Rattle.pdpd.specs.declared.exit.Exit.{Exit}
use Rattle.pdpd.specs.declared.exit.Exit.TheVariants.{Done, Failed, Usage, Malformed, Store, Socket, Memory}
use Rattle.pdpd.specs.declared.replay.transcript.EntryFault.{EntryFault}
use Rattle.pdpd.specs.declared.replay.transcript.EntryFault.TheVariants as read

-- the status with which the program ends
abbrev pub status_of : Exit → ℕ
status_of Done = 0
status_of Failed = 1
status_of Usage = 2
status_of (Malformed _ _) = 3
status_of Store = 4
status_of Socket = 5
status_of Memory = 6

-- how the program ends if standard input or output fails with that kind of error
abbrev pub exit_of : ErrorKind → Exit
exit_of OutOfMemory = Memory
exit_of _ = Failed

-- how the program ends if that entry, counted from 1, can't be read
abbrev pub exit_of_read : ℕ → EntryFault → Exit
exit_of_read entry (read.Malformed fault) = Malformed entry fault
exit_of_read entry read.Failed = Failed
exit_of_read entry read.Memory = Memory

-- the exits in the middle of an entry
abbrev pub breaks_off : Exit → Bool
breaks_off Failed = true
breaks_off Memory = true
breaks_off _ = false

-- the exits that tell of a transcript: all of it was read, or all up to an entry that is malformed
abbrev pub tells_of_entries : Exit → Bool
tells_of_entries Done = true
tells_of_entries (Malformed _ _) = true
tells_of_entries _ = false
