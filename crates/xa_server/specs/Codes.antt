-- How the calls are stored that `Noted` notes: a code for each kind of them.
use Rattle.std.specs.Prelude.{◌≡◌, ◌⊎◌, ℕ, List, Option, None, Some}
use mathlib.Core.Logic.{inl, inr}
use mathlib.Core.Path.{refl}
use Rattle.std.specs.Coded.{Coded, code_by, coded_list, coded_option, coded_ℕ, coded×, coded⊎}
use Rattle.std.specs.contracts.io.ErrorKind as kind
use Rattle.std.specs.declared.io.ErrorKind.{ErrorKind}
use Rattle.xa_server.specs.Peers.{Peer}
use Rattle.xa_server.specs.Transfers.{ReadEnd, WriteEnd, flushed, gave, took, unflushed, unread, unwritten}

abbrev Bytes : Type 0
Bytes = List ℕ

abbrev bytes_coded : Coded Bytes
bytes_coded = coded_list coded_ℕ

abbrev kind_coded : Coded ErrorKind
kind_coded = kind.the_row.coded

-- ---- reads

abbrev ReadParts : Type 0
ReadParts = (ℕ × Bytes) ⊎ ErrorKind

abbrev parts_of_read : ReadEnd → ReadParts
parts_of_read (gave room bytes) = inl (room, bytes)
parts_of_read (unread why) = inr why

abbrev read_of_parts : ReadParts → ReadEnd
read_of_parts (inl parts) = gave parts.0 parts.1
read_of_parts (inr why) = unread why

pub read_again : (read : ReadEnd) → read_of_parts (parts_of_read read) ≡ read
read_again (gave room bytes) = refl
read_again (unread why) = refl

abbrev pub read_coded : Coded ReadEnd
read_coded = code_by ReadParts (coded⊎ (coded× coded_ℕ bytes_coded) kind_coded) parts_of_read read_of_parts read_again

-- ---- writes

-- a write's bytes or failure, or a flush's failure, if it failed
abbrev WriteParts : Type 0
WriteParts = (Bytes ⊎ ErrorKind) ⊎ Option ErrorKind

abbrev parts_of_write : WriteEnd → WriteParts
parts_of_write (took bytes) = inl (inl bytes)
parts_of_write (unwritten why) = inl (inr why)
parts_of_write flushed = inr None
parts_of_write (unflushed why) = inr (Some why)

abbrev write_of_parts : WriteParts → WriteEnd
write_of_parts (inl (inl bytes)) = took bytes
write_of_parts (inl (inr why)) = unwritten why
write_of_parts (inr None) = flushed
write_of_parts (inr (Some why)) = unflushed why

pub write_again : (write : WriteEnd) → write_of_parts (parts_of_write write) ≡ write
write_again (took bytes) = refl
write_again (unwritten why) = refl
write_again flushed = refl
write_again (unflushed why) = refl

abbrev pub write_coded : Coded WriteEnd
write_coded = code_by WriteParts (coded⊎ (coded⊎ bytes_coded kind_coded) (coded_option kind_coded)) parts_of_write
    write_of_parts write_again

-- ---- connections

abbrev PeerParts : Type 0
PeerParts = (Option Bytes × Option (List ReadEnd)) × (Option Bytes × Option (List WriteEnd))

abbrev parts_of_peer : Peer → PeerParts
parts_of_peer peer = ((peer.left, peer.reads), (peer.contents, peer.writes))

abbrev peer_of_parts : PeerParts → Peer
peer_of_parts parts =
    record { left = parts.0.0; reads = parts.0.1; contents = parts.1.0; writes = parts.1.1 }

abbrev pub peer_coded : Coded Peer
peer_coded = code_by PeerParts (coded× (coded× (coded_option bytes_coded) (coded_option (coded_list read_coded)))
    (coded× (coded_option bytes_coded) (coded_option (coded_list write_coded)))) parts_of_peer peer_of_parts (λ _. refl)
