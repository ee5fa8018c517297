-- The text is the document that was read from it, and the key is that document's.
use Rattle.std.proofs.Common.{sym}
use Rattle.xa_server.proofs.changes.upload.Goals as goal

pub upload-requires : goal.upload-requires
upload-requires g c = (c.in_ok-parsed.parsed, c.in_ok-parsed.ensures.value, sym c.in_ok-key.ensures)
