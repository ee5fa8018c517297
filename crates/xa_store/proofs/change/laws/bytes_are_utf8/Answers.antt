use Rattle.xa_store.proofs.Common.{is_utf8-from_IsUtf8}
use Rattle.xa_store.proofs.change.laws.bytes_are_utf8.Goals as goal

pub returns : goal.returns
returns c = rw c.as_str-text.ensures at (is_utf8-from_IsUtf8 _ c.as_str-text.utf8)
