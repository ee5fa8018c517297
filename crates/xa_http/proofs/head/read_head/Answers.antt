use Rattle.xa_http.proofs.FrontLemmas.{head_read}
use Rattle.xa_http.proofs.head.read_head.Goals as goal

pub returns : goal.returns
returns c =
    head_read _ _ _ _ _ _ _ _ c.requires.found c.in_ok-read_bytes.ensures c.in_ok-read_bytes-2.ensures
    c.in_ok-fields.ensures c.new.ensures (rw c.as_slice.ensures at c.closes-close.ensures)
