use Rattle.std.proofs.Common.{None}
use Rattle.xa_link.proofs.SlotLemmas.{if_any}
use Rattle.xa_link.proofs.index.Index.expect.Goals as goal

pub invariant_of-self-then-is_empty : goal.invariant_of-self-then-is_empty
invariant_of-self-then-is_empty c = (if_any None c.self.inside.active.now c.in_ok-self-inside.field-0.items c.in_ok-self-inside.ensures, c.self.invariant.1)
