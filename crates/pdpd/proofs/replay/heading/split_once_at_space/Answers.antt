use Rattle.std.proofs.Common.{◌≡◌, ◌+◌, ◌-◌, length, take, drop, length-drop, arith}
use Rattle.std.proofs.lemmas.List.{take_all}
use Rattle.pdpd.proofs.PartLemmas.{first_part, one_part}
use Rattle.pdpd.proofs.replay.heading.split_once_at_space.Goals as goal

pub returns-then-byte-eq32 : goal.returns-then-byte-eq32
returns-then-byte-eq32 c =
    let text = c.args.text.now in
    let after = c.loop-i.i + 1 in
    let rest : take (length text - after) (drop after text) ≡ drop after text = take_all _ _ (omega (arith, length-drop after text)) in
    rw rest (first_part text c.loop-i.i (omega arith) c.loop-i.invariant (omega arith))

pub returns : goal.returns
returns c = one_part c.args.text.now c.loop-i.i (omega arith) c.loop-i.invariant
