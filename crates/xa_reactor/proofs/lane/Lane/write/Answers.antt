use Rattle.std.proofs.Common.{inl, refl, arith}
use Rattle.xa_reactor.specs.declared.outgoing.Sending.TheVariants.{Broke}
use Rattle.xa_reactor.proofs.lane.Lane.write.Goals as goal

pub returns-in-Broke : goal.returns-in-Broke
returns-in-Broke g c = record {
  how = Broke;
  sent = c.in-Broke.ensures;
  stays = (refl, refl);
  marks = inl (refl, omega arith);
  ends = c.in-Broke.ensures.breaks;
}
