use Rattle.std.proofs.Common.{inl, inr, arith}
use Rattle.xa_reactor.specs.declared.access.Access.TheVariants.{Asks}
use Rattle.xa_reactor.proofs.KeepingLemmas.{place_for}
use Rattle.xa_reactor.proofs.lanes.Lanes.has_place_beside.Goals as goal

pub returns-then-has_changes : goal.returns-then-has_changes
returns-then-has_changes c = λ more.
    place_for Asks c.args.self.now 0 (inl (c.has_changes.ensures.there c.if-has_changes.true)) (c.has_more_free.ensures.more more)

pub returns : goal.returns
returns c = λ more.
    let many = c.has_more_free-2.ensures.more more in
    place_for Asks c.args.self.now 1 (inr (omega (arith, many))) many
