use Rattle.std.proofs.Common.{subst, sym}
use Rattle.xa_reactor.specs.declared.access.Access.{Access}
use Rattle.xa_reactor.specs.Turn.{MayCome}
use Rattle.xa_reactor.proofs.KeepingLemmas.{place_for}
use Rattle.xa_reactor.proofs.lanes.Lanes.has_place.Goals as goal

pub returns-in-All : goal.returns-in-All
returns-in-All c = λ more.
    place_for c.args.access c.args.self.now 0 (subst (λ (a : Access). MayCome a c.args.self.now) (sym c.in-All.is) tt) (c.has_more_free.ensures.more more)

pub returns-else-has_changes : goal.returns-else-has_changes
returns-else-has_changes c = λ more.
    place_for c.args.access c.args.self.now 0
    (subst (λ (a : Access). MayCome a c.args.self.now) (sym c.in-Changes.is) (c.has_changes.ensures.none c.if-has_changes.false))
    (c.has_more_free-in-Changes.ensures.more more)
