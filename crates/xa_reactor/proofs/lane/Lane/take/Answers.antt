use Rattle.std.proofs.Common.{rules, ◌≡◌, ◌≢◌, arith, inl, inr, refl, true}
use Rattle.std.proofs.lemmas.Grind.{common_steps}
use Rattle.xa_reactor.specs.declared.limits.Stage.TheVariants as stages
use Rattle.xa_reactor.proofs.GoingLemmas.{drops_any, marked_same, stays_same, takes_dropped, takes_fed}
use Rattle.xa_reactor.proofs.lane.Lane.take.Goals as goal

pub returns-then-eq : goal.returns-then-eq
returns-then-eq g c =
    let parts : c.args.self.now.stage ≡ stages.Parting = search rules in
    takes_dropped g.R.Records.custody g.met.R.Records.open_if_sound _ _ _ _ _ _ parts c.drop_piece.ensures.outgoing c.drop_piece.ensures.stays c.drop_piece.ensures.ends

pub returns-then-not-feed : goal.returns-then-not-feed
returns-then-not-feed g c =
    let other : c.args.self.now.stage ≢ stages.Parting = first_of (search rules, grind (arith, common_steps)) in
    takes_fed g.R.Records.custody _ _ _ _ _ _ _ _ c.feed.ensures.feeds refl other refl (inl (stays_same c.args.self.now, inr (marked_same c.args.self.now))) tt tt

pub returns : goal.returns
returns g c =
    let other : c.args.self.now.stage ≢ stages.Parting = first_of (search rules, grind (arith, common_steps)) in
    let held : c.feed.result ≡ true = first_of (search rules, grind (arith, common_steps)) in
    takes_fed g.R.Records.custody _ _ _ _ _ _ _ _ c.feed.ensures.feeds c.note_piece.ensures.same other c.note_piece.ensures.outgoing c.note_piece.ensures.time c.note_piece.ensures.ends
    (drops_any c.note_piece.result _ _ (inl (c.feed.ensures.kept held)))
