-- One place after another has its share.
use Rattle.std.proofs.Common.{◌≡◌, ◌+◌, [], ◌∷◌, ◌++◌, ℕ, List, refl, sym, subst, ap, ◌∙◌, arith}
use Rattle.std.proofs.lemmas.Result.{err_from_is_err_and}
use Rattle.xa_reactor.specs.declared.reactor.Reactor.{Reactor}
use Rattle.xa_reactor.specs.Turn.{AreShared, rotated}
use Rattle.xa_reactor.specs.handling.Turning.{Does}
use Rattle.xa_reactor.proofs.TurnLemmas.{broken_after, each_more, each_none, rotated_more, rotated_none, shares_open_none}
use Rattle.xa_reactor.proofs.reactor.Reactor.share_all.Goals as goal

-- nothing but places and what is ready has changed
same_on : (a b c : Reactor) → b ≡ record a { lanes = b.lanes; board = b.board } → c ≡ record b { lanes = c.lanes; board = c.board } → c ≡ record a { lanes = c.lanes; board = c.board }
same_on a b c first later = later ∙ ap (λ (r : Reactor). record r { lanes = c.lanes; board = c.board }) first

pub loop-offset-init : goal.loop-offset-init
loop-offset-init g c = record {
  shared =
      subst (λ (places : List ℕ). Does g.R.Records.custody g.N.Network.done (λ deeds. AreShared c.args.terms.now places deeds c.args.self.now.lanes c.args.self.now.lanes)
      c.args.self.now.lanes c.args.self.now.lanes c.args.front.now c.args.front.now c.args.network.now c.args.network.now) (rotated_none c.args.first)
      (each_none g.R.Records.custody g.N.Network.done g.met.R.Records.open_if_sound c.args.terms.now c.args.self.now.lanes c.args.front.now c.args.network.now);
  alike = c.requires;
  same = refl;
}

pub loop-offset-preserved : goal.loop-offset-preserved
loop-offset-preserved g c =
    let more : rotated c.args.first (c.loop-offset.offset + 1) ≡ rotated c.args.first c.loop-offset.offset ++ c.place_behind-place.result ∷ [] =
    rotated_more c.args.first c.loop-offset.offset c.place_behind-place.result c.place_behind-place.ensures in
    record {
      shared =
          subst (λ (places : List ℕ). Does g.R.Records.custody g.N.Network.done (λ deeds. AreShared c.args.terms.now places deeds c.args.self.now.lanes c.share.new.self.lanes)
          c.args.self.now.lanes c.share.new.self.lanes c.args.front.now c.share.new.front c.args.network.now c.share.new.network) (sym more)
          (each_more g.R.Records.custody g.N.Network.done g.met.R.Records.open_if_sound c.args.terms.now c.place_behind-place.result
          (rotated c.args.first c.loop-offset.offset) c.args.self.now.lanes c.loop-offset.self.lanes c.share.new.self.lanes c.args.front.now c.loop-offset.front c.share.new.front
          c.args.network.now c.loop-offset.network c.share.new.network c.loop-offset.invariant.shared c.in_ok-goes.ensures.shared);
      alike = c.share.ensures.alike;
      same = same_on c.args.self.now c.loop-offset.self c.share.new.self c.loop-offset.invariant.same c.share.ensures.same;
    }

pub returns-in_err-goes-clause-shared : goal.returns-in_err-goes-clause-shared
returns-in_err-goes-clause-shared g c =
    let p = err_from_is_err_and c.from_residual.result c.from_residual.ensures.1 in
    rw p.1
    (broken_after g.R.Records.custody g.N.Network.done g.met.R.Records.open_if_sound
    (λ deeds. AreShared c.args.terms.now (rotated c.args.first c.loop-offset.offset) deeds c.args.self.now.lanes c.loop-offset.self.lanes) c.args.self.now.lanes
    c.loop-offset.self.lanes c.share.new.self.lanes c.args.front.now c.loop-offset.front c.share.new.front c.args.network.now c.loop-offset.network c.share.new.network
    (λ deeds are. shares_open_none c.args.terms.now (rotated c.args.first c.loop-offset.offset) deeds c.args.self.now.lanes c.loop-offset.self.lanes are)
    c.loop-offset.invariant.shared c.in_err-goes.ensures.shared)

pub returns-clause-shared : goal.returns-clause-shared
returns-clause-shared g c =
    let all : c.loop-offset.offset ≡ 64 = omega arith in
    subst (λ (count : ℕ). Does g.R.Records.custody g.N.Network.done
    (λ deeds. AreShared c.args.terms.now (rotated c.args.first count) deeds c.args.self.now.lanes c.loop-offset.self.lanes)
    c.args.self.now.lanes c.loop-offset.self.lanes c.args.front.now c.loop-offset.front c.args.network.now c.loop-offset.network) all c.loop-offset.invariant.shared
