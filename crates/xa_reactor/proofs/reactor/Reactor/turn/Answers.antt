-- A turn: it is looked whether the program is to end, and then connections are taken and have their shares.
use Rattle.std.proofs.Common.{◌≡◌, ◌∙◌, sym, ap}
use Rattle.std.proofs.lemmas.Result.{err_from_is_err_and}
use Rattle.xa_reactor.specs.declared.board.Board.{Board}
use Rattle.xa_reactor.specs.declared.limits.Limits.{Limits}
use Rattle.xa_reactor.specs.declared.reactor.Reactor.{Reactor}
use Rattle.xa_reactor.specs.Turn.{AreTerms, Lanes}
use Rattle.xa_reactor.proofs.TurnLemmas.{turn_broken, turned}
use Rattle.xa_reactor.proofs.reactor.Reactor.turn.Goals as goal

pub returns-in_err-deal-clause-turned : goal.returns-in_err-deal-clause-turned
returns-in_err-deal-clause-turned g c =
    let same : c.look_at_door.new.self.lanes ≡ c.args.self.now.lanes = ap (λ (r : Reactor). r.lanes) c.look_at_door.ensures.same ∙ ap (λ (r : Reactor). r.lanes) c.look_at_end.ensures.same in
    let split : c.look_at_door.new.self.is_split ≡ c.args.self.now.is_split = ap (λ (r : Reactor). r.is_split) c.look_at_door.ensures.same ∙ ap (λ (r : Reactor). r.is_split) c.look_at_end.ensures.same in
    let p = err_from_is_err_and c.from_residual.result c.from_residual.ensures.1 in
    rw p.1
    (turn_broken g.R.Records.custody g.N.Network.done g.met.R.Records.open_if_sound c.args.self.now.is_split c.args.self.now.lanes c.deal.new.self.lanes c.args.front.now c.deal.new.front c.args.network.now
    c.look_at_door.new.network c.deal.new.network c.look_at_door.ensures.done (rw (same, split) at c.in_err-deal.ensures.dealt))

pub returns-then-branch-clause-turned : goal.returns-then-branch-clause-turned
returns-then-branch-clause-turned g c =
    let same : c.look_at_door.new.self.lanes ≡ c.args.self.now.lanes = ap (λ (r : Reactor). r.lanes) c.look_at_door.ensures.same ∙ ap (λ (r : Reactor). r.lanes) c.look_at_end.ensures.same in
    let split : c.look_at_door.new.self.is_split ≡ c.args.self.now.is_split = ap (λ (r : Reactor). r.is_split) c.look_at_door.ensures.same ∙ ap (λ (r : Reactor). r.is_split) c.look_at_end.ensures.same in
    let told : c.look_at_door.new.self.board ≡ c.args.self.now.board = ap (λ (r : Reactor). r.board) c.look_at_door.ensures.same ∙ ap (λ (r : Reactor). r.board) c.look_at_end.ensures.same in
    let set : c.look_at_door.new.self.limits ≡ c.args.self.now.limits = ap (λ (r : Reactor). r.limits) c.look_at_door.ensures.same ∙ ap (λ (r : Reactor). r.limits) c.look_at_end.ensures.same in
    let are : AreTerms c.terms-terms.result c.args.now c.args.self.now.limits c.deal.new.self.leaving = rw (sym set, c.deal.ensures.leaving) c.terms-terms.ensures in
    turned g.R.Records.custody g.N.Network.done g.met.R.Records.open_if_sound c.args.self.now.is_split c.terms-terms.result c.args.now c.args.self.now.limits c.deal.new.self.leaving c.args.self.now.board
    c.args.self.now.lanes c.deal.new.self.lanes c.args.front.now c.deal.new.front c.args.network.now c.look_at_door.new.network c.deal.new.network are c.look_at_door.ensures.done
    (rw (same, told, split) at c.in_ok-deal.ensures.dealt)

pub returns-clause-turned : goal.returns-clause-turned
returns-clause-turned g c =
    let same : c.look_at_door.new.self.lanes ≡ c.args.self.now.lanes = ap (λ (r : Reactor). r.lanes) c.look_at_door.ensures.same ∙ ap (λ (r : Reactor). r.lanes) c.look_at_end.ensures.same in
    let split : c.look_at_door.new.self.is_split ≡ c.args.self.now.is_split = ap (λ (r : Reactor). r.is_split) c.look_at_door.ensures.same ∙ ap (λ (r : Reactor). r.is_split) c.look_at_end.ensures.same in
    let told : c.look_at_door.new.self.board ≡ c.args.self.now.board = ap (λ (r : Reactor). r.board) c.look_at_door.ensures.same ∙ ap (λ (r : Reactor). r.board) c.look_at_end.ensures.same in
    let set : c.look_at_door.new.self.limits ≡ c.args.self.now.limits = ap (λ (r : Reactor). r.limits) c.look_at_door.ensures.same ∙ ap (λ (r : Reactor). r.limits) c.look_at_end.ensures.same in
    let are : AreTerms c.terms-terms.result c.args.now c.args.self.now.limits c.deal.new.self.leaving = rw (sym set, c.deal.ensures.leaving) c.terms-terms.ensures in
    turned g.R.Records.custody g.N.Network.done g.met.R.Records.open_if_sound c.args.self.now.is_split c.terms-terms.result c.args.now c.args.self.now.limits c.deal.new.self.leaving c.args.self.now.board
    c.args.self.now.lanes c.deal.new.self.lanes c.args.front.now c.deal.new.front c.args.network.now c.look_at_door.new.network c.deal.new.network are c.look_at_door.ensures.done
    (rw (same, told, split) at c.in_ok-deal.ensures.dealt)
