use Rattle.std.proofs.Common.{◌≡◌, ap, [], ◌∷◌, length, rules, arith}
use Rattle.std.proofs.lemmas.List.{length-append}
use Rattle.xa_bag.proofs.ChoosingLemmas.{taken_back, goes_on, goes_back, none_behind}
use Rattle.xa_bag.proofs.choosing.choose_next.Goals as goal

pub choose-requires-clause-begun : goal.choose-requires-clause-begun
choose-requires-clause-begun c =
    let back = taken_back c.loop-place.chosen.items c.pop.new.self.items c.in-Some.place c.args.arguments.now (rw c.in-Some.ensures.items at c.loop-place.invariant.0) in
    let kept = c.drop_last.ensures back.kept back.last back.whole in
    rw kept back.begun

pub choose-requires-clause-further : goal.choose-requires-clause-further
choose-requires-clause-further c =
    let back = taken_back c.loop-place.chosen.items c.pop.new.self.items c.in-Some.place c.args.arguments.now (rw c.in-Some.ensures.items at c.loop-place.invariant.0) in
    let kept = c.drop_last.ensures back.kept back.last back.whole in
    rw kept back.further

pub choose_firsts-requires : goal.choose_firsts-requires
choose_firsts-requires c =
    let step = rw c.if-found.true at c.in_ok-found.ensures in
    step.0

pub returns-then-found : goal.returns-then-found
returns-then-found c =
    let back = taken_back c.loop-place.chosen.items c.pop.new.self.items c.in-Some.place c.args.arguments.now (rw c.in-Some.ensures.items at c.loop-place.invariant.0) in
    let kept = c.drop_last.ensures back.kept back.last back.whole in
    let step = rw c.if-found.true at c.in_ok-found.ensures in
    let same = goes_on c.in-Some.place c.loop-place.chosen.items c.drop_last.new.values.items c.choose.new.chosen.items c.loop-place.places.items c.pop.new.self.items c.choose.new.places.items
    c.args.arguments.now _ back c.in-Some.ensures.items kept c.loop-place.invariant.1 step in
    rw same at c.choose_firsts.ensures

pub loop-place-preserved : goal.loop-place-preserved
loop-place-preserved c =
    let back = taken_back c.loop-place.chosen.items c.pop.new.self.items c.in-Some.place c.args.arguments.now (rw c.in-Some.ensures.items at c.loop-place.invariant.0) in
    let kept = c.drop_last.ensures back.kept back.last back.whole in
    let step = rw c.if-found.false at c.in_ok-found.ensures in
    goes_back c.in-Some.place c.loop-place.chosen.items c.drop_last.new.values.items c.choose.new.chosen.items c.loop-place.places.items c.pop.new.self.items c.choose.new.places.items
    c.args.arguments.now _ back c.in-Some.ensures.items kept c.loop-place.invariant.1 step

pub loop-place-smaller : goal.loop-place-smaller
loop-place-smaller c =
    let step = rw c.if-found.false at c.in_ok-found.ensures in
    omega (arith, ap length step.1, ap length c.in-Some.ensures.items, length-append c.pop.new.self.items (c.in-Some.place ∷ []))

pub returns : goal.returns
returns c =
    let empty : length c.loop-place.places.items ≡ 0 = search rules in
    (none_behind c.loop-place.chosen.items c.loop-place.places.items c.args.arguments.now _ c.loop-place.invariant.0 empty c.loop-place.invariant.1, λ e. absurd (cc))
