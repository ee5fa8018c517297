use Rattle.std.proofs.Common.{◌≡◌, ◌+◌, length, refl, arith}
use Rattle.xa_bag.proofs.BagLemmas.{of_type_at}
use Rattle.xa_bag.proofs.ChoosingLemmas.{step_found, step_none}
use Rattle.xa_bag.proofs.choosing.choose.Goals as goal

pub returns-in_default : goal.returns-in_default
returns-in_default c =
    let deep : c.len-depth.result ≡ length c.args.chosen.now.items = omega (arith, c.args.chosen.now.ok.0) in
    step_none c.args.place c.len-depth.result c.args.chosen.now.items _ c.args.places.now.items _ c.args.arguments.now c.index-arguments-depth.result c.values.result.now
    c.requires.begun deep (omega arith) c.index-arguments-depth.is c.values.ensures.values c.in_default.ensures.lookup.3 refl refl

pub returns : goal.returns
returns c =
    let deep : c.len-depth.result ≡ length c.args.chosen.now.items = omega (arith, c.args.chosen.now.ok.0) in
    let type = of_type_at _ _ _ _ c.values.ensures.of_type c.in-Some.ensures.lookup.1 c.in-Some.ensures.lookup.3.0 in
    step_found c.args.place (c.args.place + 1) c.len-depth.result c.args.chosen.now.items _ c.args.places.now.items _ c.args.arguments.now c.index-arguments-depth.result c.values.result.now _
    c.requires.begun deep (omega arith) c.index-arguments-depth.is c.values.ensures.values type c.in-Some.ensures.lookup.3.0 c.in-Some.ensures.lookup.1
    c.in_ok-push_copy.ensures c.in_ok-push.ensures.items (omega arith)
