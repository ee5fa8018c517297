use Rattle.std.proofs.Common.{◌≡◌, ◌≤◌, ◌<◌, ◌-◌, length, take, drop, arith, rules, length-drop, IsUtf8}
use Rattle.std.proofs.lemmas.List.{take_all}
use Rattle.xa_http.specs.parsing.OpenHead.{IsVersionEnd}
use Rattle.xa_http.proofs.OpenHeadLemmas.{line_first}
use Rattle.xa_http.proofs.open_head.after_target.Goals as goal

pub returns-clause-open : goal.returns-clause-open
returns-clause-open c =
    let held = c.args.held.now in
    let at = c.args.at in
    let target = take (at - c.args.start) (drop c.args.start held) in
    let whole : (0 < length target) × IsUtf8 target = search rules in
    let rest : take (length held - at) (drop at held) ≡ drop at held = take_all _ _ (omega (arith, length-drop at held)) in
    let read : IsVersionEnd (take c.in_ok-len.len (drop at held)) = rw rest at c.in_ok-len.ensures.read in
    let fits : c.in_ok-len.len ≤ length (drop at held) = rw rest at c.in_ok-len.ensures.within.1 in
    line_first held c.args.start at c.in_ok-len.len c.requires.within c.requires.open read fits whole.0 whole.1
