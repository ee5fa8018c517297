use Rattle.std.proofs.Common.{◌≡◌, ◌∙◌, ◌+◌, length, refl, arith, rules, subst, None, Ok}
use Rattle.std.specs.Cmp.{nat_eq_equiv}
use Rattle.std.specs.List.{range_with_len}
use Rattle.std.specs.List.Sorted.{IsPermutation}
use Rattle.std.specs.Ordering.{is_lt}
use Rattle.std.specs.declared.alloc.AllocError.{AllocError}
use Rattle.std.proofs.lemmas.Fn.{always_returns_same}
use Rattle.std.proofs.lemmas.Iterator.{YieldsList-from_range, items_from_collect}
use Rattle.std.proofs.lemmas.List.FromFn.{length-range_with_len, get_or-range_with_len}
use Rattle.std.proofs.lemmas.List.MinMax.{ranks_by}
use Rattle.std.proofs.lemmas.List.Sorted.{Contains-permutation}
use Rattle.std.proofs.lemmas.Map.Views.{list_any-from_Contains}
use Rattle.xa_link.specs.placing.Order.{compare_places}
use Rattle.xa_link.proofs.StandingLemmas.{places_total}
use Rattle.xa_link.proofs.order.places_in_order.Goals as goal

pub returns : goal.returns
returns c =
    let active = c.args.active.now in
    let count = length c.args.active.now in
    let after = c.sort_by.new.self.items in
    let all : c.in_ok-order.order.items ≡ range_with_len 0 count =
    items_from_collect {E = AllocError} (Ok c.in_ok-order.order) c.in_ok-order.ensures.ran (YieldsList-from_range 0 count count refl (omega arith)) in
    let moved : IsPermutation (range_with_len 0 count) after = subst (λ places. IsPermutation places after) all c.sort_by.ensures.permutation in
    let long = length-range_with_len 0 count in
    let compares = always_returns_same _ (λ a r. is_lt r ≡ is_lt (compare_places None active a.0.now a.1.0.now)) _ (λ a r f called. search rules) in
    record {
      all = λ place h.
          list_any-from_Contains nat_eq_equiv place after (Contains-permutation (range_with_len 0 count) after place moved
          (place, (let l = long in omega (arith, h, l)), get_or-range_with_len 0 count place place h ∙ (let zero_more : 0 + place ≡ place = omega arith in zero_more)));
      sorted = c.in_ok-sort_by.ensures.sorted (λ x y. is_lt (compare_places None active x y)) (ranks_by (places_total None active) (λ p. p)) compares;
    }
