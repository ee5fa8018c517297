use Rattle.std.proofs.Common.{◌≡◌, ℕ, Bool, rules, slice_get}
use Rattle.std.specs.Cmp.{nat_eq_equiv}
use Rattle.std.specs.Ordering.{is_lt}
use Rattle.std.proofs.lemmas.Bool.{eqb-true}
use Rattle.std.proofs.lemmas.Fn.{always_returns_same}
use Rattle.std.proofs.lemmas.List.MinMax.{ranks_by}
use Rattle.std.proofs.lemmas.List.Sorted.{Contains-permutation}
use Rattle.std.proofs.lemmas.Map.Views.{Contains-from_any, list_any-from_Contains}
use Rattle.xa_link.specs.placing.Order.{compare_seen_found}
use Rattle.xa_link.proofs.ReorderLemmas.{reordered, seen_total}
use Rattle.xa_link.proofs.order.reordered.Goals as goal

pub returns : goal.returns
returns c =
    let active = c.args.active.now in
    let pattern = c.args.pattern.now in
    let before = c.args.order.items in
    let after = c.sort_by.new.self.items in
    let less : ℕ → ℕ → Bool = λ x y. is_lt (compare_seen_found pattern (slice_get active y) (slice_get active x)) in
    let ranks = ranks_by (seen_total pattern active) (λ p. p) in
    let compares = always_returns_same _ (λ a r. is_lt r ≡ is_lt (compare_seen_found pattern (slice_get active a.1.0.now) (slice_get active a.0.now))) _ (λ a r f called. search rules) in
    record {
      all = λ place h.
          list_any-from_Contains nat_eq_equiv place after (Contains-permutation before after place c.sort_by.ensures.permutation (Contains-from_any eqb-true place before (c.requires.all place h)));
      sorted = reordered pattern active before after c.requires.sorted (c.in_ok-sort_by.ensures.sorted less ranks compares) (c.sort_by.ensures.stable less ranks compares);
    }
