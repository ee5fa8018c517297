use Rattle.std.proofs.Common.{◌≡◌, rules, subst}
use Rattle.std.specs.List.Sorted.{IsPermutation}
use Rattle.std.specs.Ordering.{is_lt}
use Rattle.std.proofs.lemmas.Fn.{always_returns_same}
use Rattle.xa_store.proofs.Common.{ranks_by, compare_keys, keys_total}
use Rattle.xa_store.proofs.query.document.in_order.Goals as goal

pub returns-clause-same : goal.returns-clause-same
returns-clause-same g c = subst (λ l. IsPermutation l c.sort_unstable_by.new.self.items) c.into_vec-items.ensures c.sort_unstable_by.ensures.permutation

pub returns-clause-sorted : goal.returns-clause-sorted
returns-clause-sorted g c =
    let key = g.T.Keyed.key_of in
    let compares = always_returns_same _ (λ a r. is_lt r ≡ is_lt (compare_keys (key a.0.now) (key a.1.0.now))) _ (λ a r f called. search rules) in
    c.sort_unstable_by.ensures.sorted (λ x y. is_lt (compare_keys (key x) (key y))) (ranks_by keys_total key) compares
