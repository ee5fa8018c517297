use Rattle.std.proofs.Common.{◌≡◌, length, refl, arith, rules, subst}
use Rattle.std.specs.List.{range_with_len}
use Rattle.std.specs.List.Sorted.{IsStableByKey}
use Rattle.std.specs.Option.{option_cmp}
use Rattle.std.specs.Prelude.{Ok}
use Rattle.std.specs.declared.alloc.AllocError.{AllocError}
use Rattle.std.proofs.lemmas.Fn.{always_returns_same}
use Rattle.std.proofs.lemmas.Iterator.{YieldsList-from_range, items_from_collect}
use Rattle.xa_decide.specs.indexing.Index.{compare_keys, key_at}
use Rattle.xa_decide.proofs.order.places_in_order.Goals as goal

pub returns : goal.returns
returns g c =
    let key = key_at g.K.Keying.key_of c.args.items.now in
    let count = length c.args.items.now in
    let all : c.in_ok-order.order.items ≡ range_with_len 0 count =
    items_from_collect {E = AllocError} (Ok c.in_ok-order.order) c.in_ok-order.ensures.ran (YieldsList-from_range 0 count count refl (omega arith)) in
    let keys = always_returns_same _ (λ a r. r ≡ key a.0.now) _ (λ a r f called. search rules) in (
      c.in_ok-sort_by_key.ensures.sorted key keys,
      subst (λ places. IsStableByKey key (option_cmp compare_keys) places c.sort_by_key.new.self.items) all (c.sort_by_key.ensures.stable key keys),
    )
