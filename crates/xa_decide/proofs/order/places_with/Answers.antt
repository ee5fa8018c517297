use Rattle.std.proofs.Common.{◌≡◌, ℕ, ap, sym, subst, ◌∙◌, take, length, rules}
use Rattle.std.specs.Prelude.{true, false, Some, slice_get}
use Rattle.std.specs.List.{filter_map, range_with_len}
use Rattle.std.specs.List.Sorted.{IsPartitionedBy, IsPartitionPoint}
use Rattle.std.specs.Ordering.{is_le, is_lt}
use Rattle.std.specs.declared.cmp.Ordering.{Ordering}
use Rattle.std.proofs.lemmas.List.Sorted.{IsPartitionPoint-from_clause, searchable_from_sorted}
use Rattle.xa_decide.specs.indexing.Index.{key_at, order_at}
use Rattle.xa_decide.proofs.IndexLemmas.{equal_part, found_alike, items_found, keys_total, parted_below, parted_up_to}
use Rattle.xa_decide.proofs.order.places_with.Goals as goal

pub returns : goal.returns
returns g c =
    let items = c.args.items.now in
    let order = c.args.order.now in
    let wanted = c.args.key.now in
    let start = c.partition_point-start.result in
    let count = c.partition_point-count.result in
    let ord : ℕ → Ordering = order_at g.K.Keying.key_of items wanted in
    let up = searchable_from_sorted keys_total (key_at g.K.Keying.key_of items) order (Some wanted) c.requires.0 in
    let first = IsPartitionPoint-from_clause (λ p. is_lt (ord p)) _ _ c.partition_point-start.ensures.partitioned (parted_below ord order up) (λ a r q k. search rules) in
    let parted = subst (λ l. IsPartitionedBy (λ p. is_le (ord p)) l) (sym c.split_at.ensures.back) (parted_up_to ord order start up) in
    let rest = IsPartitionPoint-from_clause (λ p. is_le (ord p)) _ _ c.partition_point-count.ensures.partitioned parted (λ a r q k. search rules) in
    let second = subst (λ l. IsPartitionPoint (λ p. is_le (ord p) ≡ true) (λ p. is_le (ord p) ≡ false) l count) c.split_at.ensures.back rest in
    ap (λ ps. filter_map (slice_get items) ps)
    (c.split_at-2.ensures.front ∙ ap (λ ps. take count ps) c.split_at.ensures.back ∙ sym (equal_part ord order start count first second)
    ∙ found_alike keys_total (key_at g.K.Keying.key_of items) (Some wanted) (range_with_len 0 (length items)) order c.requires.1)
    ∙ items_found g.K.Keying.key_of wanted items
