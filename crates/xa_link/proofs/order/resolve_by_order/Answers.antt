use Rattle.std.proofs.Common.{◌≡◌, ℕ, ◌<◌, ◌≤◌, length, get_or, None, true, false, rules, sym, ap, ◌∙◌, slice_get}
use Rattle.std.specs.Ordering.{is_gt, is_lt}
use Rattle.std.proofs.lemmas.List.Sorted.{IsPartitionPoint-from_clause}
use Rattle.xa_link.specs.placing.Order.{standing}
use Rattle.xa_link.proofs.OrderLemmas.{at_end, at_start, behind, parted}
use Rattle.xa_link.proofs.order.resolve_by_order.Goals as goal

pub returns-in_err-place : goal.returns-in_err-place
returns-in_err-place c =
    let active = c.args.active.now in
    let reference = c.args.reference.now in
    let order = c.args.order.now in
    let start = c.partition_point-start.result in
    let point = IsPartitionPoint-from_clause (λ p. is_lt (standing reference (slice_get active p))) _ _ c.partition_point-start.ensures.partitioned (parted active reference order c.requires) (λ a r q k. search rules) in
    let end : length order ≤ start = search rules in
    let none : c.from_residual.result ≡ None = search rules in
    none ∙ at_end active order reference c.requires start point.0 end

pub returns-then-is_gt : goal.returns-then-is_gt
returns-then-is_gt c =
    let active = c.args.active.now in
    let reference = c.args.reference.now in
    let order = c.args.order.now in
    let start = c.partition_point-start.result in
    let point = IsPartitionPoint-from_clause (λ p. is_lt (standing reference (slice_get active p))) _ _ c.partition_point-start.ensures.partitioned (parted active reference order c.requires) (λ a r q k. search rules) in
    let within : start < length order = search rules in
    let at : (d : ℕ) → get_or order start d ≡ c.in_ok-place.field-0.now = search rules in
    let gt : is_gt (standing reference (slice_get active c.in_ok-place.field-0.now)) ≡ true = search rules in
    behind active order reference c.requires start point.0 c.in_ok-place.field-0.now within at gt

pub returns : goal.returns
returns c =
    let active = c.args.active.now in
    let reference = c.args.reference.now in
    let order = c.args.order.now in
    let start = c.partition_point-start.result in
    let point = IsPartitionPoint-from_clause (λ p. is_lt (standing reference (slice_get active p))) _ _ c.partition_point-start.ensures.partitioned (parted active reference order c.requires) (λ a r q k. search rules) in
    let within : start < length order = search rules in
    let at : (d : ℕ) → get_or order start d ≡ c.in_ok-place.field-0.now = search rules in
    let not_gt : is_gt (standing reference (slice_get active c.in_ok-place.field-0.now)) ≡ false = search rules in
    let not_lt : is_lt (standing reference (slice_get active c.in_ok-place.field-0.now)) ≡ false =
    ap (λ p. is_lt (standing reference (slice_get active p))) (sym (at 0)) ∙ point.1 start 0 (search rules) within in
    at_start active order reference c.requires start point.0 c.in_ok-place.field-0.now within at not_lt not_gt
