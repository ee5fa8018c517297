use Rattle.std.proofs.Common.{ap, ◌∙◌, cond}
use Rattle.std.specs.Prelude.{Some, bytes_eq}
use Rattle.std.specs.BTreeMap.{get_by}
use Rattle.std.specs.Cmp.Lexicographic.{slice_cmp}
use Rattle.std.specs.Ordering.{nat_cmp}
use Rattle.std.proofs.lemmas.Map.Text.{btree_map_updates_str}
use Rattle.xa_profile.proofs.grouping.put_new.Goals as goal

pub returns-clause-numbers : goal.returns-clause-numbers
returns-clause-numbers c =
    λ q. btree_map_updates_str c.args.category.now c.args.numbers.now c.insert.new.self _ c.in_ok-insert.ensures.updates q
    ∙ ap (λ n. cond (bytes_eq c.args.category.now q) (Some n) (get_by (λ k. slice_cmp nat_cmp q k.now) c.args.numbers.now)) (c.len.ensures ∙ c.args.groups.now.ok.0)
