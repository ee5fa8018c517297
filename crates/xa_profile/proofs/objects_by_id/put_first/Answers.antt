use Rattle.std.proofs.Common.{sym, ◌∙◌}
use Rattle.std.specs.BTreeMap.{get_by}
use Rattle.std.specs.Cmp.Lexicographic.{slice_cmp}
use Rattle.std.specs.Ordering.{nat_cmp}
use Rattle.std.proofs.lemmas.Map.Text.{btree_map_updates_str}
use Rattle.xa_profile.proofs.IdLemmas.{first_put}
use Rattle.xa_profile.proofs.objects_by_id.put_first.Goals as goal

pub returns-in_ok-insert : goal.returns-in_ok-insert
returns-in_ok-insert c =
    λ q. btree_map_updates_str c.args.text.now c.args.places.now c.insert.new.self _ c.in_ok-insert.ensures.updates q
    ∙ first_put (λ p. get_by (λ k. slice_cmp nat_cmp p k.now) c.args.places.now) c.args.text.now q c.args.place
    (sym c.contains_key.ensures ∙ c.if-not-contains_key.true)
