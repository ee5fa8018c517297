use Rattle.std.proofs.Common.{◌≡◌, refl, arith, ◌∙◌}
use Rattle.std.specs.List.{range_with_len}
use Rattle.std.specs.Prelude.{Ok}
use Rattle.std.specs.declared.alloc.AllocError.{AllocError}
use Rattle.std.proofs.lemmas.Iterator.{YieldsList-from_range, items_from_collect}
use Rattle.xa_profile.proofs.individuals.all_places.Goals as goal

pub returns : goal.returns
returns c =
    let count = c.args.count in
    let all : c.in_ok-places.places.items ≡ range_with_len 0 count =
    items_from_collect {E = AllocError} (Ok c.in_ok-places.places) c.in_ok-places.ensures.ran (YieldsList-from_range 0 count count refl (omega arith)) in
    c.from_vec.ensures ∙ all
