use Rattle.std.proofs.Common.{ap, sym, ◌∙◌}
use Rattle.std.specs.Prelude.{slice_get}
use Rattle.std.specs.List.{filter_map}
use Rattle.xa_decide.specs.indexing.Index.{with_key}
use Rattle.xa_decide.proofs.IndexLemmas.{few_found}
use Rattle.xa_decide.proofs.order.places_among.Goals as goal

pub places_with-requires : goal.places_with-requires
places_with-requires g c = c.requires (sym c.are_few.ensures ∙ c.if-are_few.false)

pub returns-then-are_few : goal.returns-then-are_few
returns-then-are_few g c =
    let items = c.args.items.now in
    let key = c.args.key.now in
    ap (λ places. with_key g.K.Keying.key_of key (filter_map (slice_get items) places)) c.few_places.ensures
    ∙ few_found g.K.Keying.key_of key items
