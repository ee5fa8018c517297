use Rattle.std.proofs.Common.{rules, tests}
use Rattle.std.specs.Prelude.{◌==◌}
use Rattle.std.proofs.lemmas.Iterator.{YieldsList-from_map_by}
use Rattle.std.proofs.lemmas.Iterator.Consumers.{YieldsList-at}
use Rattle.std.proofs.lemmas.Iterator.Search.{any_from_yields_List}
use Rattle.std.proofs.lemmas.Iterator.Splits.{YieldsList-from_slice_split}
use Rattle.httparse.specs.Grammar.{trim_ows}
use Rattle.xa_http.specs.Closing.{is_close}
use Rattle.xa_http.proofs.closing.names_close.Goals as goal

pub returns : goal.returns
returns c =
    any_from_yields_List is_close _ _ _ c.any.ensures.ran
    (YieldsList-from_map_by _ (λ r. r.now) trim_ows
    (YieldsList-at c.map.ensures.source
    (YieldsList-from_slice_split _ (λ b. b == 44) c.args.list.now c.split.ensures.rest c.split.ensures.done c.split.ensures.closure (λ x b q k. search (rules, tests))))
    c.map.ensures.closure (λ x r q k. search (rules, tests)))
    (λ x b q k. search (rules, tests))
