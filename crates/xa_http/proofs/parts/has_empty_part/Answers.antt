use Rattle.std.proofs.Common.{length, rules, tests}
use Rattle.std.specs.Prelude.{◌==◌, nat_eq}
use Rattle.std.proofs.lemmas.Iterator.Adapters.{YieldsList-from_skip}
use Rattle.std.proofs.lemmas.Iterator.Consumers.{YieldsList-at}
use Rattle.std.proofs.lemmas.Iterator.Search.{any_from_yields_List}
use Rattle.std.proofs.lemmas.Iterator.Splits.{YieldsList-from_slice_split}
use Rattle.xa_http.specs.Routes.{has_empty_part}
use Rattle.xa_http.proofs.parts.has_empty_part.Goals as goal

pub returns : goal.returns
unfolding has_empty_part
returns c =
    any_from_yields_List (λ part. nat_eq (length part) 0) _ _ _ c.any.ensures.ran
    (YieldsList-from_skip 1
    (YieldsList-at c.skip.ensures.source
    (YieldsList-from_slice_split _ (λ b. b == 47) c.args.path.now c.split.ensures.rest c.split.ensures.done c.split.ensures.closure (λ x b q k. search (rules, tests))))
    c.skip.ensures.count)
    (λ x b q k. search (rules, tests))
