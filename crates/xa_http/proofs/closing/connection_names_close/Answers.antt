use Rattle.std.proofs.Common.{codes, rules, tests}
use Rattle.std.proofs.lemmas.Iterator.{YieldsList-from_map_by, YieldsList-from_slice}
use Rattle.std.proofs.lemmas.Iterator.Consumers.{YieldsList-at, YieldsList-from_filter}
use Rattle.std.proofs.lemmas.Iterator.Search.{any_from_yields_List}
use Rattle.xa_http.specs.declared.message.Field.{Field}
use Rattle.xa_http.specs.Closing.{names_close}
use Rattle.xa_http.specs.Fields.{is_named}
use Rattle.xa_http.proofs.closing.connection_names_close.Goals as goal

pub returns : goal.returns
returns c =
    any_from_yields_List names_close _ _ _ c.any.ensures.ran
    (YieldsList-from_map_by _ (λ r. r.now) (λ (f : Field). f.value)
    (YieldsList-at c.map.ensures.source
    (YieldsList-from_filter _ (is_named (codes "Connection")) (YieldsList-from_slice c.args.fields.now cc) c.filter.ensures.closure (λ x b q k. search (rules, tests))))
    c.map.ensures.closure (λ x r q k. search (rules, tests)))
    (λ x b q k. search (rules, tests))
