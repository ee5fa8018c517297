use Rattle.std.proofs.Common.{ap, ◌∙◌}
use Rattle.std.specs.Prelude.{option_map}
use Rattle.xa_store.proofs.Common.{IsPattern, pattern_text, is_pattern, is_if_any}
use Rattle.xa_store.proofs.AsciiLemmas.{pattern_texts}
use Rattle.xa_store.proofs.change.laws.pattern_reads_back.Goals as goal

pub returns-in-Some-clause-reads : goal.returns-in-Some-clause-reads
returns-in-Some-clause-reads c =
    let valid : IsPattern c.in-Some.pattern = rw c.parts-parts.ensures.value at c.parts-parts.ensures.valid in
    ap (λ o. is_if_any is_pattern (option_map pattern_text o)) c.in-Some.is ∙ pattern_texts c.in-Some.pattern valid c.reads_back.ensures
