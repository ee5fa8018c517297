use Rattle.std.proofs.Common.{ap, ◌∙◌}
use Rattle.std.specs.Prelude.{option_map}
use Rattle.xa_store.proofs.Common.{IsVersion, version_text, is_version, is_if_any}
use Rattle.xa_store.proofs.AsciiLemmas.{version_texts}
use Rattle.xa_store.proofs.change.laws.version_reads_back.Goals as goal

pub returns-in-Some-clause-reads : goal.returns-in-Some-clause-reads
returns-in-Some-clause-reads c =
    let valid : IsVersion c.in-Some.version = rw c.numbers-numbers.ensures.value at c.numbers-numbers.ensures.valid in
    ap (λ o. is_if_any is_version (option_map version_text o)) c.in-Some.is ∙ version_texts c.in-Some.version valid c.reads_back.ensures
