use Rattle.std.proofs.Common.{◌≡◌, ◌++◌}
use Rattle.std.specs.FinMap.{entries}
use Rattle.xa_records.specs.Readings.{active_among}
use Rattle.xa_records.proofs.plain.documents.Documents.active_texts.Given as goal

abbrev pub invariant-loop-key : goal.invariant-loop-key
invariant-loop-key l = l.texts.items ++ active_among l.key-iterator ≡ active_among (entries l.self)
