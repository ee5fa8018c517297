use Rattle.std.proofs.Common.{◌≡◌, ◌++◌, map}
use Rattle.std.specs.FinMap.{entries}
use Rattle.xa_records.specs.Readings.{listed_of}
use Rattle.xa_records.proofs.plain.documents.Documents.list.Given as goal

abbrev pub invariant-loop-key : goal.invariant-loop-key
invariant-loop-key l = l.listed.items ++ map listed_of l.key-iterator ≡ map listed_of (entries l.self)
