use Rattle.std.proofs.Common.{◌≡◌, ◌++◌, map}
use Rattle.std.specs.FinMap.{entries}
use Rattle.xa_records.specs.Readings.{token_of}
use Rattle.xa_records.proofs.plain.tokens.Tokens.list.Given as goal

abbrev pub invariant-loop-digest : goal.invariant-loop-digest
invariant-loop-digest l = l.tokens.items ++ map token_of l.digest-iterator ≡ map token_of (entries l.self)
