use Rattle.std.proofs.Common.{◌≡◌, ◌++◌}
use Rattle.xa_records.specs.Kept.{names_of}
use Rattle.xa_records.proofs.plain.domains.Domains.names.Given as goal

abbrev pub invariant-loop-name : goal.invariant-loop-name
invariant-loop-name l = l.names.items ++ l.name-iterator ≡ names_of l.self
