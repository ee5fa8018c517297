use Rattle.std.proofs.Common.{◌≡◌, drop}
use Rattle.xa_http.specs.Fields.{values_of}
use Rattle.xa_http.proofs.fields.first_value.Given as goal

abbrev pub invariant-loop-i : goal.invariant-loop-i
invariant-loop-i l = values_of l.name l.fields ≡ values_of l.name (drop l.i l.fields)
