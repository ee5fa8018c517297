use Rattle.std.proofs.Common.{◌≡◌, map, take}
use Rattle.xa_http.specs.parsing.Front.{field_at}
use Rattle.xa_http.proofs.head.read_fields.Given as goal

abbrev pub invariant-loop-header : goal.invariant-loop-header
invariant-loop-header l = l.fields.items ≡ map (field_at l.bytes) (take l.header-index l.headers)
