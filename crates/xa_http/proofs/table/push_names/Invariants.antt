use Rattle.std.proofs.Common.{◌≡◌, ◌++◌, drop}
use Rattle.xa_http.specs.Table.{names_in}
use Rattle.xa_http.proofs.TableLemmas.{further_names}
use Rattle.xa_http.proofs.table.push_names.Given as goal

abbrev pub invariant-loop-method : goal.invariant-loop-method
invariant-loop-method l =
    l.fn.bytes.items ++ names_in l.rows ≡ l.bytes.items ++ further_names (drop l.method-index l.others)
