use Rattle.std.proofs.Common.{rules, w64}
use Rattle.xa_store.proofs.Common.{to_z-of_z}
use Rattle.xa_records.specs.declared.refusal.Failure.TheVariants.{Store}
use Rattle.xa_store.proofs.ColumnNumbers.{type_read}
use Rattle.xa_store.proofs.query.cell.type_in.Goals as goal

pub returns : goal.returns
returns c =
    let n = to_z-of_z w64 c.in_ok-number.number (search rules) in
    rw (c.in_ok-number.ensures, c.ok_or.ensures.value, c.type_numbered.ensures, n) (type_read c.in_ok-number.number Store)
