-- The status codes of faults (XACML 3.0, core, section 7.5 and appendix B.8).
use Rattle.std.specs.Prelude.{Result, Ok, Err}
use Rattle.xa_func.specs.declared.fault.FuncFault.{FuncFault}
use Rattle.xa_func.specs.declared.status.Status.{Status}
use Rattle.xa_func.specs.declared.status.Status.TheVariants as status
use Rattle.xa_func.specs.Fault as func
use Rattle.xa_bag.specs.declared.fault.BagFault.{BagFault}
use Rattle.xa_bag.specs.Fault as bag
use Rattle.xa_expr.specs.declared.fault.Fault.{Fault}
use Rattle.xa_expr.specs.declared.fault.Fault.TheVariants.{MissingAttribute, SyntaxError, ProcessingError}

-- the code of a fault
abbrev pub status_of : Fault → Status
status_of MissingAttribute = status.MissingAttribute
status_of SyntaxError = status.SyntaxError
status_of ProcessingError = status.ProcessingError

-- the fault that has a code; no fault has `ok`
abbrev pub fault_with : Status → Fault
fault_with status.MissingAttribute = MissingAttribute
fault_with status.SyntaxError = SyntaxError
fault_with _ = ProcessingError

-- a function's result, its fault told by the code alone
abbrev pub of_function : {X : Type 0} → Result X FuncFault → Result X Fault
of_function (Ok x) = Ok x
of_function (Err fault) = Err (fault_with (func.status_of fault))

abbrev pub of_bag_function : {X : Type 0} → Result X (BagFault FuncFault) → Result X Fault
of_bag_function (Ok x) = Ok x
of_bag_function (Err fault) = Err (fault_with (bag.status_of fault))
