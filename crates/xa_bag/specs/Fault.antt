-- The status code for which the fault of a bag or higher-order function stands (XACML 3.0, core, appendices
-- A.3.10, A.3.12 and B.8).
use Rattle.xa_func.specs.declared.fault.FuncFault.{FuncFault}
use Rattle.xa_func.specs.declared.status.Status.{Status}
use Rattle.xa_func.specs.declared.status.Status.TheVariants.{ProcessingError}
use Rattle.xa_func.specs.Fault as func
use Rattle.xa_bag.specs.declared.fault.BagFault.{BagFault}
use Rattle.xa_bag.specs.declared.fault.BagFault.TheVariants.{NotOne, Inner}

-- an inner function's fault keeps its own code
abbrev pub status_of : BagFault FuncFault → Status
status_of NotOne = ProcessingError
status_of (Inner fault) = func.status_of fault
