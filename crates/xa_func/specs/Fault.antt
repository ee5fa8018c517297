-- The status code for which a function's fault stands (XACML 3.0, core, section 7.5 and appendix B.8).
use Rattle.xa_func.specs.declared.fault.FuncFault.{FuncFault}
use Rattle.xa_func.specs.declared.fault.FuncFault.TheVariants.{ZeroDivisor, Overflow, BadText, Position, CalendarRange}
use Rattle.xa_func.specs.declared.status.Status.{Status}
use Rattle.xa_func.specs.declared.status.Status.TheVariants.{ProcessingError, SyntaxError}

-- a text that does not read is a syntax error, every other fault a processing error
abbrev pub status_of : FuncFault → Status
status_of BadText = SyntaxError
status_of ZeroDivisor = ProcessingError
status_of Overflow = ProcessingError
status_of Position = ProcessingError
status_of CalendarRange = ProcessingError
