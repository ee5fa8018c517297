-- Strings as values (XACML 3.0, core, appendix A.3.9).
use Rattle.std.specs.Prelude.{ℕ, List, Result, Ok, Err}
use Rattle.xa_value.specs.declared.data_type.DataType.{DataType}
use Rattle.xa_value.specs.declared.value.Value.{Value}
use Rattle.xa_value.specs.declared.read_error.ReadError.{ReadError}
use Rattle.xa_value.specs.Reading.{read}
use Rattle.xa_func.specs.declared.fault.FuncFault.{FuncFault}
use Rattle.xa_func.specs.declared.fault.FuncFault.TheVariants.{BadText}

-- a text that does not read is a bad text
abbrev pub or_bad_text : {X : Type 0} → Result X ReadError → Result X FuncFault
or_bad_text (Ok x) = Ok x
or_bad_text (Err e) = Err BadText

-- the value that the text stands for
abbrev pub value_of : DataType → List ℕ → Result Value FuncFault
value_of t text = or_bad_text (read t text)
