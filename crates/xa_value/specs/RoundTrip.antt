-- Reading and printing undo each other.
use Rattle.std.specs.Prelude.{◌≡◌, ℕ, List, Ok}
use Rattle.xa_value.specs.declared.data_type.DataType.{DataType}
use Rattle.xa_value.specs.declared.value.Value.{Value}
use Rattle.xa_value.specs.Reading.{read}
use Rattle.xa_value.specs.Printing.{printed}

-- the value that the text stands for prints as a text that reads as the same value
abbrev pub ReadsBack : DataType → List ℕ → Type 0
ReadsBack type text = (v : Value) → read type text ≡ Ok v → read type (printed v) ≡ Ok v
