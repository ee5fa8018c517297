-- How bytes are read.
use Rattle.std.specs.Prelude.{ℕ, List, Result, Ok, Err}
use Rattle.hex.specs.Hex.{decode_of}
use Rattle.base64.specs.GeneralPurpose.{decode_of as decode_by}
use Rattle.base64.specs.Engines.{standard}
use Rattle.xa_value.specs.declared.read_error.ReadError.{ReadError}
use Rattle.xa_value.specs.declared.read_error.ReadError.TheVariants.{NotThisType}
use Rattle.xa_value.specs.Binary.{without_blanks}

-- a text that does not decode is not of the type
abbrev pub or_not_this_type : {X E : Type 0} → Result X E → Result X ReadError
or_not_this_type (Ok x) = Ok x
or_not_this_type (Err e) = Err NotThisType

-- two hexadecimal digits for each byte
unfoldable pub read_hex : List ℕ → Result (List ℕ) ReadError
read_hex text = or_not_this_type (decode_of text)

-- the standard alphabet, padded, once white space is dropped
unfoldable pub read_base64 : List ℕ → Result (List ℕ) ReadError
read_base64 text = or_not_this_type (decode_by standard (without_blanks text))
