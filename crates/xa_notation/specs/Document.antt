-- The document that a text is, or why it is none: its size, its JSON, its shape and its typing, in this order.
use Rattle.std.specs.Prelude.{ℕ, nat_lt, if◌then◌else◌, List, length, Result, Ok, Err}
use Rattle.xa_value.specs.Gives.{◌>>=◌}
use Rattle.xa_expr.specs.declared.check_error.CheckError.{CheckError}
use Rattle.xa_notation.specs.declared.document.Parsed.{Parsed}
use Rattle.xa_notation.specs.declared.notation_error.NotationError.{NotationError}
use Rattle.xa_notation.specs.declared.notation_error.NotationError.TheVariants.{IllTyped, TooLarge}
use Rattle.xa_notation.specs.declared.written.WrittenDocument.{WrittenDocument}
use Rattle.xa_notation.specs.Json.{json}
use Rattle.xa_notation.specs.Shape.{written_document}
use Rattle.xa_notation.specs.Typing.{typed_tree}

-- a fault of typing
abbrev pub or_ill_typed : {X : Type 0} → Result X CheckError → Result X NotationError
or_ill_typed (Ok x) = Ok x
or_ill_typed (Err e) = Err (IllTyped e)

-- the typed document
abbrev pub typed_document : WrittenDocument → Result Parsed NotationError
typed_document w =
    or_ill_typed (typed_tree w.tree)
    >>= (λ document. Ok (record { kind = w.key.kind; id = w.key.id; version = w.key.version; document = document }))

-- the document as a text writes it: its JSON, and then its shape
abbrev pub document_as_written : List ℕ → Result WrittenDocument NotationError
document_as_written text = json text >>= written_document

-- the document of a text of at most 65,536 bytes
unfoldable pub document_of : List ℕ → Result Parsed NotationError
document_of text = if nat_lt 65_536 (length text) then Err TooLarge else document_as_written text >>= typed_document
