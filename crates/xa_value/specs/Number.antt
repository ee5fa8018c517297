-- The text of booleans (XML Schema, part 2, section 3.2.2). That of integers is std's `signed_decimal`.
use Rattle.std.specs.Prelude.{ℕ, Bool, if◌then◌else◌, List, codes}

unfoldable pub boolean_text : Bool → List ℕ
boolean_text b = if b then codes "true" else codes "false"
