-- The tokens of a text that may be left out of a row.
use Rattle.std.specs.Prelude.{ℕ, List, [], ◌∷◌, Option, Some, None}
use Rattle.json.specs.Token.{Token, key, string}
use Rattle.xa_notation.specs.declared.member.Member.{Member}
use Rattle.xa_notation.specs.Tables.{name_of}

abbrev pub text_if_any_tokens : Member → Option (List ℕ) → List Token
text_if_any_tokens name None = []
text_if_any_tokens name (Some text) = key (name_of name) ∷ string text ∷ []
