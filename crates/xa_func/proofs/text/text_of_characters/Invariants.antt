use Rattle.std.proofs.Common.{◌≡◌, ◌++◌, drop}
use Rattle.std.specs.Prelude.{string_bytes, encode_utf8_all}
use Rattle.xa_func.proofs.text.text_of_characters.Given as goal

-- the rest of the characters complete the text
abbrev pub invariant-loop-character : goal.invariant-loop-character
invariant-loop-character l = string_bytes l.text ++ encode_utf8_all (drop l.character-index l.characters) ≡ encode_utf8_all l.characters
