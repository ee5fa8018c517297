use Rattle.std.proofs.Common.{◌≡◌, ◌∙◌, ap, true, refl}
use Rattle.std.specs.Prelude.{string_bytes}
use Rattle.std.specs.Str.{is_utf8}
use Rattle.std.proofs.lemmas.Str.{IsUtf8-had, is_utf8-from_IsUtf8}
use Rattle.xa_value.proofs.text.Text.from_utf8.Goals as goal

-- a string is UTF-8, and its bytes are those bytes
pub returns : goal.returns
returns c =
    let same : string_bytes c.in-Ok.string ≡ c.args.bytes = ap (λ v. v.items) c.in-Ok.ensures.ok ∙ c.into_vec.ensures in
    let text : is_utf8 c.args.bytes ≡ true = rw (← same) (is_utf8-from_IsUtf8 (string_bytes c.in-Ok.string) (IsUtf8-had (string_bytes c.in-Ok.string) c.in-Ok.string.ok)) in
    rw (c.from_string.ensures, same, text) refl
