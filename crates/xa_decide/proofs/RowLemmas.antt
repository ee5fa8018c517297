-- The tokens of a row's members.
use Rattle.std.proofs.Common.{◌≡◌, ℕ, List, ◌++◌, refl}
use Rattle.std.specs.Prelude.{Option, Some, None}
use Rattle.serde_json.specs.Data.{Members}
use Rattle.json.specs.Tree.{members_tokens}
use Rattle.serde_json.specs.Written.{members_outline}
use Rattle.xa_notation.specs.declared.member.Member.{Member}
use Rattle.xa_decide.specs.Rows.{with_text_if_any}
use Rattle.xa_decide.specs.writing.Tokens.{text_if_any_tokens}

-- those of a text that may be left out stand before the others
pub text_if_any_first : (name : Member) (text : Option (List ℕ)) (others : Members)
    → members_tokens (members_outline (with_text_if_any name text others)) ≡ text_if_any_tokens name text ++ members_tokens (members_outline others)
text_if_any_first name None others = refl
text_if_any_first name (Some text) others = refl
