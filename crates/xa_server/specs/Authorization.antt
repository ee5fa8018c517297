-- The token that a message shows (RFC 9110, section 11.6.2; RFC 6750, section 2.1).
use Rattle.std.specs.Prelude.{ℕ, ◌==◌, List, [], ◌∷◌, take, drop, Option, Some, None, option_and_then, if◌then◌else◌}
use Rattle.std.specs.Prelude.{codes}
use Rattle.std.specs.Str.{str_eq_ignore_ascii_case}
use Rattle.xa_http.specs.declared.message.Field.{Field}
use Rattle.xa_http.specs.Fields.{values_of}
use Rattle.xa_notation.specs.Tokens.{is_token}

-- a text from its first byte that is no space
abbrev pub after_spaces : List ℕ → List ℕ
after_spaces [] = []
after_spaces (c ∷ cs) = if c == 32 then after_spaces cs else c ∷ cs

-- the credentials: what follows the scheme `Bearer`, written in any case (RFC 9110, section 11.1), and at least one
-- space
unfoldable pub credentials_of : List ℕ → Option (List ℕ)
credentials_of value =
    if str_eq_ignore_ascii_case (take 7 value) (codes "Bearer ") then Some (after_spaces (drop 7 value)) else None

-- the item of a list of one; nothing of any other
abbrev pub the_only : {X : Type 0} → List X → Option X
the_only [] = None
the_only (x ∷ []) = Some x
the_only (x ∷ _ ∷ _) = None

-- a text, if it is a token
abbrev pub token_if : List ℕ → Option (List ℕ)
token_if text = if is_token text then Some text else None

-- the token that the fields of a message show: that of the one Authorization field
unfoldable pub token_in : List Field → Option (List ℕ)
token_in fields =
    option_and_then token_if (option_and_then credentials_of (the_only (values_of (codes "Authorization") fields)))
