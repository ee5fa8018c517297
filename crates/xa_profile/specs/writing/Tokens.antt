-- The tokens that are put after those that a writer of JSON has written.
use Rattle.std.specs.Prelude.{◌≡◌, ℕ, List, [], ◌∷◌, ◌++◌, Option, Some, None, Result, OnOk}
use Rattle.json.specs.Token.{Token, key, string}
use Rattle.json.specs.Tree.{json_tokens, items_tokens}
use Rattle.json.specs.Written.{Written}
use Rattle.serde_json.specs.Data.{Data}
use Rattle.serde_json.specs.View.{items_of}
use Rattle.serde_json.specs.Written.{outline, items_outline}
use Rattle.xa_profile.specs.declared.member.Member.{Member}
use Rattle.xa_profile.specs.Member.{name_of}
use Rattle.xa_policy.specs.declared.document_key.DocumentKey.{DocumentKey}
use Rattle.xa_profile.specs.declared.member.Member.TheVariants as member
use Rattle.xa_profile.specs.Response.{identifiers_data, listing}

-- the tokens of a value
abbrev pub tokens : Data → List Token
tokens d = json_tokens (outline d)

-- the tokens of an array after its opening bracket
abbrev pub items_behind : List Data → List Token
items_behind ds = items_tokens (items_outline (items_of ds))

-- the tokens of a member
abbrev pub member_tokens : Member → Data → List Token
member_tokens name d = key (name_of name) ∷ tokens d

-- the tokens of a text that may be left out
abbrev pub text_if_any_tokens : Member → Option (List ℕ) → List Token
text_if_any_tokens name None = []
text_if_any_tokens name (Some text) = key (name_of name) ∷ string text ∷ []

-- the tokens of an array that is left out if it is empty
abbrev pub items_if_any_tokens : Member → List Data → List Token
items_if_any_tokens name [] = []
items_if_any_tokens name (d ∷ ds) = member_tokens name (listing (d ∷ ds))

-- the tokens of the policies and policy sets that are named
abbrev pub identifiers_if_any_tokens : List DocumentKey → List Token
identifiers_if_any_tokens [] = []
identifiers_if_any_tokens (k ∷ ks) = member_tokens member.PolicyIdentifierList (identifiers_data (k ∷ ks))

-- these tokens were written after those that there were, unless writing failed
abbrev pub Appends : {E : Type 0} → Result (Unit {0}) E → Written → Written → List Token → Type 0
Appends r old new ts = OnOk r ((new.before ≡ old.before) × (new.tokens ≡ old.tokens ++ ts))
