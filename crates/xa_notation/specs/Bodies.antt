-- The bodies of the messages that administer a domain: its tokens and its root. They are checked as documents are:
-- JSON, then the members of an object, then their values in table order.
use Rattle.std.specs.Prelude.{ℕ, ◌==◌, if◌then◌else◌, List, bytes_eq, codes, Option, Some, None, Result, Ok, Err}
use Rattle.serde_json.specs.Data.{Data}
use Rattle.xa_value.specs.Gives.{◌>>=◌}
use Rattle.xa_policy.specs.declared.reference.DocumentKind.TheVariants as kind
use Rattle.xa_policy.specs.declared.reference.Reference.{Reference}
use Rattle.xa_notation.specs.declared.member.Member.{Member}
use Rattle.xa_notation.specs.declared.member.Member.TheVariants as member
use Rattle.xa_notation.specs.declared.notation_error.NotationError.{NotationError}
use Rattle.xa_notation.specs.declared.notation_error.NotationError.TheVariants.{UnknownMember, BadValue}
use Rattle.xa_notation.specs.declared.tables.Choice.TheVariants as choice
use Rattle.xa_notation.specs.declared.tables.Object.TheVariants as table
use Rattle.xa_notation.specs.declared.token.Role.{Role}
use Rattle.xa_notation.specs.declared.token.Role.TheVariants.{Ask, Admin}
use Rattle.xa_notation.specs.declared.token_body.NewToken.{NewToken}
use Rattle.xa_notation.specs.Json.{chosen_member, fits, json, needed_member, size_of, text}
use Rattle.xa_notation.specs.Shape.{reference}
use Rattle.xa_notation.specs.Tokens.{is_token}

-- ---- tokens

-- the role of a name
unfoldable pub role_named : List ℕ → Result Role NotationError
role_named t =
    if bytes_eq t (codes "ask") then Ok Ask else if bytes_eq t (codes "admin") then Ok Admin else Err BadValue

abbrev pub role : Data → Result Role NotationError
role d = text d >>= role_named

-- a text that is a token
abbrev pub fitting_token : List ℕ → Result (List ℕ) NotationError
fitting_token t = if is_token t then Ok t else Err BadValue

abbrev pub token : Data → Result (List ℕ) NotationError
token d = text d >>= fitting_token

-- a token that a domain gets, with its role
unfoldable pub new_token : Data → Result NewToken NotationError
new_token d = do
  _ ← fits table.NewToken d
  role ← needed_member member.Role d >>= role
  token ← needed_member member.Token d >>= token
  Ok (record { role = role; token = token })

-- a token that a domain loses
unfoldable pub old_token : Data → Result (List ℕ) NotationError
old_token d = do
  _ ← fits table.OldToken d
  needed_member member.Token d >>= token

-- a token that a domain gets, with its role, as a body writes it
unfoldable pub new_token_of : List ℕ → Result NewToken NotationError
new_token_of body = json body >>= new_token

-- a token that a domain loses, as a body writes it
unfoldable pub old_token_of : List ℕ → Result (List ℕ) NotationError
old_token_of body = json body >>= old_token

-- ---- the root

-- the reference that stands under the member's name
abbrev pub root_named : Member → Data → Result Reference NotationError
root_named member.PolicyIdReference d = reference kind.Policy d
root_named member.PolicySetIdReference d = reference kind.PolicySet d
root_named _ d = Err UnknownMember

-- the one reference of an object that has one
unfoldable pub chosen_root : Data → Result Reference NotationError
chosen_root d = do
  name ← chosen_member choice.Root d
  inner ← needed_member name d
  root_named name inner

-- the root, and none if the object has no members
unfoldable pub root : Data → Result (Option Reference) NotationError
root d = do
  size ← size_of d
  if size == 0 then Ok None else chosen_root d >>= (λ reference. Ok (Some reference))

-- the root that a body sets
unfoldable pub root_of : List ℕ → Result (Option Reference) NotationError
root_of body = json body >>= root
