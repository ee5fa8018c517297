-- The values that members of a document have: ids, versions, effects, algorithms, types and categories, and then
-- literals and attribute designators (XACML 3.0, core, section 5).
use Rattle.std.specs.Prelude.{ℕ, ◌&&◌, nat_le, bytes_eq, codes, if◌then◌else◌, List, length}
use Rattle.std.specs.Prelude.{Option, Some, None, option_and_then, Result, Ok, Err}
use Rattle.std.specs.Option.{ok_or}
use Rattle.serde_json.specs.Data.{Data, null, boolean, number, string, array, object}
use Rattle.serde_json.specs.Find.{as_integer}
use Rattle.xa_value.specs.declared.data_type.DataType.{DataType}
use Rattle.xa_value.specs.declared.plain.Plain.{Plain}
use Rattle.xa_value.specs.declared.plain.Plain.TheVariants as plain
use Rattle.xa_value.specs.declared.value.Value.{Value}
use Rattle.xa_value.specs.Category.{category_uri}
use Rattle.xa_value.specs.Gives.{◌>>=◌}
use Rattle.xa_value.specs.Plain.{from_plain}
use Rattle.xa_value.specs.Types.{type_named}
use Rattle.xa_expr.specs.declared.designator.Designator.{Designator}
use Rattle.xa_policy.specs.declared.combining.Alg.{Alg}
use Rattle.xa_policy.specs.declared.decision.Effect.{Effect}
use Rattle.xa_policy.specs.declared.decision.Effect.TheVariants.{Permit, Deny}
use Rattle.xa_policy.specs.declared.pattern.PatternPart.{PatternPart}
use Rattle.xa_policy.specs.Pattern.{read_pattern}
use Rattle.xa_policy.specs.Version.{read_version}
use Rattle.xa_notation.specs.declared.member.Member.TheVariants as member
use Rattle.xa_notation.specs.declared.notation_error.NotationError.{NotationError}
use Rattle.xa_notation.specs.declared.notation_error.NotationError.TheVariants.{BadValue, UnknownAlgorithm}
use Rattle.xa_notation.specs.declared.tables.Object.TheVariants as table
use Rattle.xa_notation.specs.Algorithms.{rule_algorithm_named, policy_algorithm_named}
use Rattle.xa_notation.specs.Json.{at, fits, flag, needed_member, optional, text}

-- ---- plain values

-- what another reader gives, and else a bad value
abbrev pub or_bad : {X E : Type 0} → Result X E → Result X NotationError
or_bad (Ok x) = Ok x
or_bad (Err e) = Err BadValue

-- the id of a policy or a policy set: 1 to 512 bytes
abbrev pub fitting_id : List ℕ → Result (List ℕ) NotationError
fitting_id t = if nat_le 1 (length t) && nat_le (length t) 512 then Ok t else Err BadValue

abbrev pub id : Data → Result (List ℕ) NotationError
id d = text d >>= fitting_id

-- a version (5.12)
abbrev pub version : Data → Result (List ℕ) NotationError
version d = text d >>= (λ t. or_bad (read_version t))

-- a pattern of versions (5.13)
abbrev pub pattern : Data → Result (List PatternPart) NotationError
pattern d = text d >>= (λ t. or_bad (read_pattern t))

-- an effect (5.22)
unfoldable pub effect_named : List ℕ → Result Effect NotationError
effect_named t =
    if bytes_eq t (codes "Permit") then Ok Permit else if bytes_eq t (codes "Deny") then Ok Deny else Err BadValue

abbrev pub effect : Data → Result Effect NotationError
effect d = text d >>= effect_named

-- the algorithm of a policy
abbrev pub rule_algorithm : Data → Result Alg NotationError
rule_algorithm d = text d >>= (λ t. ok_or (rule_algorithm_named t) UnknownAlgorithm)

-- the algorithm of a policy set
abbrev pub policy_algorithm : Data → Result Alg NotationError
policy_algorithm d = text d >>= (λ t. ok_or (policy_algorithm_named t) UnknownAlgorithm)

-- a data type, by its URI or its name alone
abbrev pub data_type : Data → Result DataType NotationError
data_type d = text d >>= (λ t. ok_or (type_named t) BadValue)

-- a category, by its URI or its shorthand
abbrev pub category : Data → Result (List ℕ) NotationError
category d = text d >>= (λ t. Ok (category_uri t))

-- a description says nothing to a decision; it is a text
abbrev pub description : Option Data → Result (Unit {0}) NotationError
description None = Ok tt
description (Some d) = text d >>= (λ _. Ok tt)

-- ---- values and designators

-- a text, a boolean or a whole number
abbrev pub plain_value : Data → Option (Plain (List ℕ))
plain_value null = None
plain_value (boolean b) = Some (plain.Boolean b)
plain_value (number n) = option_and_then (λ z. Some (plain.Integer z)) (as_integer n)
plain_value (string s) = Some (plain.Text s)
plain_value (array ds) = None
plain_value (object ms) = None

-- a literal's value, of the type
abbrev pub literal : DataType → Data → Result Value NotationError
literal type d = ok_or (plain_value d) BadValue >>= (λ p. or_bad (from_plain type p))

-- a literal (5.31)
unfoldable pub attribute_value : Data → Result Value NotationError
attribute_value d = do
  _ ← fits table.AttributeValue d
  type ← needed_member member.DataType d >>= data_type
  needed_member member.Value d >>= literal type

-- an attribute designator (5.29)
unfoldable pub designator : Data → Result Designator NotationError
designator d = do
  _ ← fits table.AttributeDesignator d
  category ← needed_member member.Category d >>= category
  attribute_id ← needed_member member.AttributeId d >>= text
  type ← needed_member member.DataType d >>= data_type
  must_be_present ← needed_member member.MustBePresent d >>= flag
  issuer ← optional text (at member.Issuer d)
  Ok (record {
    category = category;
    attribute_id = attribute_id;
    data_type = type;
    must_be_present = must_be_present;
    issuer = issuer;
  })
