-- The shape of a document, object by object from the top (XACML 3.0, core, section 5): first the members of an
-- object, and then their values in table order, each with all that is inside it before the next.
use Rattle.std.specs.Prelude.{ℕ, zero, suc, Bool, bytes_eq, if◌then◌else◌, List, [], ◌∷◌, ◌++◌}
use Rattle.std.specs.Prelude.{Option, Some, None, is_some, Result, Ok, Err}
use Rattle.std.specs.List.{list_any}
use Rattle.serde_json.specs.Data.{Data, Items, no_items, item}
use Rattle.serde_json.specs.Find.{as_object}
use Rattle.xa_value.specs.Gives.{◌>>=◌}
use Rattle.xa_expr.specs.declared.expr.Expr.{Expr}
use Rattle.xa_expr.specs.declared.expr.Expr.TheVariants as expr
use Rattle.xa_policy.specs.declared.duty.AttributeAssignmentExpression.{AttributeAssignmentExpression}
use Rattle.xa_policy.specs.declared.duty.DutyExpression.{DutyExpression}
use Rattle.xa_policy.specs.declared.duty.DutyExpressions.{DutyExpressions}
use Rattle.xa_policy.specs.declared.reference.DocumentKind.{DocumentKind}
use Rattle.xa_policy.specs.declared.reference.DocumentKind.TheVariants as kind
use Rattle.xa_policy.specs.declared.reference.Reference.{Reference}
use Rattle.xa_notation.specs.declared.member.Member.{Member}
use Rattle.xa_notation.specs.declared.member.Member.TheVariants as member
use Rattle.xa_notation.specs.declared.notation_error.NotationError.{NotationError}
use Rattle.xa_notation.specs.declared.notation_error.NotationError.TheVariants.{NotJson, UnknownMember, BadValue}
use Rattle.xa_notation.specs.declared.notation_error.NotationError.TheVariants.{TooLarge}
use Rattle.xa_notation.specs.declared.tables.Choice.TheVariants as choice
use Rattle.xa_notation.specs.declared.tables.Object.{Object}
use Rattle.xa_notation.specs.declared.tables.Object.TheVariants as table
use Rattle.xa_notation.specs.declared.written.WrittenAllOf.{WrittenAllOf}
use Rattle.xa_notation.specs.declared.written.WrittenAnyOf.{WrittenAnyOf}
use Rattle.xa_notation.specs.declared.written.WrittenDocument.{WrittenDocument}
use Rattle.xa_notation.specs.declared.written.WrittenMatch.{WrittenMatch}
use Rattle.xa_notation.specs.declared.written.WrittenPolicy.{WrittenPolicy}
use Rattle.xa_notation.specs.declared.written.WrittenRule.{WrittenRule}
use Rattle.xa_notation.specs.declared.written.WrittenSetWithChildren.{WrittenSetWithChildren}
use Rattle.xa_notation.specs.declared.written.WrittenTarget.{WrittenTarget}
use Rattle.xa_notation.specs.declared.written.WrittenTree.{WrittenTree}
use Rattle.xa_notation.specs.declared.written.WrittenTree.TheVariants as tree
use Rattle.xa_notation.specs.declared.written.WrittenVariable.{WrittenVariable}
use Rattle.xa_notation.specs.Json.{at, chosen_member, each, fits, items}
use Rattle.xa_notation.specs.Json.{items_if_any, needed_member, not_empty, optional, text}
use Rattle.xa_notation.specs.Values.{attribute_value, category, description, designator, effect, id}
use Rattle.xa_notation.specs.Values.{pattern, policy_algorithm, rule_algorithm, version}

-- ---- expressions

-- a function of arguments (5.27)
unfoldable pub apply : (Data → Result Expr NotationError) → Data → Result Expr NotationError
apply below d = do
  _ ← fits table.Apply d
  function ← needed_member member.FunctionId d >>= text
  _ ← description (at member.Description d)
  ds ← items_if_any (at member.Expression d)
  arguments ← each below ds
  Ok (expr.Apply function arguments)

-- a function as an argument (5.28)
unfoldable pub function : Data → Result Expr NotationError
function d = do
  _ ← fits table.Function d
  name ← needed_member member.FunctionId d >>= text
  Ok (expr.Function name)

-- a variable (5.24)
unfoldable pub variable_reference : Data → Result Expr NotationError
variable_reference d = do
  _ ← fits table.VariableReference d
  name ← needed_member member.VariableId d >>= text
  Ok (expr.Variable name)

-- the expression that stands under the member's name
abbrev pub expression_named : (Data → Result Expr NotationError) → Member → Data → Result Expr NotationError
expression_named below member.AttributeValue d = attribute_value d >>= (λ v. Ok (expr.Value v))
expression_named below member.AttributeDesignator d = designator d >>= (λ a. Ok (expr.Designator a))
expression_named below member.Apply d = apply below d
expression_named below member.Function d = function d
expression_named below member.VariableReference d = variable_reference d
expression_named below _ d = Err UnknownMember

-- an expression (5.25), by those inside it
unfoldable pub expression_of : (Data → Result Expr NotationError) → Data → Result Expr NotationError
expression_of below d = do
  name ← chosen_member choice.Expression d
  inner ← needed_member name d
  expression_named below name inner

-- an expression in which at most this many stand inside one another, itself included
unfoldable pub expression_within : ℕ → Data → Result Expr NotationError
expression_within zero d = Err NotJson
expression_within (suc depth) d = expression_of (expression_within depth) d

-- an expression: no JSON nests deeper than 127
abbrev pub expression : Data → Result Expr NotationError
expression d = expression_within 128 d

-- ---- targets

-- a match (5.9)
unfoldable pub written_match : Data → Result WrittenMatch NotationError
written_match d = do
  _ ← fits table.Match d
  function ← needed_member member.MatchId d >>= text
  literal ← needed_member member.AttributeValue d >>= attribute_value
  designator ← needed_member member.AttributeDesignator d >>= designator
  Ok (record { function = function; literal = literal; designator = designator })

-- matches that must all be true (5.8)
unfoldable pub written_all_of : Data → Result WrittenAllOf NotationError
written_all_of d = do
  _ ← fits table.AllOf d
  ds ← needed_member member.Match d >>= items >>= not_empty
  matches ← each written_match ds
  Ok (record { matches = matches })

-- alternatives of which one must match (5.7)
unfoldable pub written_any_of : Data → Result WrittenAnyOf NotationError
written_any_of d = do
  _ ← fits table.AnyOf d
  ds ← needed_member member.AllOf d >>= items >>= not_empty
  all_of ← each written_all_of ds
  Ok (record { all_of = all_of })

-- a target (5.6); one that is left out is empty
unfoldable pub written_target_of : Data → Result WrittenTarget NotationError
written_target_of d = do
  _ ← fits table.Target d
  ds ← items_if_any (at member.AnyOf d)
  any_of ← each written_any_of ds
  Ok (record { any_of = any_of })

abbrev pub written_target : Option Data → Result WrittenTarget NotationError
written_target None = Ok (record { any_of = [] })
written_target (Some d) = written_target_of d

-- ---- variables

-- a variable has the name
abbrev pub is_taken : List WrittenVariable → List ℕ → Bool
is_taken variables name = list_any (λ v. bytes_eq v.name name) variables

-- a name that no variable has yet
abbrev pub free_name : List WrittenVariable → List ℕ → Result (List ℕ) NotationError
free_name variables name = if is_taken variables name then Err BadValue else Ok name

-- definitions with one after them (5.23)
unfoldable pub behind_one : List WrittenVariable → Data → Result (List WrittenVariable) NotationError
behind_one variables d = do
  _ ← fits table.VariableDefinition d
  name ← needed_member member.VariableId d >>= text >>= free_name variables
  expression ← needed_member member.Expression d >>= expression
  Ok (variables ++ record { name = name; expression = expression } ∷ [])

-- definitions after others, in order
abbrev pub written_variables : List WrittenVariable → Items → Result (List WrittenVariable) NotationError
written_variables variables no_items = Ok variables
written_variables variables (item d ds) = behind_one variables d >>= (λ vs. written_variables vs ds)

-- ---- obligations and advice

-- an attribute that an obligation or a piece of advice carries (5.41)
unfoldable pub written_assignment : Data → Result (AttributeAssignmentExpression Expr) NotationError
written_assignment d = do
  _ ← fits table.AttributeAssignmentExpression d
  attribute_id ← needed_member member.AttributeId d >>= text
  category ← optional category (at member.Category d)
  issuer ← optional text (at member.Issuer d)
  expression ← needed_member member.Expression d >>= expression
  Ok (record { attribute_id = attribute_id; category = category; issuer = issuer; expression = expression })

abbrev pub written_assignments : Data → Result (List (AttributeAssignmentExpression Expr)) NotationError
written_assignments d = items_if_any (at member.AttributeAssignmentExpression d) >>= each written_assignment

-- an obligation (5.39) or a piece of advice (5.40), by its object and by its members for the id and the effect
unfoldable pub written_duty : Object → Member → Member → Data → Result (DutyExpression Expr) NotationError
written_duty duty id_name effect_name d = do
  _ ← fits duty d
  id ← needed_member id_name d >>= text
  effect ← needed_member effect_name d >>= effect
  assignments ← written_assignments d
  Ok (record { id = id; effect = effect; assignments = assignments })

abbrev pub written_obligation : Data → Result (DutyExpression Expr) NotationError
written_obligation = written_duty table.ObligationExpression member.ObligationId member.FulfillOn

abbrev pub written_advice : Data → Result (DutyExpression Expr) NotationError
written_advice = written_duty table.AdviceExpression member.AdviceId member.AppliesTo

-- the obligations and the advice of a rule, a policy or a policy set (5.37, 5.38)
unfoldable pub written_duties : Data → Result (DutyExpressions Expr) NotationError
written_duties d = do
  obligations ← items_if_any (at member.ObligationExpressions d) >>= each written_obligation
  advice ← items_if_any (at member.AdviceExpressions d) >>= each written_advice
  Ok (record { obligations = obligations; advice = advice })

-- ---- rules, policies and policy sets

-- a rule (5.21)
unfoldable pub written_rule : Data → Result WrittenRule NotationError
written_rule d = do
  _ ← fits table.Rule d
  _ ← needed_member member.RuleId d >>= text
  effect ← needed_member member.Effect d >>= effect
  _ ← description (at member.Description d)
  target ← written_target (at member.Target d)
  condition ← optional expression (at member.Condition d)
  duties ← written_duties d
  Ok (record { effect = effect; target = target; condition = condition; duties = duties })

-- a policy (5.14)
unfoldable pub written_policy : Data → Result WrittenPolicy NotationError
written_policy d = do
  _ ← fits table.Policy d
  id ← needed_member member.PolicyId d >>= id
  version ← needed_member member.Version d >>= version
  algorithm ← needed_member member.RuleCombiningAlgId d >>= rule_algorithm
  _ ← description (at member.Description d)
  target ← written_target (at member.Target d)
  variables ← items_if_any (at member.VariableDefinition d) >>= written_variables []
  rules ← items_if_any (at member.Rule d) >>= each written_rule
  duties ← written_duties d
  Ok (record {
    key = record { kind = kind.Policy; id = id; version = version };
    algorithm = algorithm;
    target = target;
    variables = variables;
    rules = rules;
    duties = duties;
  })

-- a reference (5.10, 5.11)
unfoldable pub reference : DocumentKind → Data → Result Reference NotationError
reference kind d = do
  _ ← fits table.Reference d
  id ← needed_member member.Id d >>= text
  pattern ← optional pattern (at member.Version d)
  earliest ← optional version (at member.EarliestVersion d)
  latest ← optional version (at member.LatestVersion d)
  Ok (record { kind = kind; id = id; version = pattern; earliest = earliest; latest = latest })

-- a policy set (5.1), by its children
unfoldable pub written_set_of : (Data → Result WrittenTree NotationError) → Data
    → Result WrittenSetWithChildren NotationError
written_set_of child d = do
  _ ← fits table.PolicySet d
  id ← needed_member member.PolicySetId d >>= id
  version ← needed_member member.Version d >>= version
  algorithm ← needed_member member.PolicyCombiningAlgId d >>= policy_algorithm
  _ ← description (at member.Description d)
  target ← written_target (at member.Target d)
  children ← items_if_any (at member.Children d) >>= each child
  duties ← written_duties d
  Ok (record {
    set = record {
      key = record { kind = kind.PolicySet; id = id; version = version };
      algorithm = algorithm;
      target = target;
      duties = duties;
    };
    children = children;
  })

-- a policy set as a part of a document
abbrev pub tree_of_set : WrittenSetWithChildren → WrittenTree
tree_of_set s = tree.PolicySet s.set s.children

-- the child of a policy set that stands under the member's name
abbrev pub child_named : (Data → Result WrittenSetWithChildren NotationError) → Member → Data
    → Result WrittenTree NotationError
child_named set member.Policy d = written_policy d >>= (λ p. Ok (tree.Policy p))
child_named set member.PolicySet d = set d >>= (λ s. Ok (tree_of_set s))
child_named set member.PolicyIdReference d = reference kind.Policy d >>= (λ r. Ok (tree.Reference r))
child_named set member.PolicySetIdReference d = reference kind.PolicySet d >>= (λ r. Ok (tree.Reference r))
child_named set _ d = Err UnknownMember

-- a child of a policy set
unfoldable pub written_child : (Data → Result WrittenSetWithChildren NotationError) → Data
    → Result WrittenTree NotationError
written_child set d = do
  name ← chosen_member choice.Child d
  inner ← needed_member name d
  child_named set name inner

-- a policy set inside too many others is too large as soon as its object is met
abbrev pub too_deep : Data → NotationError
too_deep d = if is_some (as_object d) then TooLarge else BadValue

-- a policy set in which at most this many stand inside one another, itself included
unfoldable pub written_set_within : ℕ → Data → Result WrittenSetWithChildren NotationError
written_set_within zero d = Err (too_deep d)
written_set_within (suc depth) d = written_set_of (written_child (written_set_within depth)) d

-- a policy as a whole document, with its key
abbrev pub document_of_policy : WrittenPolicy → WrittenDocument
document_of_policy p = record { key = p.key; tree = tree.Policy p }

-- a policy set as a whole document, with its key
abbrev pub document_of_set : WrittenSetWithChildren → WrittenDocument
document_of_set s = record { key = s.set.key; tree = tree_of_set s }

-- the document that stands under the member's name
abbrev pub document_named : Member → Data → Result WrittenDocument NotationError
document_named member.Policy d = written_policy d >>= (λ p. Ok (document_of_policy p))
document_named member.PolicySet d = written_set_within 8 d >>= (λ s. Ok (document_of_set s))
document_named _ d = Err UnknownMember

-- the whole document
unfoldable pub written_document : Data → Result WrittenDocument NotationError
written_document d = do
  name ← chosen_member choice.Document d
  inner ← needed_member name d
  document_named name inner
