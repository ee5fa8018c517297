-- The typing of a document, in table order (XACML 3.0, core, section 5): a match's function takes the literal and a
-- value of the designator's type and gives a boolean, a condition is a boolean, and a variable is defined before it
-- is used.
use Rattle.std.specs.Prelude.{if◌then◌else◌, List, [], ◌∷◌, ◌++◌, map, Result, Ok}
use Rattle.xa_value.specs.Gives.{◌>>=◌}
use Rattle.xa_bag.specs.HigherOrder.{collected}
use Rattle.xa_expr.specs.declared.check_error.CheckError.{CheckError}
use Rattle.xa_expr.specs.declared.target.AllOf.{AllOf}
use Rattle.xa_expr.specs.declared.target.AnyOf.{AnyOf}
use Rattle.xa_expr.specs.declared.target.Target.{Target}
use Rattle.xa_expr.specs.declared.typed.Typed.{Typed}
use Rattle.xa_expr.specs.declared.variables.Definition.{Definition}
use Rattle.xa_expr.specs.declared.match_.Match.{Match}
use Rattle.xa_expr.specs.Match.{matched}
use Rattle.xa_expr.specs.Typing.{checked}
use Rattle.xa_expr.specs.Variables.{is_defined}
use Rattle.xa_policy.specs.declared.rule.Rule.{Rule}
use Rattle.xa_policy.specs.Checking.{checked_duties, checked_rule}
use Rattle.xa_policy.specs.Policy.{PolicyParts, policy_key, set_key}
use Rattle.xa_notation.specs.declared.document.Document.{Document}
use Rattle.xa_notation.specs.declared.document.Document.TheVariants as document
use Rattle.xa_notation.specs.declared.written.WrittenAllOf.{WrittenAllOf}
use Rattle.xa_notation.specs.declared.written.WrittenAnyOf.{WrittenAnyOf}
use Rattle.xa_notation.specs.declared.written.WrittenMatch.{WrittenMatch}
use Rattle.xa_notation.specs.declared.written.WrittenPolicy.{WrittenPolicy}
use Rattle.xa_notation.specs.declared.written.WrittenRule.{WrittenRule}
use Rattle.xa_notation.specs.declared.written.WrittenSet.{WrittenSet}
use Rattle.xa_notation.specs.declared.written.WrittenTarget.{WrittenTarget}
use Rattle.xa_notation.specs.declared.written.WrittenTree.{WrittenTree, fold-WrittenTree}
use Rattle.xa_notation.specs.declared.written.WrittenTree.TheOpen.{WrittenTree-F}
use Rattle.xa_notation.specs.declared.written.WrittenVariable.{WrittenVariable}

-- a match (5.9)
abbrev pub typed_match : WrittenMatch → Result Match CheckError
typed_match m = matched m.function m.literal m.designator

-- an AllOf (5.8): its matches, in order
abbrev pub typed_all_of : WrittenAllOf → Result AllOf CheckError
typed_all_of a = collected (map typed_match a.matches) >>= (λ matches. Ok (record { matches = matches }))

-- an AnyOf (5.7): each AllOf of it, in order
abbrev pub typed_any_of : WrittenAnyOf → Result AnyOf CheckError
typed_any_of a = collected (map typed_all_of a.all_of) >>= (λ all_of. Ok (record { all_of = all_of }))

-- a target (5.6): each AnyOf of it, in order
abbrev pub typed_target : WrittenTarget → Result Target CheckError
typed_target t = collected (map typed_any_of t.any_of) >>= (λ any_of. Ok (record { any_of = any_of }))

-- variables (5.23), after those before them: an expression may name what is before it. Of two of one name the first
-- stands.
abbrev pub typed_variables : List Definition → List WrittenVariable → Result (List Definition) CheckError
typed_variables before [] = Ok before
typed_variables before (v ∷ vs) =
    if is_defined before v.name then typed_variables before vs else checked before v.expression
    >>= (λ expression. typed_variables (before ++ record { name = v.name; expression = expression } ∷ []) vs)

-- a rule (5.21) under the policy's variables: its target, its condition, its obligations and its advice
abbrev pub typed_rule : List Definition → WrittenRule → Result (Rule Typed) CheckError
typed_rule variables r =
    typed_target r.target >>= (λ target.
    checked_rule variables (record { effect = r.effect; target = target; condition = r.condition; duties = r.duties }))

-- a policy (5.14): its target, its variables, its rules, its obligations and its advice
unfoldable pub typed_policy : WrittenPolicy → Result PolicyParts CheckError
typed_policy p = do
  target ← typed_target p.target
  variables ← typed_variables [] p.variables
  rules ← collected (map (typed_rule variables) p.rules)
  duties ← checked_duties variables p.duties
  Ok (record {
    key = policy_key p.key.id p.key.version;
    algorithm = p.algorithm;
    target = target;
    variables = variables;
    rules = rules;
    duties = duties;
  })

-- a policy set (5.1), by what its children come to: its target, its children, its obligations and its advice
unfoldable pub typed_set : WrittenSet → List (Result Document CheckError) → Result Document CheckError
typed_set s children = do
  target ← typed_target s.target
  typed ← collected children
  duties ← checked_duties [] s.duties
  Ok (document.PolicySet (record {
    key = set_key s.key.id s.key.version;
    algorithm = s.algorithm;
    target = target;
    duties = duties;
  }) typed)

-- each part of a document, by what those in it come to
abbrev pub typed_step : WrittenTree-F (Result Document CheckError) → Result Document CheckError
typed_step (WrittenTree-F.Policy p) = typed_policy p >>= (λ policy. Ok (document.Policy policy))
typed_step (WrittenTree-F.PolicySet s children) = typed_set s children
typed_step (WrittenTree-F.Reference r) = Ok (document.Reference r)

abbrev pub typed_tree : WrittenTree → Result Document CheckError
typed_tree = fold-WrittenTree (Result Document CheckError) typed_step
