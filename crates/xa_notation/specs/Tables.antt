-- The notation's tables: the names of members, and which of them each object has. Members of documents are named as
-- in the XML schema of XACML 3.0 (core, section 5); `Children` is this project's name for the ordered content of a
-- policy set. So are, in the bodies that administer a domain, the names that the schema lacks: `Role`, `Token`, `Row`
-- and `Entity`.
use Rattle.std.specs.Prelude.{ℕ, List, [], ◌∷◌, codes}
use Rattle.xa_notation.specs.declared.member.Member.{Member}
use Rattle.xa_notation.specs.declared.member.Member.TheVariants as member
use Rattle.xa_notation.specs.declared.tables.Choice.{Choice}
use Rattle.xa_notation.specs.declared.tables.Choice.TheVariants as choice
use Rattle.xa_notation.specs.declared.tables.Entry.{Entry}
use Rattle.xa_notation.specs.declared.tables.Entry.TheVariants.{Required, Optional}
use Rattle.xa_notation.specs.declared.tables.Object.{Object}
use Rattle.xa_notation.specs.declared.tables.Object.TheVariants as object

-- the name of a member
unfoldable pub name_of : Member → List ℕ
name_of member.Policy = codes "Policy"
name_of member.PolicySet = codes "PolicySet"
name_of member.PolicyIdReference = codes "PolicyIdReference"
name_of member.PolicySetIdReference = codes "PolicySetIdReference"
name_of member.PolicyId = codes "PolicyId"
name_of member.PolicySetId = codes "PolicySetId"
name_of member.Version = codes "Version"
name_of member.RuleCombiningAlgId = codes "RuleCombiningAlgId"
name_of member.PolicyCombiningAlgId = codes "PolicyCombiningAlgId"
name_of member.Description = codes "Description"
name_of member.Target = codes "Target"
name_of member.VariableDefinition = codes "VariableDefinition"
name_of member.Rule = codes "Rule"
name_of member.Children = codes "Children"
name_of member.ObligationExpressions = codes "ObligationExpressions"
name_of member.AdviceExpressions = codes "AdviceExpressions"
name_of member.Id = codes "Id"
name_of member.EarliestVersion = codes "EarliestVersion"
name_of member.LatestVersion = codes "LatestVersion"
name_of member.RuleId = codes "RuleId"
name_of member.Effect = codes "Effect"
name_of member.Condition = codes "Condition"
name_of member.AnyOf = codes "AnyOf"
name_of member.AllOf = codes "AllOf"
name_of member.Match = codes "Match"
name_of member.MatchId = codes "MatchId"
name_of member.AttributeValue = codes "AttributeValue"
name_of member.AttributeDesignator = codes "AttributeDesignator"
name_of member.VariableId = codes "VariableId"
name_of member.Expression = codes "Expression"
name_of member.Apply = codes "Apply"
name_of member.Function = codes "Function"
name_of member.VariableReference = codes "VariableReference"
name_of member.DataType = codes "DataType"
name_of member.Value = codes "Value"
name_of member.Category = codes "Category"
name_of member.AttributeId = codes "AttributeId"
name_of member.MustBePresent = codes "MustBePresent"
name_of member.Issuer = codes "Issuer"
name_of member.FunctionId = codes "FunctionId"
name_of member.ObligationId = codes "ObligationId"
name_of member.FulfillOn = codes "FulfillOn"
name_of member.AdviceId = codes "AdviceId"
name_of member.AppliesTo = codes "AppliesTo"
name_of member.AttributeAssignmentExpression = codes "AttributeAssignmentExpression"
name_of member.Role = codes "Role"
name_of member.Token = codes "Token"
name_of member.Row = codes "Row"
name_of member.Entity = codes "Entity"

-- the member that an entry of a table is about
abbrev pub member_of : Entry → Member
member_of (Required m) = m
member_of (Optional m) = m

-- the members of each object, in table order
unfoldable pub members_of : Object → List Entry
members_of object.Policy =
    Required member.PolicyId ∷ Required member.Version ∷ Required member.RuleCombiningAlgId
    ∷ Optional member.Description ∷ Optional member.Target ∷ Optional member.VariableDefinition ∷ Optional member.Rule
    ∷ Optional member.ObligationExpressions ∷ Optional member.AdviceExpressions ∷ []
members_of object.PolicySet =
    Required member.PolicySetId ∷ Required member.Version ∷ Required member.PolicyCombiningAlgId
    ∷ Optional member.Description ∷ Optional member.Target ∷ Optional member.Children
    ∷ Optional member.ObligationExpressions ∷ Optional member.AdviceExpressions ∷ []
members_of object.Reference =
    Required member.Id ∷ Optional member.Version ∷ Optional member.EarliestVersion ∷ Optional member.LatestVersion ∷ []
members_of object.Rule =
    Required member.RuleId ∷ Required member.Effect ∷ Optional member.Description ∷ Optional member.Target
    ∷ Optional member.Condition ∷ Optional member.ObligationExpressions ∷ Optional member.AdviceExpressions ∷ []
members_of object.Target = Optional member.AnyOf ∷ []
members_of object.AnyOf = Required member.AllOf ∷ []
members_of object.AllOf = Required member.Match ∷ []
members_of object.Match =
    Required member.MatchId ∷ Required member.AttributeValue ∷ Required member.AttributeDesignator ∷ []
members_of object.VariableDefinition = Required member.VariableId ∷ Required member.Expression ∷ []
members_of object.AttributeValue = Required member.DataType ∷ Required member.Value ∷ []
members_of object.AttributeDesignator =
    Required member.Category ∷ Required member.AttributeId ∷ Required member.DataType ∷ Required member.MustBePresent
    ∷ Optional member.Issuer ∷ []
members_of object.Apply = Required member.FunctionId ∷ Optional member.Description ∷ Optional member.Expression ∷ []
members_of object.Function = Required member.FunctionId ∷ []
members_of object.VariableReference = Required member.VariableId ∷ []
members_of object.ObligationExpression =
    Required member.ObligationId ∷ Required member.FulfillOn ∷ Optional member.AttributeAssignmentExpression ∷ []
members_of object.AdviceExpression =
    Required member.AdviceId ∷ Required member.AppliesTo ∷ Optional member.AttributeAssignmentExpression ∷ []
members_of object.AttributeAssignmentExpression =
    Required member.AttributeId ∷ Optional member.Category ∷ Optional member.Issuer ∷ Required member.Expression ∷ []
members_of object.NewToken = Required member.Role ∷ Required member.Token ∷ []
members_of object.OldToken = Required member.Token ∷ []
members_of object.Source = Required member.Row ∷ []
members_of object.SourceRow =
    Required member.Category ∷ Required member.Entity ∷ Required member.AttributeId ∷ Required member.DataType
    ∷ Required member.Value ∷ Optional member.Issuer ∷ []

-- the alternatives of which an object has exactly one
unfoldable pub alternatives_of : Choice → List Member
alternatives_of choice.Document = member.Policy ∷ member.PolicySet ∷ []
alternatives_of choice.Child =
    member.Policy ∷ member.PolicySet ∷ member.PolicyIdReference ∷ member.PolicySetIdReference ∷ []
alternatives_of choice.Expression =
    member.AttributeValue ∷ member.AttributeDesignator ∷ member.Apply ∷ member.Function ∷ member.VariableReference ∷ []
alternatives_of choice.Root = member.PolicyIdReference ∷ member.PolicySetIdReference ∷ []

-- the first of a choice's alternatives: that it stands there first is a clause of `Choice::first`
unfoldable pub first_of : Choice → Member
first_of choice.Document = member.Policy
first_of choice.Child = member.Policy
first_of choice.Expression = member.AttributeValue
first_of choice.Root = member.PolicyIdReference
