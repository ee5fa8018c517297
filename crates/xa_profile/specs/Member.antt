-- The names of the members of requests and responses (JSON Profile of XACML 3.0, sections 4 and 5), besides the
-- shorthands of categories.
use Rattle.std.specs.Prelude.{ℕ, List, codes}
use Rattle.xa_profile.specs.declared.member.Member.{Member}
use Rattle.xa_profile.specs.declared.member.Member.TheVariants as member

-- a member's name
unfoldable pub name_of : Member → List ℕ
name_of member.Request = codes "Request"
name_of member.ReturnPolicyIdList = codes "ReturnPolicyIdList"
name_of member.CombinedDecision = codes "CombinedDecision"
name_of member.Category = codes "Category"
name_of member.MultiRequests = codes "MultiRequests"
name_of member.RequestReference = codes "RequestReference"
name_of member.ReferenceId = codes "ReferenceId"
name_of member.CategoryId = codes "CategoryId"
name_of member.Id = codes "Id"
name_of member.Attribute = codes "Attribute"
name_of member.AttributeId = codes "AttributeId"
name_of member.DataType = codes "DataType"
name_of member.Issuer = codes "Issuer"
name_of member.IncludeInResult = codes "IncludeInResult"
name_of member.Value = codes "Value"
name_of member.Response = codes "Response"
name_of member.Decision = codes "Decision"
name_of member.Status = codes "Status"
name_of member.StatusCode = codes "StatusCode"
name_of member.Obligations = codes "Obligations"
name_of member.AssociatedAdvice = codes "AssociatedAdvice"
name_of member.AttributeAssignment = codes "AttributeAssignment"
name_of member.PolicyIdentifierList = codes "PolicyIdentifierList"
name_of member.PolicyIdReference = codes "PolicyIdReference"
name_of member.PolicySetIdReference = codes "PolicySetIdReference"
name_of member.Version = codes "Version"
