-- The names of the combining algorithms (XACML 3.0, core, appendix C): as those of rules, and as those of policies.
use Rattle.std.specs.Prelude.{ℕ, Bool, false, List, [], ◌∷◌, codes, bytes_eq, find, Option, Some, None}
use Rattle.xa_policy.specs.declared.combining.Alg.{Alg}
use Rattle.xa_policy.specs.declared.combining.Alg.TheVariants.{DenyOverrides, PermitOverrides, OrderedDenyOverrides}
use Rattle.xa_policy.specs.declared.combining.Alg.TheVariants.{OrderedPermitOverrides, DenyUnlessPermit}
use Rattle.xa_policy.specs.declared.combining.Alg.TheVariants.{PermitUnlessDeny, FirstApplicable, OnlyOneApplicable}

-- the algorithm's name in a policy, if it may stand there
unfoldable pub rule_uri_of : Alg → Option (List ℕ)
rule_uri_of DenyOverrides = Some (codes "urn:oasis:names:tc:xacml:3.0:rule-combining-algorithm:deny-overrides")
rule_uri_of PermitOverrides = Some (codes "urn:oasis:names:tc:xacml:3.0:rule-combining-algorithm:permit-overrides")
rule_uri_of OrderedDenyOverrides =
    Some (codes "urn:oasis:names:tc:xacml:3.0:rule-combining-algorithm:ordered-deny-overrides")
rule_uri_of OrderedPermitOverrides =
    Some (codes "urn:oasis:names:tc:xacml:3.0:rule-combining-algorithm:ordered-permit-overrides")
rule_uri_of DenyUnlessPermit = Some (codes "urn:oasis:names:tc:xacml:3.0:rule-combining-algorithm:deny-unless-permit")
rule_uri_of PermitUnlessDeny = Some (codes "urn:oasis:names:tc:xacml:3.0:rule-combining-algorithm:permit-unless-deny")
rule_uri_of FirstApplicable = Some (codes "urn:oasis:names:tc:xacml:1.0:rule-combining-algorithm:first-applicable")
rule_uri_of OnlyOneApplicable = None

-- the algorithm's name in a policy set
unfoldable pub policy_uri_of : Alg → List ℕ
policy_uri_of DenyOverrides = codes "urn:oasis:names:tc:xacml:3.0:policy-combining-algorithm:deny-overrides"
policy_uri_of PermitOverrides = codes "urn:oasis:names:tc:xacml:3.0:policy-combining-algorithm:permit-overrides"
policy_uri_of OrderedDenyOverrides =
    codes "urn:oasis:names:tc:xacml:3.0:policy-combining-algorithm:ordered-deny-overrides"
policy_uri_of OrderedPermitOverrides =
    codes "urn:oasis:names:tc:xacml:3.0:policy-combining-algorithm:ordered-permit-overrides"
policy_uri_of DenyUnlessPermit = codes "urn:oasis:names:tc:xacml:3.0:policy-combining-algorithm:deny-unless-permit"
policy_uri_of PermitUnlessDeny = codes "urn:oasis:names:tc:xacml:3.0:policy-combining-algorithm:permit-unless-deny"
policy_uri_of FirstApplicable = codes "urn:oasis:names:tc:xacml:1.0:policy-combining-algorithm:first-applicable"
policy_uri_of OnlyOneApplicable = codes "urn:oasis:names:tc:xacml:1.0:policy-combining-algorithm:only-one-applicable"

-- all combining algorithms
abbrev pub all_algorithms : List Alg
all_algorithms =
    DenyOverrides ∷ PermitOverrides ∷ OrderedDenyOverrides ∷ OrderedPermitOverrides ∷ DenyUnlessPermit
    ∷ PermitUnlessDeny ∷ FirstApplicable ∷ OnlyOneApplicable ∷ []

-- the text is the name, if there is one
abbrev pub is_name : List ℕ → Option (List ℕ) → Bool
is_name text None = false
is_name text (Some uri) = bytes_eq text uri

-- the algorithm that a text names in a policy
unfoldable pub rule_algorithm_named : List ℕ → Option Alg
rule_algorithm_named text = find (λ a. is_name text (rule_uri_of a)) all_algorithms

-- the algorithm that a text names in a policy set
unfoldable pub policy_algorithm_named : List ℕ → Option Alg
policy_algorithm_named text = find (λ a. bytes_eq text (policy_uri_of a)) all_algorithms
