-- The attribute categories that have a shorthand (XACML 3.0, core, appendix B.2; JSON Profile, section 4.2).
use Rattle.std.specs.Prelude.{ℕ, Bool, true, false, List, [], ◌∷◌, codes, bytes_eq, find, Option, Some, None}
use Rattle.xa_value.specs.declared.category.Category.{Category}
use Rattle.xa_value.specs.declared.category.Category.TheVariants.{AccessSubject, RecipientSubject}
use Rattle.xa_value.specs.declared.category.Category.TheVariants.{IntermediarySubject, Codebase}
use Rattle.xa_value.specs.declared.category.Category.TheVariants.{RequestingMachine, Resource, Action, Environment}

-- a category's shorthand
abbrev pub shorthand_of : Category → List ℕ
shorthand_of AccessSubject = codes "AccessSubject"
shorthand_of RecipientSubject = codes "RecipientSubject"
shorthand_of IntermediarySubject = codes "IntermediarySubject"
shorthand_of Codebase = codes "Codebase"
shorthand_of RequestingMachine = codes "RequestingMachine"
shorthand_of Resource = codes "Resource"
shorthand_of Action = codes "Action"
shorthand_of Environment = codes "Environment"

-- a category's URI
abbrev pub uri_of : Category → List ℕ
uri_of AccessSubject = codes "urn:oasis:names:tc:xacml:1.0:subject-category:access-subject"
uri_of RecipientSubject = codes "urn:oasis:names:tc:xacml:1.0:subject-category:recipient-subject"
uri_of IntermediarySubject = codes "urn:oasis:names:tc:xacml:1.0:subject-category:intermediary-subject"
uri_of Codebase = codes "urn:oasis:names:tc:xacml:1.0:subject-category:codebase"
uri_of RequestingMachine = codes "urn:oasis:names:tc:xacml:1.0:subject-category:requesting-machine"
uri_of Resource = codes "urn:oasis:names:tc:xacml:3.0:attribute-category:resource"
uri_of Action = codes "urn:oasis:names:tc:xacml:3.0:attribute-category:action"
uri_of Environment = codes "urn:oasis:names:tc:xacml:3.0:attribute-category:environment"

-- the category is one of subjects
abbrev pub is_subject : Category → Bool
is_subject AccessSubject = true
is_subject RecipientSubject = true
is_subject IntermediarySubject = true
is_subject Codebase = true
is_subject RequestingMachine = true
is_subject Resource = false
is_subject Action = false
is_subject Environment = false

-- all categories
abbrev pub all_categories : List Category
all_categories =
    AccessSubject ∷ RecipientSubject ∷ IntermediarySubject ∷ Codebase ∷ RequestingMachine ∷ Resource
    ∷ Action ∷ Environment ∷ []

-- the category whose shorthand the text is
unfoldable pub of_shorthand : List ℕ → Option Category
of_shorthand text = find (λ category. bytes_eq text (shorthand_of category)) all_categories

-- the URI that a name stands for, with the category of which it is the shorthand
abbrev pub uri_or_itself : List ℕ → Option Category → List ℕ
uri_or_itself name (Some category) = uri_of category
uri_or_itself name None = name

-- the URI that a category's name stands for: a shorthand for its URI, any other text for itself
abbrev pub category_uri : List ℕ → List ℕ
category_uri name = uri_or_itself name (of_shorthand name)
