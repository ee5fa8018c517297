-- The tokens of members that may be left out, of values, and the text of all tokens.
use Rattle.std.proofs.Common.{◌≡◌, ◌≢◌, ℕ, List, [], ◌∷◌, ◌++◌, map, length, refl, arith}
use Rattle.std.specs.Prelude.{true, false, ◌==◌, Option, Some, None, ℤ, pos, negsuc}
use Rattle.std.specs.Fmt.{signed_decimal}
use Rattle.std.proofs.lemmas.Bool.{eqb-true}
use Rattle.json.specs.Print.{print}
use Rattle.json.specs.Token.{begin_object, end_object, key, string}
use Rattle.json.specs.Tree.{members_tokens}
use Rattle.serde_json.specs.Data.{Data, Members}
use Rattle.serde_json.specs.Find.{of_integer}
use Rattle.serde_json.specs.Written.{members_outline, number_text, compact_text}
use Rattle.serde_json.proofs.Texts.{print-outline}
use Rattle.xa_policy.specs.declared.document_key.DocumentKey.{DocumentKey}
use Rattle.xa_profile.specs.declared.category_object.CategoryObject.{CategoryObject}
use Rattle.xa_profile.specs.declared.member.Member.{Member}
use Rattle.xa_profile.specs.declared.member.Member.TheVariants as member
use Rattle.xa_profile.specs.declared.response.ResultObject.{ResultObject}
use Rattle.xa_value.specs.declared.value.Value.{Value}
use Rattle.xa_profile.specs.Member.{name_of}
use Rattle.xa_profile.specs.Response.{with_text_if_any, with_identifiers_if_any, with_items_if_any, identifiers_data, listing, value_data, values_data, category_data, included_objects, duty_data, decision_text, status_data, result_data}
use Rattle.xa_profile.specs.writing.Tokens.{tokens, member_tokens, text_if_any_tokens, identifiers_if_any_tokens, items_if_any_tokens}

-- the tokens of a text that may be left out stand before the others
pub text_if_any_first : (name : Member) (text : Option (List ℕ)) (others : Members)
    → members_tokens (members_outline (with_text_if_any name text others)) ≡ text_if_any_tokens name text ++ members_tokens (members_outline others)
text_if_any_first name None others = refl
text_if_any_first name (Some text) others = refl

-- and so do those of an array
pub items_if_any_first : (name : Member) (ds : List Data) (others : Members)
    → members_tokens (members_outline (with_items_if_any name ds others)) ≡ items_if_any_tokens name ds ++ members_tokens (members_outline others)
items_if_any_first name [] others = refl
items_if_any_first name (d ∷ ds) others = refl

-- and those of what is named
pub identifiers_if_any_first : (keys : List DocumentKey) (others : Members)
    → members_tokens (members_outline (with_identifiers_if_any keys others)) ≡ identifiers_if_any_tokens keys ++ members_tokens (members_outline others)
identifiers_if_any_first [] others = refl
identifiers_if_any_first (k ∷ ks) others = refl

-- nothing is named, or something
pub no_identifiers : (keys : List DocumentKey) → (length keys == 0) ≡ true → identifiers_if_any_tokens keys ≡ []
no_identifiers [] none = refl
no_identifiers (k ∷ ks) none = let e = eqb-true (length (k ∷ ks)) 0 none in absurd (omega arith)

pub some_identifiers : (keys : List DocumentKey) → (length keys == 0) ≡ false
    → identifiers_if_any_tokens keys ≡ member_tokens member.PolicyIdentifierList (identifiers_data keys)
some_identifiers [] some = absurd (cc)
some_identifiers (k ∷ ks) some = refl

-- the tokens of a result, member by member
pub tokens_of_result : (objects : List CategoryObject) (r : ResultObject)
    → tokens (result_data objects r)
    ≡ begin_object
    ∷ (items_if_any_tokens member.AssociatedAdvice (map duty_data r.evaluated.duties.advice)
    ++ (items_if_any_tokens member.Category (map category_data (included_objects objects r.places))
    ++ (key (name_of member.Decision)
    ∷ string (decision_text r.evaluated.decision)
    ∷ (items_if_any_tokens member.Obligations (map duty_data r.evaluated.duties.obligations)
    ++ (identifiers_if_any_tokens r.evaluated.ids
    ++ (key (name_of member.Status) ∷ (tokens (status_data r.evaluated.status) ++ end_object ∷ [])))))))
unfolding result_data
tokens_of_result objects r = simp (items_if_any_first, identifiers_if_any_first)

-- a whole number's text
pub integer_text : (z : ℤ) → number_text (of_integer z) ≡ signed_decimal z
integer_text (pos n) = refl
integer_text (negsuc n) = refl

-- the text of a value's tokens
pub text_of_tokens : (d : Data) → print (tokens d) ≡ compact_text d
text_of_tokens d = print-outline d

-- an array is left out where it is empty, and there alone
pub no_items : {A : Type 0} (name : Member) (data_of : A → Data) (xs : List A) → (length xs == 0) ≡ true → items_if_any_tokens name (map data_of xs) ≡ []
no_items name data_of [] none = refl
no_items name data_of (x ∷ xs) none = let k = eqb-true (length (x ∷ xs)) 0 none in absurd (omega arith)

pub some_items : {A : Type 0} (name : Member) (data_of : A → Data) (xs : List A) → (length xs == 0) ≡ false
    → items_if_any_tokens name (map data_of xs) ≡ member_tokens name (listing (map data_of xs))
some_items name data_of [] some = absurd (cc)
some_items name data_of (x ∷ xs) some = refl

-- values, unless there is one alone
pub not_one_value : (vs : List Value) → length vs ≢ 1 → values_data vs ≡ listing (map value_data vs)
not_one_value [] several = refl
not_one_value (v ∷ []) several = absurd (several refl)
not_one_value (v ∷ w ∷ vs) several = refl
