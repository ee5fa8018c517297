-- Each document has a version, whose text reads back.
use Rattle.std.proofs.Common.{◌≡◌, ℕ, Bool, true, false, not, cond, List, [], map, Result, Ok, Err, refl, subst}
use Rattle.xa_store.proofs.Common.{list_all, ◌>>=◌, IsVersion, is_short, parts, read_version, version_text, Parsed, document_as_written, or_ill_typed, typed_document}
use Rattle.std.specs.Prelude.{IfOk, nat_lt, length}
use Rattle.std.specs.Str.Parse.{digits_value}
use Rattle.serde_json.specs.Data.{Data}
use Rattle.xa_value.specs.Digits.{is_number}
use Rattle.xa_policy.specs.declared.version_error.VersionError.{VersionError}
use Rattle.xa_policy.specs.declared.version_error.VersionError.TheVariants.{BadText, TooLong}
use Rattle.xa_policy.proofs.PartLemmas.{is_version_of}
use Rattle.xa_policy.proofs.RoundTripLemmas.{version_reads}
use Rattle.xa_notation.specs.declared.member.Member.{Member}
use Rattle.xa_notation.specs.declared.member.Member.TheVariants as member
use Rattle.xa_notation.specs.declared.notation_error.NotationError.TheVariants.{TooLarge}
use Rattle.xa_notation.specs.Document.{document_of}
use Rattle.xa_notation.specs.Json.{at, chosen_member, each, fits, items_if_any, json, needed_member, text}
use Rattle.xa_notation.specs.Shape.{document_named, written_child, written_document, written_duties, written_policy, written_rule, written_set_of, written_set_within, written_target, written_variables}
use Rattle.xa_notation.specs.Typing.{typed_tree}
use Rattle.xa_notation.specs.Values.{description, id, or_bad, policy_algorithm, rule_algorithm, version}

-- ---- the second of two steps, by what the first gives

module _ {A B E : Type 0} where
  after : (r : Result A E) (f : A → Result B E) (Q : B → Type 0) → ((a : A) → IfOk (f a) Q) → IfOk (r >>= f) Q
  after (Ok a) f Q next = next a
  after (Err e) f Q next = tt

  chains : (r : Result A E) (f : A → Result B E) (P : A → Type 0) (Q : B → Type 0) → IfOk r P → ((a : A) → P a → IfOk (f a) Q) → IfOk (r >>= f) Q
  chains (Ok a) f P Q here next = next a here
  chains (Err e) f P Q here next = tt

-- ---- a text that reads as a version

judged : (t : List ℕ) (a : Bool) → list_all is_number (parts t) ≡ a → (b : Bool) → is_short (parts t) ≡ b
    → IfOk {E = VersionError} (cond (not a) (Err BadText) (cond (not b) (Err TooLong) (Ok (map (digits_value 10) (parts t))))) IsVersion
judged t true numbers true short = is_version_of t numbers short
judged t true numbers false short = tt
judged t false numbers b short = tt

version_read : (t : List ℕ) → IfOk (read_version t) IsVersion
version_read t = judged t (list_all is_number (parts t)) refl (is_short (parts t)) refl

good_version : {E : Type 0} (r : Result (List ℕ) E) → IfOk r IsVersion → IfOk (or_bad r) IsVersion
good_version (Ok v) h = h
good_version (Err e) h = tt

version_has : (d : Data) → IfOk (version d) IsVersion
version_has d = after (text d) _ IsVersion (λ t. good_version (read_version t) (version_read t))

member_has : (d : Data) → IfOk (needed_member member.Version d >>= version) IsVersion
member_has d = after (needed_member member.Version d) version IsVersion version_has

-- ---- a document

policy_has : (d : Data) → IfOk (written_policy d) (λ w. IsVersion w.key.version)
unfolding written_policy
policy_has d =
    after (fits _ d) _ _ (λ _. after (needed_member member.PolicyId d >>= id) _ _ (λ _.
    chains (needed_member member.Version d >>= version) _ IsVersion _ (member_has d) (λ v is.
    after (needed_member member.RuleCombiningAlgId d >>= rule_algorithm) _ _ (λ _. after (description (at member.Description d)) _ _ (λ _.
    after (written_target (at member.Target d)) _ _ (λ _. after (items_if_any (at member.VariableDefinition d) >>= written_variables []) _ _ (λ _.
    after (items_if_any (at member.Rule d) >>= each written_rule) _ _ (λ _. after (written_duties d) _ _ (λ _. is)))))))))

set_has : (child : _) (d : Data) → IfOk (written_set_of child d) (λ w. IsVersion w.set.key.version)
unfolding written_set_of
set_has child d =
    after (fits _ d) _ _ (λ _. after (needed_member member.PolicySetId d >>= id) _ _ (λ _.
    chains (needed_member member.Version d >>= version) _ IsVersion _ (member_has d) (λ v is.
    after (needed_member member.PolicyCombiningAlgId d >>= policy_algorithm) _ _ (λ _. after (description (at member.Description d)) _ _ (λ _.
    after (written_target (at member.Target d)) _ _ (λ _. after (items_if_any (at member.Children d) >>= each child) _ _ (λ _.
    after (written_duties d) _ _ (λ _. is))))))))

named_has : (name : Member) (d : Data) → IfOk (document_named name d) (λ w. IsVersion w.key.version)
unfolding written_set_within
named_has member.Policy d = chains (written_policy d) _ _ _ (policy_has d) (λ p is. is)
named_has member.PolicySet d = chains (written_set_of (written_child (written_set_within 7)) d) _ _ _ (set_has (written_child (written_set_within 7)) d) (λ s is. is)
named_has _ d = tt

written_has : (d : Data) → IfOk (written_document d) (λ w. IsVersion w.key.version)
unfolding written_document
written_has d = after (chosen_member _ d) _ _ (λ name. after (needed_member name d) _ _ (λ inner. named_has name inner))

typed_has : (w : _) → IfOk (typed_document w) (λ p. w.key.version ≡ p.version)
typed_has w = after (or_ill_typed (typed_tree w.tree)) _ _ (λ document. refl)

weaker : {X E : Type 0} (r : Result X E) (P Q : X → Type 0) → ((x : X) → P x → Q x) → IfOk r P → IfOk r Q
weaker (Ok x) P Q f h = f x h
weaker (Err e) P Q f h = tt

as_written_has : (body : List ℕ) → IfOk (document_as_written body) (λ w. IsVersion w.key.version)
as_written_has body = after (json body) written_document _ written_has

document_has : (body : List ℕ) → IfOk (document_of body) (λ p. IsVersion p.version)
unfolding document_of
document_has body = go (nat_lt 65_536 (length body))
  where
    go : (b : Bool) → IfOk (cond b (Err TooLarge) (document_as_written body >>= typed_document)) (λ p. IsVersion p.version)
    go true = tt
    go false =
        chains (document_as_written body) typed_document _ _ (as_written_has body)
        (λ w is. weaker (typed_document w) _ (λ p. IsVersion p.version) (λ p same. subst IsVersion same is) (typed_has w))

pub document_version : (body : List ℕ) (p : Parsed) → document_of body ≡ Ok p → read_version (version_text p.version) ≡ Ok p.version
document_version body p is = version_reads p.version (subst (λ r. IfOk r (λ (x : Parsed). IsVersion x.version)) is (document_has body))
