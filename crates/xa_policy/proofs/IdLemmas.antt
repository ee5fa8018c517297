-- The policies and policy sets that are named, as a tree is evaluated.
use Rattle.std.proofs.Common.{◌≡◌, Bool, true, false, if◌then◌else◌, ℕ, List, [], ◌∷◌, ◌++◌, map, take, length, refl, ap, ap₂, sym, subst, ◌∙◌, append_assoc, append-nil, take_at}
use Rattle.std.specs.Prelude.{filter, is_some}
use Rattle.std.specs.List.{flat_map, list_any}
use Rattle.xa_expr.specs.declared.fault.Fault.{Fault}
use Rattle.xa_expr.specs.declared.matching.Matching.{Matching}
use Rattle.xa_expr.specs.declared.matching.Matching.TheVariants.{Match, NoMatch, Indeterminate}
use Rattle.xa_expr.specs.Evaluation.{Attributes}
use Rattle.xa_expr.specs.Target.{is_indeterminate, is_match}
use Rattle.xa_policy.specs.declared.combination.Combination.{Combination}
use Rattle.xa_policy.specs.declared.combining.Alg.{Alg}
use Rattle.xa_policy.specs.declared.combining.Alg.TheVariants.{DenyOverrides, PermitOverrides, OrderedDenyOverrides, OrderedPermitOverrides, DenyUnlessPermit, PermitUnlessDeny, FirstApplicable, OnlyOneApplicable}
use Rattle.xa_policy.specs.declared.decision.Decision.{Decision}
use Rattle.xa_policy.specs.declared.document_key.DocumentKey.{DocumentKey}
use Rattle.xa_policy.specs.declared.linked.Linked.{Linked}
use Rattle.xa_policy.specs.declared.linked.Linked.TheFolds.{fold-roll-Linked, map-Linked, ind-Linked}
use Rattle.xa_policy.specs.declared.linked.Linked.TheOpen.{Linked-F}
use Rattle.xa_policy.specs.declared.linked.Linked.TheVariants.{PolicySet, rolls-PolicySet}
use Rattle.xa_policy.specs.declared.verdict.Verdict.{Verdict}
use Rattle.xa_policy.specs.Duties.{effect_of}
use Rattle.xa_policy.specs.Evaluation.{Element, as_asked, element, element_step, ends, evaluated, linked_step, named_by, named_by_elements, only, set_value, up_to, with_ids}
use Rattle.xa_policy.specs.Policy.{SetParts}
use Rattle.xa_policy.specs.Status.{EvaluatedChild}
use Rattle.xa_policy.specs.walking.Walk.{IsByDecisions, Named, first_named, kept_by, named_up_to, with_named}
use Rattle.xa_policy.proofs.EvaluationLemmas.{judged}
use Rattle.xa_policy.proofs.PastLemmas.{goes_on, layer_past, linked_past}

-- ---- what is named so far

abbrev named : Bool → List DocumentKey → Named
named asked ids = record { asked = asked; ids = ids }

nothing : (asked : Bool) (ids : List DocumentKey) → ids ++ (if asked then [] else []) ≡ ids
nothing true ids = append-nil ids
nothing false ids = append-nil ids

-- nothing more
pub none_named : (s : Named) → with_named s [] ≡ s
none_named s = ap (named s.asked) (nothing s.asked s.ids)

-- and then others
both : (asked : Bool) (ids first second : List DocumentKey)
    → ids ++ (if asked then first else []) ++ (if asked then second else []) ≡ ids ++ (if asked then first ++ second else [])
both true ids first second = append_assoc ids first second
both false ids first second = append-nil (ids ++ [])

pub named_twice : (s : Named) (first second : List DocumentKey) → with_named (with_named s first) second ≡ with_named s (first ++ second)
named_twice s first second = ap (named s.asked) (both s.asked s.ids first second)

-- a policy set puts its key before what its children name, and takes all away again where it decides neither Permit nor Deny
cut : (asked : Bool) (ids first second : List DocumentKey)
    → take (length ids) (ids ++ (if asked then first else []) ++ (if asked then second else [])) ≡ ids ++ (if asked then [] else [])
cut asked ids first second =
    ap (take (length ids)) (both asked ids first second) ∙ take_at ids (if asked then first ++ second else []) (length ids) refl ∙ sym (nothing asked ids)

kept : (s : Named) (key : DocumentKey) (inside : List DocumentKey) (b : Bool)
    → (if b then with_named (with_named s (key ∷ [])) inside else first_named (length s.ids) (with_named (with_named s (key ∷ [])) inside))
    ≡ with_named s (if b then key ∷ inside else [])
kept s key inside true = named_twice s (key ∷ []) inside
kept s key inside false = ap (named s.asked) (cut s.asked s.ids (key ∷ []) inside)

pub set_named : (s : Named) (key : DocumentKey) (inside : List DocumentKey) (d : Decision)
    → kept_by d (length s.ids) (with_named (with_named s (key ∷ [])) inside) ≡ with_named s (named_by d key inside)
set_named s key inside d = kept s key inside (is_some (effect_of d))

-- what is answered, from nothing on
pub asked_from_none : (asked : Bool) (keys : List DocumentKey) (v : Verdict)
    → with_ids (with_named (named asked []) keys).ids v ≡ as_asked asked (with_ids keys v)
asked_from_none true keys v = refl
asked_from_none false keys v = refl

-- ---- elements of trees

-- as a child each is what it comes to
abbrev IsSame : Attributes → Linked → Type 0
IsSame values_of t = (element values_of t).child ≡ evaluated values_of t

those_same : (values_of : Attributes) (ts : List ((t : Linked) × IsSame values_of t))
    → map (λ e. e.child) (map (element values_of) (map (λ e. e.0) ts)) ≡ map (evaluated values_of) (map (λ e. e.0) ts)
those_same values_of [] = refl
those_same values_of (t ∷ ts) = ap₂ (λ c cs. c ∷ cs) t.1 (those_same values_of ts)

layer_same : (values_of : Attributes) (y : Linked-F ((t : Linked) × IsSame values_of t))
    → (element_step values_of (map-Linked Linked Element (element values_of) (map-Linked ((t : Linked) × IsSame values_of t) Linked (λ e. e.0) y))).child
    ≡ linked_step values_of (map-Linked Linked EvaluatedChild (evaluated values_of) (map-Linked ((t : Linked) × IsSame values_of t) Linked (λ e. e.0) y))
layer_same values_of Linked-F.Unresolved = refl
layer_same values_of (Linked-F.Policy policy) = refl
layer_same values_of (Linked-F.PolicySet set ts) = ap (λ cs. linked_step values_of (Linked-F.PolicySet set cs)) (those_same values_of ts)

pub element_child : (values_of : Attributes) (t : Linked) → (element values_of t).child ≡ evaluated values_of t
element_child values_of = ind-Linked (IsSame values_of) (λ x y is.
    let here = subst (λ z. (element_step values_of (map-Linked Linked Element (element values_of) z)).child ≡ linked_step values_of (map-Linked Linked EvaluatedChild (evaluated values_of) z))
    is (layer_same values_of y) in
    ap (λ (e : Element). e.child) (fold-roll-Linked Element (element_step values_of) x) ∙ here ∙ sym (fold-roll-Linked EvaluatedChild (linked_step values_of) x))

pub children_of_elements : (values_of : Attributes) (ts : List Linked) → map (λ e. e.child) (map (element values_of) ts) ≡ map (evaluated values_of) ts
children_of_elements values_of [] = refl
children_of_elements values_of (t ∷ ts) = ap₂ (λ c cs. c ∷ cs) (element_child values_of t) (children_of_elements values_of ts)

-- a policy set, by what it decides, and by its children's names
element_of_set : (values_of : Attributes) (set : SetParts) (children : List Linked)
    → element values_of (PolicySet set children) ≡ element_step values_of (Linked-F.PolicySet set (map (element values_of) children))
element_of_set values_of set children =
    ap (element values_of) (sym (rolls-PolicySet set children)) ∙ fold-roll-Linked Element (element_step values_of) (Linked-F.PolicySet set children)

pub set_names : (values_of : Attributes) (linked : Linked) (set own : SetParts) (children those : List Linked) (before now : Named)
    → linked ≡ PolicySet set children → own ≡ set → those ≡ children
    → now ≡ with_named before (named_by (set_value values_of own (map (evaluated values_of) those)).decision own.key (named_by_elements own.algorithm (map (element values_of) those)))
    → now ≡ with_named before (element values_of linked).ids
set_names values_of linked set own children those before now is here there step =
    step
    ∙ ap (with_named before)
    (ap₂ (λ (s : SetParts) (ts : List Linked). named_by (set_value values_of s (map (evaluated values_of) ts)).decision s.key (named_by_elements s.algorithm (map (element values_of) ts))) here there
    ∙ ap (λ (cs : List EvaluatedChild). named_by (set_value values_of set cs).decision set.key (named_by_elements set.algorithm (map (element values_of) children)))
    (sym (children_of_elements values_of children))
    ∙ ap (λ (e : Element). e.ids) (sym (element_of_set values_of set children))
    ∙ ap (λ (t : Linked). (element values_of t).ids) (sym is))

pub set_done : (values_of : Attributes) (set : SetParts) (children : List Linked) (before added inner now : Named) (key : DocumentKey) (algorithm : Alg) (count : ℕ) (d : Verdict)
    → count ≡ length before.ids → added ≡ with_named before (key ∷ []) → key ≡ set.key
    → inner ≡ with_named added (named_by_elements algorithm (map (element values_of) children)) → algorithm ≡ set.algorithm
    → d ≡ set_value values_of set (map (evaluated values_of) children) → now ≡ kept_by d.decision count inner
    → now ≡ with_named before (named_by (set_value values_of set (map (evaluated values_of) children)).decision set.key (named_by_elements set.algorithm (map (element values_of) children)))
set_done values_of set children before added inner now key algorithm count d counted put keyed inside same value done =
    let names = named_by_elements algorithm (map (element values_of) children) in
    done
    ∙ ap (λ n. kept_by d.decision n inner) counted
    ∙ ap (kept_by d.decision (length before.ids)) (inside ∙ ap (λ s. with_named s names) put)
    ∙ set_named before key names d.decision
    ∙ ap (λ k. with_named before (named_by d.decision k names)) keyed
    ∙ ap (λ a. with_named before (named_by d.decision set.key (named_by_elements a (map (element values_of) children)))) same
    ∙ ap (λ (e : Verdict). with_named before (named_by e.decision set.key (named_by_elements set.algorithm (map (element values_of) children)))) value

-- one whose target doesn't match names none
layer_silent : (values_of : Attributes) (x : Linked-F Element) → (element_step values_of x).child.target ≡ NoMatch → (element_step values_of x).ids ≡ []
layer_silent values_of Linked-F.Unresolved h = refl
layer_silent values_of (Linked-F.Policy policy) h = ap (λ d. named_by d policy.key []) (layer_past values_of (Linked-F.Policy policy) h)
layer_silent values_of (Linked-F.PolicySet set elements) h =
    ap (λ d. named_by d set.key (named_by_elements set.algorithm elements)) (layer_past values_of (Linked-F.PolicySet set (map (λ e. e.child) elements)) h)

abbrev IsSilent : Element → Type 0
IsSilent e = e.child.target ≡ NoMatch → e.ids ≡ []

silent : (values_of : Attributes) (t : Linked) → IsSilent (element values_of t)
silent values_of = ind-Linked (λ t. IsSilent (element values_of t)) (λ x y is.
    subst IsSilent (sym (fold-roll-Linked Element (element_step values_of) x)) (layer_silent values_of (map-Linked Linked Element (element values_of) x)))

pub element_past : (values_of : Attributes) (t : Linked) → (evaluated values_of t).target ≡ NoMatch → (element values_of t).ids ≡ []
element_past values_of t h = silent values_of t (ap (λ (c : EvaluatedChild). c.target) (element_child values_of t) ∙ h)

-- ---- the walk over children, under an algorithm that goes by decisions

pub named_by_decisions : (a : Alg) (elements : List Element) → IsByDecisions a → named_up_to a elements ≡ named_by_elements a elements
named_by_decisions DenyOverrides elements by = refl
named_by_decisions PermitOverrides elements by = refl
named_by_decisions OrderedDenyOverrides elements by = refl
named_by_decisions OrderedPermitOverrides elements by = refl
named_by_decisions DenyUnlessPermit elements by = refl
named_by_decisions PermitUnlessDeny elements by = refl
named_by_decisions FirstApplicable elements by = refl
named_by_decisions OnlyOneApplicable elements by = absurd by

-- by whether the first of them ends it
abbrev from_first : Bool → Alg → Element → List Element → List DocumentKey
from_first b a e es = flat_map (λ x. x.ids) (e ∷ (if b then [] else up_to (λ x. ends a x.child.value.decision) es))

ended : (a : Alg) (e : Element) (es : List Element) → ends a e.child.value.decision ≡ true → named_up_to a (e ∷ es) ≡ e.ids
ended a e es h = ap (λ b. from_first b a e es) h ∙ append-nil e.ids

next : (a : Alg) (e : Element) (es : List Element) → ends a e.child.value.decision ≡ false → named_up_to a (e ∷ es) ≡ e.ids ++ named_up_to a es
next a e es h = ap (λ b. from_first b a e es) h

-- whether the element ends it, by the child
ends_too : (values_of : Attributes) (a : Alg) (t : Linked) (b : Bool) → ends a (evaluated values_of t).value.decision ≡ b
    → ends a (element values_of t).child.value.decision ≡ b
ends_too values_of a t b h = ap (λ (c : EvaluatedChild). ends a c.value.decision) (element_child values_of t) ∙ h

-- by the child that was taken
pub judged_by : (values_of : Attributes) (s : Combination) (a : Alg) (t : Linked) (e : Verdict) (end answer : Bool)
    → s.algorithm ≡ a → e ≡ (evaluated values_of t).value → end ≡ ends s.algorithm e.decision → end ≡ answer
    → ends a (evaluated values_of t).value.decision ≡ answer
judged_by values_of s a t e end answer same is found so =
    ap (λ b. ends b (evaluated values_of t).value.decision) (sym same) ∙ judged s (evaluated values_of t) e end answer is found so

pub names_ended : (values_of : Attributes) (a : Alg) (s now whole : Named) (ts rest : List Linked) (t : Linked)
    → ts ≡ t ∷ rest → now ≡ with_named s (element values_of t).ids → ends a (evaluated values_of t).value.decision ≡ true
    → with_named s (named_up_to a (map (element values_of) ts)) ≡ whole → now ≡ whole
names_ended values_of a s now whole ts rest t at step end so_far =
    step ∙ ap (with_named s) (sym (ended a (element values_of t) (map (element values_of) rest) (ends_too values_of a t true end)))
    ∙ ap (λ us. with_named s (named_up_to a (map (element values_of) us))) (sym at) ∙ so_far

pub names_go_on : (values_of : Attributes) (a : Alg) (s now whole : Named) (ts rest : List Linked) (t : Linked)
    → ts ≡ t ∷ rest → now ≡ with_named s (element values_of t).ids → ends a (evaluated values_of t).value.decision ≡ false
    → with_named s (named_up_to a (map (element values_of) ts)) ≡ whole → with_named now (named_up_to a (map (element values_of) rest)) ≡ whole
names_go_on values_of a s now whole ts rest t at step on so_far =
    ap (λ n. with_named n (named_up_to a (map (element values_of) rest))) step
    ∙ named_twice s (element values_of t).ids (named_up_to a (map (element values_of) rest))
    ∙ ap (with_named s) (sym (next a (element values_of t) (map (element values_of) rest) (ends_too values_of a t false on)))
    ∙ ap (λ us. with_named s (named_up_to a (map (element values_of) us))) (sym at) ∙ so_far

pub names_passed : (values_of : Attributes) (a : Alg) (s whole : Named) (ts rest : List Linked) (t : Linked)
    → ts ≡ t ∷ rest → (evaluated values_of t).target ≡ NoMatch
    → with_named s (named_up_to a (map (element values_of) ts)) ≡ whole → with_named s (named_up_to a (map (element values_of) rest)) ≡ whole
names_passed values_of a s whole ts rest t at none so_far =
    names_go_on values_of a s s whole ts rest t at (sym (none_named s) ∙ ap (with_named s) (sym (element_past values_of t none)))
    (ap (ends a) (linked_past values_of t none) ∙ goes_on a) so_far

pub names_over : (values_of : Attributes) (a : Alg) (s whole : Named) (ts : List Linked)
    → ts ≡ [] → with_named s (named_up_to a (map (element values_of) ts)) ≡ whole → s ≡ whole
names_over values_of a s whole ts none so_far =
    sym (none_named s) ∙ ap (λ us. with_named s (named_up_to a (map (element values_of) us))) (sym none) ∙ so_far

-- ---- only-one-applicable

abbrev pub of_the_one : List Element → List DocumentKey
of_the_one elements = named_by_elements OnlyOneApplicable elements

abbrev of : Verdict → Matching → List DocumentKey → Element
of value target ids = record { child = record { value = value; target = target }; ids = ids }

-- the element with another target
abbrev to : Element → Matching → Element
to e target = of e.child.value target e.ids

passed : (e : Element) (es : List Element) → e.child.target ≡ NoMatch → of_the_one (e ∷ es) ≡ of_the_one es
passed e es h = ap (λ t. of_the_one (to e t ∷ es)) h

open_one : (e : Element) (es : List Element) (fault : Fault) → e.child.target ≡ Indeterminate fault → of_the_one (e ∷ es) ≡ []
open_one e es fault h = ap (λ t. of_the_one (to e t ∷ es)) h

alone : (e : Element) → e.child.target ≡ Match → of_the_one (e ∷ []) ≡ e.ids
alone e h = ap (λ t. of_the_one (to e t ∷ [])) h ∙ append-nil e.ids

behind : (c e : Element) (es : List Element) → c.child.target ≡ Match → e.child.target ≡ NoMatch → of_the_one (c ∷ e ∷ es) ≡ of_the_one (c ∷ es)
behind c e es g h = ap₂ (λ s t. of_the_one (to c s ∷ to e t ∷ es)) g h ∙ sym (ap (λ s. of_the_one (to c s ∷ es)) g)

open_behind : (c e : Element) (es : List Element) (fault : Fault) → c.child.target ≡ Match → e.child.target ≡ Indeterminate fault → of_the_one (c ∷ e ∷ es) ≡ []
open_behind c e es fault g h = ap₂ (λ s t. of_the_one (to c s ∷ to e t ∷ es)) g h

either_way : (b : Bool) (c e : Element) (es : List Element) → flat_map (λ x. x.ids) (if b then [] else only (c ∷ e ∷ es)) ≡ []
either_way true c e es = refl
either_way false c e es = refl

second : (c e : Element) (es : List Element) → c.child.target ≡ Match → e.child.target ≡ Match → of_the_one (c ∷ e ∷ es) ≡ []
second c e es g h =
    ap₂ (λ s t. of_the_one (to c s ∷ to e t ∷ es)) g h
    ∙ either_way (list_any (λ x. is_indeterminate x.child.target) es) (to c Match) (to e Match) (filter (λ x. is_match x.child.target) es)

-- the target of an element, by that of the child
target_too : (values_of : Attributes) (t : Linked) (m n : Matching) → m ≡ (evaluated values_of t).target → m ≡ n → (element values_of t).child.target ≡ n
target_too values_of t m n is found = ap (λ (c : EvaluatedChild). c.target) (element_child values_of t) ∙ sym is ∙ found

-- where nothing is named
pub names_none : (s before : Named) (keys whole : List DocumentKey) → s ≡ before → keys ≡ [] → keys ≡ whole → s ≡ with_named before whole
names_none s before keys whole same none so_far = same ∙ sym (none_named before) ∙ ap (with_named before) (sym none ∙ so_far)

pub one_passed : (values_of : Attributes) (ts rest : List Linked) (t : Linked) (m : Matching) (whole : List DocumentKey)
    → ts ≡ t ∷ rest → m ≡ (evaluated values_of t).target → m ≡ NoMatch
    → of_the_one (map (element values_of) ts) ≡ whole → of_the_one (map (element values_of) rest) ≡ whole
one_passed values_of ts rest t m whole at is none so_far =
    sym (passed (element values_of t) (map (element values_of) rest) (target_too values_of t m NoMatch is none))
    ∙ ap (λ us. of_the_one (map (element values_of) us)) (sym at) ∙ so_far

pub one_open : (values_of : Attributes) (s before : Named) (ts rest : List Linked) (t : Linked) (m : Matching) (fault : Fault) (whole : List DocumentKey)
    → ts ≡ t ∷ rest → m ≡ (evaluated values_of t).target → m ≡ Indeterminate fault → s ≡ before
    → of_the_one (map (element values_of) ts) ≡ whole → s ≡ with_named before whole
one_open values_of s before ts rest t m fault whole at is left same so_far =
    names_none s before (of_the_one (map (element values_of) ts)) whole same
    (ap (λ us. of_the_one (map (element values_of) us)) at ∙ open_one (element values_of t) (map (element values_of) rest) fault (target_too values_of t m (Indeterminate fault) is left)) so_far

-- and the same behind one that applies
pub other_passed : (values_of : Attributes) (c : Linked) (ts rest : List Linked) (t : Linked) (m : Matching) (whole : List DocumentKey)
    → (evaluated values_of c).target ≡ Match → ts ≡ t ∷ rest → m ≡ (evaluated values_of t).target → m ≡ NoMatch
    → of_the_one (element values_of c ∷ map (element values_of) ts) ≡ whole → of_the_one (element values_of c ∷ map (element values_of) rest) ≡ whole
other_passed values_of c ts rest t m whole applies at is none so_far =
    sym (behind (element values_of c) (element values_of t) (map (element values_of) rest) (target_too values_of c Match Match (sym applies) refl)
    (target_too values_of t m NoMatch is none))
    ∙ ap (λ us. of_the_one (element values_of c ∷ map (element values_of) us)) (sym at) ∙ so_far

pub other_open : (values_of : Attributes) (s before : Named) (c : Linked) (ts rest : List Linked) (t : Linked) (m : Matching) (fault : Fault) (whole : List DocumentKey)
    → (evaluated values_of c).target ≡ Match → ts ≡ t ∷ rest → m ≡ (evaluated values_of t).target → m ≡ Indeterminate fault → s ≡ before
    → of_the_one (element values_of c ∷ map (element values_of) ts) ≡ whole → s ≡ with_named before whole
other_open values_of s before c ts rest t m fault whole applies at is left same so_far =
    names_none s before (of_the_one (element values_of c ∷ map (element values_of) ts)) whole same
    (ap (λ us. of_the_one (element values_of c ∷ map (element values_of) us)) at
    ∙ open_behind (element values_of c) (element values_of t) (map (element values_of) rest) fault (target_too values_of c Match Match (sym applies) refl)
    (target_too values_of t m (Indeterminate fault) is left)) so_far

pub other_applies : (values_of : Attributes) (s before : Named) (c : Linked) (ts rest : List Linked) (t : Linked) (m : Matching) (whole : List DocumentKey)
    → (evaluated values_of c).target ≡ Match → ts ≡ t ∷ rest → m ≡ (evaluated values_of t).target → m ≡ Match → s ≡ before
    → of_the_one (element values_of c ∷ map (element values_of) ts) ≡ whole → s ≡ with_named before whole
other_applies values_of s before c ts rest t m whole applies at is too same so_far =
    names_none s before (of_the_one (element values_of c ∷ map (element values_of) ts)) whole same
    (ap (λ us. of_the_one (element values_of c ∷ map (element values_of) us)) at
    ∙ second (element values_of c) (element values_of t) (map (element values_of) rest) (target_too values_of c Match Match (sym applies) refl)
    (target_too values_of t m Match is too)) so_far

-- the one that applies, with no other left behind it
pub no_other : (values_of : Attributes) (s now before : Named) (c : Linked) (ts : List Linked) (whole : List DocumentKey)
    → (evaluated values_of c).target ≡ Match → ts ≡ [] → now ≡ with_named s (element values_of c).ids → s ≡ before
    → of_the_one (element values_of c ∷ map (element values_of) ts) ≡ whole → now ≡ with_named before whole
no_other values_of s now before c ts whole applies none step same so_far =
    step ∙ ap (λ n. with_named n (element values_of c).ids) same
    ∙ ap (with_named before) (sym (alone (element values_of c) (target_too values_of c Match Match (sym applies) refl))
    ∙ ap (λ us. of_the_one (element values_of c ∷ map (element values_of) us)) (sym none) ∙ so_far)
