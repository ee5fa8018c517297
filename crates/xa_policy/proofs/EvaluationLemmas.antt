-- What the loops over rules and over the children of a policy set go by.
use Rattle.std.proofs.Common.{◌≡◌, Bool, true, false, refl, ap, arith, ℕ, zero, suc, ◌<◌, List, [], ◌∷◌, map, length, get_or, subst, sym, ◌∙◌, IfOk}
use Rattle.std.specs.Prelude.{Result}
use Rattle.xa_func.specs.declared.signature.Kind.{Kind}
use Rattle.xa_expr.specs.declared.fault.Fault.{Fault}
use Rattle.xa_expr.specs.declared.fault.Fault.TheVariants.{ProcessingError}
use Rattle.xa_expr.specs.declared.matching.Matching.{Matching}
use Rattle.xa_expr.specs.declared.matching.Matching.TheVariants.{Match, NoMatch, Indeterminate}
use Rattle.xa_expr.specs.declared.typed.Typed.{Typed}
use Rattle.xa_policy.specs.declared.combination.Combination.{Combination}
use Rattle.xa_policy.specs.declared.combining.Alg.{Alg}
use Rattle.xa_policy.specs.declared.rule.Rule.{Rule}
use Rattle.xa_policy.specs.declared.verdict.Verdict.{Verdict}
use Rattle.xa_policy.specs.Evaluation.{ends}
use Rattle.xa_policy.specs.Policy.{AreTypedRules, IsTypedRule}
use Rattle.xa_policy.specs.Rule.{undecided}
use Rattle.xa_policy.specs.Status.{EvaluatedChild}
use Rattle.xa_policy.specs.walking.Walk.{decided, walked, with_next}
use Rattle.xa_policy.proofs.OnlyOneLemmas as only
use Rattle.xa_policy.proofs.WalkLemmas.{walked_ended, walked_next}

-- one of the rules, whose expressions are all checked
pub rule_typed : (ks : List Kind) (rs : List (Rule Typed)) (i : ℕ) (r : Rule Typed) → AreTypedRules ks rs → r ≡ get_or rs i r → i < length rs → IsTypedRule ks r
rule_typed ks [] i r each is below = absurd (omega arith)
rule_typed ks (s ∷ rs) zero r each is below = subst (IsTypedRule ks) (sym is) each.0
rule_typed ks (s ∷ rs) (suc i) r each is below = rule_typed ks rs i r each.1 is (omega arith)

-- a child is taken under the same algorithm
same_algorithm : (s : Combination) (e : Verdict) (end : Bool) → ends s.algorithm e.decision ≡ end → (with_next s e).algorithm ≡ s.algorithm
same_algorithm s e true is = rw is refl
same_algorithm s e false is = rw is refl

-- whether the child of this value ends it
pub judged : (s : Combination) (c : EvaluatedChild) (e : Verdict) (end answer : Bool) → e ≡ c.value → end ≡ ends s.algorithm e.decision → end ≡ answer → ends s.algorithm c.value.decision ≡ answer
judged s c e end answer is found so = ap (λ x. ends s.algorithm x.decision) (sym is) ∙ sym found ∙ so

pub child_ends : {X : Type 0} (v : X → EvaluatedChild) (s next : Combination) (xs rest : List X) (x : X) (e result whole : Verdict) (end : Bool)
    → xs ≡ x ∷ rest → e ≡ (v x).value → next ≡ with_next s e → end ≡ ends s.algorithm e.decision → end ≡ true → result ≡ decided next
    → walked s (map v xs) ≡ whole → result ≡ whole
child_ends v s next xs rest x e result whole end at is step found so given so_far =
    given ∙ ap decided step ∙ ap (λ y. decided (with_next s y)) is ∙ sym (walked_ended s (v x) (map v rest) (judged s (v x) e end true is found so))
    ∙ ap (λ ys. walked s (map v ys)) (sym at) ∙ so_far

pub child_goes_on : {X : Type 0} (v : X → EvaluatedChild) (a : Alg) (s next : Combination) (xs rest : List X) (x : X) (e whole : Verdict) (end : Bool)
    → xs ≡ x ∷ rest → e ≡ (v x).value → next ≡ with_next s e → end ≡ ends s.algorithm e.decision → end ≡ false
    → (s.algorithm ≡ a) × (walked s (map v xs) ≡ whole) → (next.algorithm ≡ a) × (walked next (map v rest) ≡ whole)
child_goes_on v a s next xs rest x e whole end at is step found so so_far = (
  ap (λ n. n.algorithm) step ∙ same_algorithm s e end (sym found) ∙ so_far.0,
  ap (λ n. walked n (map v rest)) step ∙ ap (λ y. walked (with_next s y) (map v rest)) is ∙ sym (walked_next s (v x) (map v rest) (judged s (v x) e end false is found so))
      ∙ ap (λ ys. walked s (map v ys)) (sym at) ∙ so_far.1,
)

-- under only-one-applicable: a child that doesn't apply, and one that leaves it open
pub child_passed : {X : Type 0} (v : X → EvaluatedChild) (xs rest : List X) (x : X) (m : Matching) (whole : Verdict)
    → xs ≡ x ∷ rest → m ≡ (v x).target → m ≡ NoMatch → only.evaluated (map v xs) ≡ whole → only.evaluated (map v rest) ≡ whole
child_passed v xs rest x m whole at is none so_far =
    sym (only.evaluated_passed (v x) (map v rest) (sym is ∙ none)) ∙ ap (λ ys. only.evaluated (map v ys)) (sym at) ∙ so_far

pub child_open : {X : Type 0} (v : X → EvaluatedChild) (xs rest : List X) (x : X) (m : Matching) (fault : Fault) (result whole : Verdict)
    → xs ≡ x ∷ rest → m ≡ (v x).target → m ≡ Indeterminate fault → result ≡ undecided fault → only.evaluated (map v xs) ≡ whole → result ≡ whole
child_open v xs rest x m fault result whole at is left given so_far =
    given ∙ sym (only.evaluated_open (v x) (map v rest) fault (sym is ∙ left)) ∙ ap (λ ys. only.evaluated (map v ys)) (sym at) ∙ so_far

-- and the same behind one that applies
pub other_passed : {X : Type 0} (v : X → EvaluatedChild) (c : EvaluatedChild) (xs rest : List X) (x : X) (m : Matching) (whole : Verdict)
    → c.target ≡ Match → xs ≡ x ∷ rest → m ≡ (v x).target → m ≡ NoMatch → only.evaluated (c ∷ map v xs) ≡ whole → only.evaluated (c ∷ map v rest) ≡ whole
other_passed v c xs rest x m whole applies at is none so_far =
    sym (only.evaluated_behind c (v x) (map v rest) applies (sym is ∙ none)) ∙ ap (λ ys. only.evaluated (c ∷ map v ys)) (sym at) ∙ so_far

pub other_open : {X : Type 0} (v : X → EvaluatedChild) (c : EvaluatedChild) (xs rest : List X) (x : X) (m : Matching) (fault : Fault) (result whole : Verdict)
    → c.target ≡ Match → xs ≡ x ∷ rest → m ≡ (v x).target → m ≡ Indeterminate fault → result ≡ undecided fault → only.evaluated (c ∷ map v xs) ≡ whole → result ≡ whole
other_open v c xs rest x m fault result whole applies at is left given so_far =
    given ∙ sym (only.evaluated_open_behind c (v x) (map v rest) fault applies (sym is ∙ left)) ∙ ap (λ ys. only.evaluated (c ∷ map v ys)) (sym at) ∙ so_far

pub other_applies : {X : Type 0} (v : X → EvaluatedChild) (c : EvaluatedChild) (xs rest : List X) (x : X) (m : Matching) (result whole : Verdict)
    → c.target ≡ Match → xs ≡ x ∷ rest → m ≡ (v x).target → m ≡ Match → result ≡ undecided ProcessingError → only.evaluated (c ∷ map v xs) ≡ whole → result ≡ whole
other_applies v c xs rest x m result whole applies at is too given so_far =
    given ∙ sym (only.evaluated_second c (v x) (map v rest) applies (sym is ∙ too)) ∙ ap (λ ys. only.evaluated (c ∷ map v ys)) (sym at) ∙ so_far

-- none is left behind it
pub no_other : {X E : Type 0} (v : X → EvaluatedChild) (c : EvaluatedChild) (xs : List X) (r : Result Verdict E) (value whole : Verdict)
    → xs ≡ [] → only.evaluated (c ∷ []) ≡ value → IfOk r (λ e. e ≡ value) → only.evaluated (c ∷ map v xs) ≡ whole → IfOk r (λ e. e ≡ whole)
no_other v c xs r value whole none alone given so_far =
    subst (λ w. IfOk r (λ e. e ≡ w)) (sym alone ∙ ap (λ ys. only.evaluated (c ∷ map v ys)) (sym none) ∙ so_far) given
