-- Checked expressions, layer by layer: what they come to, and what their kinds say of their arguments.
use Rattle.std.proofs.Common.{◌≡◌, refl, ap, sym, ◌∙◌, subst, ℕ, zero, suc, ◌<◌, ◌≤◌, max, arith, Bool, true, false, List, [], ◌∷◌, map, length, get_or, slice_get, Option, Some, None}
use Rattle.std.proofs.lemmas.Bool.{and_parts}
use Rattle.std.specs.Prelude.{◌&&◌, if◌then◌else◌}
use denote.Param.Weighed.{most}
use Rattle.xa_func.specs.declared.func_id.FuncId.{FuncId}
use Rattle.xa_func.specs.declared.func_id.HigherOrder.{HigherOrder}
use Rattle.xa_func.specs.declared.signature.Kind.{Kind}
use Rattle.xa_func.specs.Signature.{AcceptsKinds, TakesKinds, signature_of, of_each, result_type_of}
use Rattle.xa_func.specs.Table.{is_scalar}
use Rattle.xa_bag.specs.Applying.{kind_given}
use Rattle.xa_expr.specs.declared.typed.Typed.{Typed, out-Typed}
use Rattle.xa_expr.specs.declared.typed.Typed.TheFolds.{fold-roll-Typed, fold_out-Typed, map-Typed}
use Rattle.xa_expr.specs.declared.typed.Typed.TheOpen.{Typed-F}
use Rattle.xa_expr.specs.declared.typed.Typed.TheVariants as typed
use Rattle.xa_expr.specs.declared.typed.Typed.TheVariants.{rolls-Apply, rolls-HigherOrder}
use Rattle.xa_expr.specs.Arguments.{AreTypedUnder}
use Rattle.xa_expr.specs.Evaluation.{Attributes, Outcome, outcome, outcome_step, applied, higher_applied}
use Rattle.xa_expr.specs.Typed.{kind_at, kind_of_typed, kind_under, under_step, kind_where, all_there, put_first, variable_kind, result_kind, accepted, higher_accepted, has_bags, gives_boolean, same_kind}
use Rattle.xa_expr.proofs.KindLemmas.{accepts_of}
use Rattle.xa_expr.proofs.UnderLemmas.{under_apply, under_higher_order}

pub outcome_apply : (values_of : Attributes) (rs : List Outcome) (f : FuncId) (ts : List Typed) → outcome values_of rs (typed.Apply f ts) ≡ applied f (map (outcome values_of rs) ts)
outcome_apply values_of rs f ts = ap (outcome values_of rs) (sym (rolls-Apply f ts)) ∙ fold-roll-Typed Outcome (outcome_step values_of rs) (Typed-F.Apply f ts)

pub outcome_higher : (values_of : Attributes) (rs : List Outcome) (h : HigherOrder) (f : FuncId) (ts : List Typed)
    → outcome values_of rs (typed.HigherOrder h f ts) ≡ higher_applied h f (map (outcome values_of rs) ts)
outcome_higher values_of rs h f ts = ap (outcome values_of rs) (sym (rolls-HigherOrder h f ts)) ∙ fold-roll-Typed Outcome (outcome_step values_of rs) (Typed-F.HigherOrder h f ts)

-- where there is a kind, the arguments are all there and pass
where_some : (passes : List Kind → Bool) (k l : Kind) (o : Option (List Kind)) → kind_where passes k o ≡ Some l → (ks : List Kind) × (o ≡ Some ks) × (passes ks ≡ true) × (k ≡ l)
where_some passes k l (Some ks) e = by_case (passes ks) refl e where
  by_case : (b : Bool) → passes ks ≡ b → (if b then Some k else None) ≡ Some l → (ls : List Kind) × (Some ks ≡ Some ls) × (passes ls ≡ true) × (k ≡ l)
  by_case true at same = (ks, refl, at, cc)
  by_case false at same = cc
where_some passes k l None e = cc

-- the kind under variables is the expression's own
pub kind_is : (vs : List Kind) (t : Typed) (k : Kind) → kind_under vs t ≡ Some k → kind_of_typed t ≡ k
kind_is vs t k e = by_case (out-Typed t) (sym (fold_out-Typed (Option Kind) (under_step vs) t) ∙ e) where
  variable_is : (o : Option Kind) (l : Kind) → variable_kind o l ≡ Some k → l ≡ k
  variable_is (Some m) l same = if_is (same_kind m l) same where
    if_is : (b : Bool) → (if b then Some l else None) ≡ Some k → l ≡ k
    if_is true at = cc
    if_is false at = cc
  variable_is None l same = cc

  by_case : (x : Typed-F Typed) → under_step vs (map-Typed Typed (Option Kind) (kind_under vs) x) ≡ Some k → kind_at x ≡ k
  by_case (Typed-F.Literal v) same = cc
  by_case (Typed-F.Attribute d) same = cc
  by_case (Typed-F.Variable place l) same = variable_is (slice_get vs place) l same
  by_case (Typed-F.Apply f ts) same = (where_some (accepted (signature_of f)) (result_kind (signature_of f)) k (all_there (map (kind_under vs) ts)) same).3
  by_case (Typed-F.HigherOrder h f ts) same =
      (where_some (λ given. is_scalar f && higher_accepted h f given) (kind_given h (result_type_of (signature_of f))) k (all_there (map (kind_under vs) ts)) same).3

-- arguments that are all there have their kinds
there_typed : (vs : List Kind) (ts : List Typed) (ks : List Kind) → all_there (map (kind_under vs) ts) ≡ Some ks → AreTypedUnder vs ts × (map kind_of_typed ts ≡ ks)
there_typed vs [] ks e = (tt, cc)
there_typed vs (t ∷ ts) ks e = first (there_typed vs ts) (kind_under vs t) refl e where
  second : ((ls : List Kind) → all_there (map (kind_under vs) ts) ≡ Some ls → AreTypedUnder vs ts × (map kind_of_typed ts ≡ ls))
      → (k : Kind) → kind_under vs t ≡ Some k → (o : Option (List Kind)) → all_there (map (kind_under vs) ts) ≡ o → put_first k o ≡ Some ks
      → AreTypedUnder vs (t ∷ ts) × (map kind_of_typed (t ∷ ts) ≡ ks)
  second others k here (Some ls) rest at =
      let typed = others ls rest in
      let own = kind_is vs t k here in
      let whole : k ∷ ls ≡ ks = cc in
      ((here ∙ ap Some (sym own), typed.0), ap (λ l. l ∷ map kind_of_typed ts) own ∙ ap (λ ms. k ∷ ms) typed.1 ∙ whole)
  second others k here None rest at = cc

  first : ((ls : List Kind) → all_there (map (kind_under vs) ts) ≡ Some ls → AreTypedUnder vs ts × (map kind_of_typed ts ≡ ls))
      → (o : Option Kind) → kind_under vs t ≡ o → all_there (o ∷ map (kind_under vs) ts) ≡ Some ks → AreTypedUnder vs (t ∷ ts) × (map kind_of_typed (t ∷ ts) ≡ ks)
  first others (Some k) here at = second others k here (all_there (map (kind_under vs) ts)) refl at
  first others None here at = cc

-- what the kind of an application says of its arguments
pub apply_typed : (vs : List Kind) (f : FuncId) (ts : List Typed) (l : Kind) (t : Typed) → t ≡ typed.Apply f ts → kind_under vs t ≡ Some l
    → AreTypedUnder vs ts × AcceptsKinds (signature_of f) (map kind_of_typed ts)
apply_typed vs f ts l t is e =
    let there = where_some _ _ _ _ (sym (under_apply vs f ts) ∙ ap (kind_under vs) (sym is) ∙ e) in
    let typed = there_typed vs ts there.0 there.1 in
    (typed.0, subst (AcceptsKinds (signature_of f)) (sym typed.1) (accepts_of (signature_of f) there.0 there.2))

pub higher_typed : (vs : List Kind) (h : HigherOrder) (f : FuncId) (ts : List Typed) (l : Kind) (t : Typed) → t ≡ typed.HigherOrder h f ts → kind_under vs t ≡ Some l
    → AreTypedUnder vs ts × TakesKinds f (map of_each (map kind_of_typed ts))
higher_typed vs h f ts l t is e =
    let there = where_some _ _ _ _ (sym (under_higher_order vs h f ts) ∙ ap (kind_under vs) (sym is) ∙ e) in
    let typed = there_typed vs ts there.0 there.1 in
    let scalar = and_parts (is_scalar f) (higher_accepted h f there.0) there.2 in
    let bags = and_parts (has_bags h there.0 && accepted (signature_of f) (map of_each there.0)) (gives_boolean h f) scalar.1 in
    let taken = and_parts (has_bags h there.0) (accepted (signature_of f) (map of_each there.0)) bags.0 in
    (typed.0, (scalar.0, subst (λ ks. AcceptsKinds (signature_of f) (map of_each ks)) (sym typed.1) (accepts_of (signature_of f) (map of_each there.0) taken.1)))

-- the kind of one argument
pub typed_at : (vs : List Kind) (ts : List Typed) (i : ℕ) (t : Typed) → AreTypedUnder vs ts → t ≡ get_or ts i t → i < length ts → kind_under vs t ≡ Some (kind_of_typed t)
typed_at vs [] i t each is below = absurd (omega arith)
typed_at vs (u ∷ ts) zero t each is below = ap (kind_under vs) is ∙ each.0 ∙ ap (λ x. Some (kind_of_typed x)) (sym is)
typed_at vs (u ∷ ts) (suc i) t each is below = typed_at vs ts i t each.1 is (omega arith)

-- and of those after the first
pub rest_typed : (vs : List Kind) (ts us : List Typed) (t : Typed) → ts ≡ t ∷ us → AreTypedUnder vs ts → AreTypedUnder vs us
rest_typed vs ts us t is each = let all = subst (AreTypedUnder vs) is each in all.1

-- and they are no deeper
pub most_rest : (size : Typed → ℕ) (ts us : List Typed) (t : Typed) → ts ≡ t ∷ us → most size us ≤ most size ts
most_rest size ts us t is =
    let whole : most size ts ≡ max (size t) (most size us) = ap (most size) is in
    omega (arith, whole)
