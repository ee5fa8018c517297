-- The values of expressions, of variables and of targets rest on the designators that stand in them alone.
use Rattle.std.proofs.Common.{◌≡◌, refl, ap, sym, ◌∙◌, subst, List, [], ◌∷◌, ◌++◌, map}
use Rattle.std.specs.List.{flat_map}
use Rattle.xa_expr.specs.declared.designator.Designator.{Designator}
use Rattle.xa_expr.specs.declared.target.AllOf.{AllOf}
use Rattle.xa_expr.specs.declared.target.AnyOf.{AnyOf}
use Rattle.xa_expr.specs.declared.target.Target.{Target}
use Rattle.xa_expr.specs.declared.typed.Typed.{Typed}
use Rattle.xa_expr.specs.declared.typed.Typed.TheFolds.{fold-roll-Typed, map-Typed, ind-Typed}
use Rattle.xa_expr.specs.declared.typed.Typed.TheOpen.{Typed-F}
use Rattle.xa_expr.specs.declared.variables.Definition.{Definition}
use Rattle.xa_expr.specs.Designators.{AgreeOn, RestsOn, designators, designators_step, designators_of_definitions, designators_of_match, designators_of_all_of, designators_of_any_of, designators_of_target}
use Rattle.xa_expr.specs.Evaluation.{Attributes, Outcome, attribute, applied, higher_applied, outcome, outcome_step, outcomes, outcomes_after, value_of}
use Rattle.xa_expr.specs.declared.match_.Match.{Match}
use Rattle.xa_expr.specs.Target.{match_on, match_value, all_match, all_of_value, any_of_value, some_match, target_value}

-- what agrees on two lists of designators does on each
pub agree_first : (ds es : List Designator) (a b : Attributes) → AgreeOn (ds ++ es) a b → AgreeOn ds a b
agree_first [] es a b agree = tt
agree_first (d ∷ ds) es a b agree = (agree.0, agree_first ds es a b agree.1)

pub agree_second : (ds es : List Designator) (a b : Attributes) → AgreeOn (ds ++ es) a b → AgreeOn es a b
agree_second [] es a b agree = agree
agree_second (d ∷ ds) es a b agree = agree_second ds es a b agree.1

pub agree_both : (ds es : List Designator) (a b : Attributes) → AgreeOn ds a b → AgreeOn es a b → AgreeOn (ds ++ es) a b
agree_both [] es a b first second = second
agree_both (d ∷ ds) es a b first second = (first.0, agree_both ds es a b first.1 second)

-- what is the same of each item, where sources agree on the item's designators, is so of all items
pub same_of_each : {X Y : Type 0} (a b : Attributes) (held : X → List Designator) (f g : X → Y) → ((x : X) → AgreeOn (held x) a b → f x ≡ g x)
    → (xs : List X) → AgreeOn (flat_map held xs) a b → map f xs ≡ map g xs
same_of_each a b held f g same [] agree = refl
same_of_each a b held f g same (x ∷ xs) agree =
    ap (λ y. y ∷ map f xs) (same x (agree_first (held x) (flat_map held xs) a b agree))
    ∙ ap (λ ys. g x ∷ ys) (same_of_each a b held f g same xs (agree_second (held x) (flat_map held xs) a b agree))

attribute_rests : (d : Designator) → RestsOn (d ∷ []) (λ a. attribute a d)
attribute_rests d a b agree = ap (λ vs. attribute (λ _. vs) d) agree.0

-- an expression, where the variables come to these
abbrev Rests : List Outcome → Typed → Type 0
Rests variables t = RestsOn (designators t) (λ a. outcome a variables t)

parts_rest : (variables : List Outcome) (ts : List ((t : Typed) × Rests variables t)) (a b : Attributes)
    → AgreeOn (flat_map (λ ds. ds) (map designators (map (λ e. e.0) ts))) a b → map (outcome a variables) (map (λ e. e.0) ts) ≡ map (outcome b variables) (map (λ e. e.0) ts)
parts_rest variables [] a b agree = refl
parts_rest variables (t ∷ ts) a b agree =
    ap (λ r. r ∷ map (outcome a variables) (map (λ e. e.0) ts)) (t.1 a b (agree_first (designators t.0) (flat_map (λ ds. ds) (map designators (map (λ e. e.0) ts))) a b agree))
    ∙ ap (λ rs. outcome b variables t.0 ∷ rs) (parts_rest variables ts a b (agree_second (designators t.0) (flat_map (λ ds. ds) (map designators (map (λ e. e.0) ts))) a b agree))

layer_rests : (variables : List Outcome) (y : Typed-F ((t : Typed) × Rests variables t)) (a b : Attributes)
    → AgreeOn (designators_step (map-Typed Typed (List Designator) designators (map-Typed ((t : Typed) × Rests variables t) Typed (λ e. e.0) y))) a b
    → outcome_step a variables (map-Typed Typed Outcome (outcome a variables) (map-Typed ((t : Typed) × Rests variables t) Typed (λ e. e.0) y))
    ≡ outcome_step b variables (map-Typed Typed Outcome (outcome b variables) (map-Typed ((t : Typed) × Rests variables t) Typed (λ e. e.0) y))
layer_rests variables (Typed-F.Literal v) a b agree = refl
layer_rests variables (Typed-F.Attribute d) a b agree = attribute_rests d a b agree
layer_rests variables (Typed-F.Variable place k) a b agree = refl
layer_rests variables (Typed-F.Apply f ts) a b agree = ap (applied f) (parts_rest variables ts a b agree)
layer_rests variables (Typed-F.HigherOrder h f ts) a b agree = ap (higher_applied h f) (parts_rest variables ts a b agree)

pub outcome_rests : (variables : List Outcome) (t : Typed) → RestsOn (designators t) (λ a. outcome a variables t)
outcome_rests variables = ind-Typed (Rests variables) (λ x y is a b agree.
    let whole = subst (λ ds. AgreeOn ds a b) (fold-roll-Typed (List Designator) designators_step x) agree in
    let here = subst (λ z. AgreeOn (designators_step (map-Typed Typed (List Designator) designators z)) a b
    → outcome_step a variables (map-Typed Typed Outcome (outcome a variables) z) ≡ outcome_step b variables (map-Typed Typed Outcome (outcome b variables) z))
    is (layer_rests variables y a b) in
    fold-roll-Typed Outcome (outcome_step a variables) x ∙ here whole ∙ sym (fold-roll-Typed Outcome (outcome_step b variables) x))

-- the variables, by their definitions
outcomes_rest : (ds : List Definition) (before : List Outcome) → RestsOn (designators_of_definitions ds) (λ a. outcomes_after a before ds)
outcomes_rest [] before a b agree = refl
outcomes_rest (d ∷ ds) before a b agree =
    ap (λ r. outcomes_after a (before ++ r ∷ []) ds) (outcome_rests before d.expression a b (agree_first (designators d.expression) (designators_of_definitions ds) a b agree))
    ∙ outcomes_rest ds (before ++ outcome b before d.expression ∷ []) a b (agree_second (designators d.expression) (designators_of_definitions ds) a b agree)

-- an expression under definitions
pub value_same : (ds : List Definition) (a b : Attributes) → AgreeOn (designators_of_definitions ds) a b → (t : Typed) → AgreeOn (designators t) a b
    → value_of a ds t ≡ value_of b ds t
value_same ds a b defined t agree = ap (λ variables. outcome a variables t) (outcomes_rest ds [] a b defined) ∙ outcome_rests (outcomes b ds) t a b agree

-- a target and its parts
match_rests : (q : Match) → RestsOn (designators_of_match q) (λ a. match_value a q)
match_rests q a b agree = ap (match_on q) (attribute_rests q.designator a b agree)

all_of_rests : (part : AllOf) → RestsOn (designators_of_all_of part) (λ a. all_of_value a part)
all_of_rests part a b agree = ap all_match (same_of_each a b designators_of_match (match_value a) (match_value b) (λ q. match_rests q a b) part.matches agree)

any_of_rests : (part : AnyOf) → RestsOn (designators_of_any_of part) (λ a. any_of_value a part)
any_of_rests part a b agree = ap some_match (same_of_each a b designators_of_all_of (all_of_value a) (all_of_value b) (λ each. all_of_rests each a b) part.all_of agree)

pub target_rests : (target : Target) → RestsOn (designators_of_target target) (λ a. target_value a target)
target_rests target a b agree = ap all_match (same_of_each a b designators_of_any_of (any_of_value a) (any_of_value b) (λ each. any_of_rests each a b) target.any_of agree)
