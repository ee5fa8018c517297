-- The choices that are left, as values are chosen and taken back.
use Rattle.std.proofs.Common.{◌≡◌, refl, ap, sym, ◌∙◌, ℕ, suc, zero, ◌<◌, ◌≤◌, arith, Bool, true, false, List, [], ◌∷◌, ◌++◌, map, length, get_or, drop, Some, None}
use Rattle.std.proofs.lemmas.List.{length-append}
use Rattle.std.proofs.lemmas.Option.{slice_get-get_or, slice_get_past}
use Rattle.std.specs.Prelude.{flat_map, slice_get}
use Rattle.xa_value.specs.declared.value.Value.{Value}
use Rattle.xa_value.specs.Order.{type_of}
use Rattle.xa_func.specs.declared.signature.Kind.TheVariants as kind
use Rattle.xa_func.specs.Signature.{kind_of}
use Rattle.xa_bag.specs.declared.value_or_bag.ValueOrBag.{ValueOrBag}
use Rattle.xa_bag.specs.HigherOrder.{choices}
use Rattle.xa_bag.specs.ValueOrBag.{values_of, type_of_each, kind_of_each}
use Rattle.xa_bag.specs.Choosing.{choices_from, no_choices, left, AreChosen, from_found, Chooses}

-- ---- what stands at a place of a list, and behind it

drop_found : {X : Type 0} (xs : List X) (place : ℕ) (x : X) → slice_get xs place ≡ Some x → drop place xs ≡ x ∷ drop (suc place) xs
drop_found [] place x at = cc
drop_found (y ∷ xs) zero x at =
    let here : Some y ≡ Some x = at in
    let same : y ≡ x = cc in
    ap (λ z. z ∷ xs) same
drop_found (y ∷ xs) (suc place) x at = drop_found xs place x at

drop_none : {X : Type 0} (xs : List X) (place : ℕ) → slice_get xs place ≡ None → drop place xs ≡ []
drop_none [] zero at = refl
drop_none [] (suc place) at = refl
drop_none (y ∷ xs) zero at = cc
drop_none (y ∷ xs) (suc place) at = drop_none xs place at

-- the argument behind those chosen for
next_argument : (arguments : List ValueOrBag) (depth : ℕ) (vs : List Value) (argument : ValueOrBag)
    → depth ≡ length vs → depth < length arguments → argument ≡ get_or arguments depth argument → slice_get arguments (length vs) ≡ Some argument
next_argument arguments depth vs argument deep further stands =
    ap (slice_get arguments) (sym deep) ∙ slice_get-get_or arguments depth argument further ∙ ap Some (sym stands)

-- ---- an argument without values leaves no choice

none_of_each : (vs : List Value) → flat_map (λ v. map (λ (ws : List Value). v ∷ ws) []) vs ≡ []
none_of_each [] = refl
none_of_each (v ∷ vs) = none_of_each vs

no_choice_with : (arguments : List ValueOrBag) (place : ℕ) (argument : ValueOrBag) → slice_get arguments place ≡ Some argument → values_of argument ≡ [] → choices arguments ≡ []
no_choice_with [] place argument at none = cc
no_choice_with (first ∷ others) zero argument at none =
    let here : Some first ≡ Some argument = at in
    let same : first ≡ argument = cc in
    ap (λ a. flat_map (λ v. map (λ ws. v ∷ ws) (choices others)) (values_of a)) same ∙ ap (flat_map (λ v. map (λ ws. v ∷ ws) (choices others))) none
no_choice_with (first ∷ others) (suc place) argument at none =
    ap (λ rest. flat_map (λ v. map (λ ws. v ∷ ws) rest) (values_of first)) (no_choice_with others place argument at none) ∙ none_of_each (values_of first)

-- ---- what is left of the further arguments alone may change

left_agrees : (f g : List ValueOrBag → List (List Value)) (vs : List Value) (places : List ℕ) (arguments : List ValueOrBag) (argument : ValueOrBag)
    → AreChosen vs places arguments → slice_get arguments (length vs) ≡ Some argument → ((others : List ValueOrBag) → f (argument ∷ others) ≡ g (argument ∷ others))
    → left f vs places arguments ≡ left g vs places arguments
left_agrees f g [] [] [] argument begun at agree = cc
left_agrees f g [] [] (first ∷ others) argument begun at agree =
    let here : Some first ≡ Some argument = at in
    let same : first ≡ argument = cc in
    ap (λ a. f (a ∷ others)) same ∙ agree others ∙ sym (ap (λ a. g (a ∷ others)) same)
left_agrees f g [] (p ∷ places) arguments argument begun at agree = absurd begun
left_agrees f g (u ∷ vs) [] arguments argument begun at agree = absurd begun
left_agrees f g (u ∷ vs) (p ∷ places) [] argument begun at agree = absurd begun
left_agrees f g (u ∷ vs) (p ∷ places) (first ∷ others) argument begun at agree =
    ap (λ rest. map (λ ws. u ∷ ws) rest ++ choices_from p (first ∷ others)) (left_agrees f g vs places others argument begun.1 at agree)

-- all values of the next argument are those from its first on
left_first : (vs : List Value) (places : List ℕ) (arguments : List ValueOrBag) (argument : ValueOrBag)
    → AreChosen vs places arguments → slice_get arguments (length vs) ≡ Some argument → left choices vs places arguments ≡ left (choices_from 0) vs places arguments
left_first vs places arguments argument begun at = left_agrees choices (choices_from 0) vs places arguments argument begun at (λ others. refl)

-- behind its last value there are none
left_none : (place : ℕ) (vs : List Value) (places : List ℕ) (arguments : List ValueOrBag) (argument : ValueOrBag)
    → AreChosen vs places arguments → slice_get arguments (length vs) ≡ Some argument → slice_get (values_of argument) place ≡ None
    → left (choices_from place) vs places arguments ≡ left no_choices vs places arguments
left_none place vs places arguments argument begun at none =
    left_agrees (choices_from place) no_choices vs places arguments argument begun at
    (λ others. ap (flat_map (λ v. map (λ ws. v ∷ ws) (choices others))) (drop_none (values_of argument) place none))

-- and where it has no value at all, none are left
left_no_choice : (vs : List Value) (places : List ℕ) (arguments : List ValueOrBag) (argument : ValueOrBag)
    → AreChosen vs places arguments → slice_get arguments (length vs) ≡ Some argument → values_of argument ≡ [] → left choices vs places arguments ≡ []
left_no_choice [] [] arguments argument begun at none = no_choice_with arguments 0 argument at none
left_no_choice [] (p ∷ places) arguments argument begun at none = absurd begun
left_no_choice (u ∷ vs) [] arguments argument begun at none = absurd begun
left_no_choice (u ∷ vs) (p ∷ places) [] argument begun at none = absurd begun
left_no_choice (u ∷ vs) (p ∷ places) (first ∷ others) argument begun at none =
    ap (λ rest. map (λ ws. u ∷ ws) rest ++ choices_from p (first ∷ others)) (left_no_choice vs places others argument begun.1 at none)
    ∙ ap (λ rest. flat_map (λ v. map (λ ws. v ∷ ws) rest) (drop p (values_of first))) (no_choice_with others (length vs) argument at none)
    ∙ none_of_each (drop p (values_of first))

-- ---- one value more

-- what is left of the further arguments with a value of the first, and behind it
abbrev one_more : (List ValueOrBag → List (List Value)) → Value → ℕ → List ValueOrBag → List (List Value)
one_more further v place [] = []
one_more further v place (argument ∷ arguments) = map (λ ws. v ∷ ws) (further arguments) ++ choices_from place (argument ∷ arguments)

left_push : (further : List ValueOrBag → List (List Value)) (vs : List Value) (places : List ℕ) (arguments : List ValueOrBag) (v : Value) (place : ℕ)
    → AreChosen vs places arguments → left further (vs ++ v ∷ []) (places ++ place ∷ []) arguments ≡ left (one_more further v place) vs places arguments
left_push further [] [] [] v place begun = refl
left_push further [] [] (first ∷ others) v place begun = refl
left_push further [] (p ∷ places) arguments v place begun = absurd begun
left_push further (u ∷ vs) [] arguments v place begun = absurd begun
left_push further (u ∷ vs) (p ∷ places) [] v place begun = absurd begun
left_push further (u ∷ vs) (p ∷ places) (first ∷ others) v place begun =
    ap (λ rest. map (λ ws. u ∷ ws) rest ++ choices_from p (first ∷ others)) (left_push further vs places others v place begun.1)

left_found : (place : ℕ) (vs : List Value) (places : List ℕ) (arguments : List ValueOrBag) (argument : ValueOrBag) (v : Value)
    → AreChosen vs places arguments → slice_get arguments (length vs) ≡ Some argument → slice_get (values_of argument) place ≡ Some v
    → left (choices_from place) vs places arguments ≡ left choices (vs ++ v ∷ []) (places ++ suc place ∷ []) arguments
left_found place vs places arguments argument v begun at found =
    left_agrees (choices_from place) (one_more choices v (suc place)) vs places arguments argument begun at
    (λ others. ap (flat_map (λ w. map (λ ws. w ∷ ws) (choices others))) (drop_found (values_of argument) place v found))
    ∙ sym (left_push choices vs places arguments v (suc place) begun)

chosen_push : (vs : List Value) (places : List ℕ) (arguments : List ValueOrBag) (argument : ValueOrBag) (v : Value) (place : ℕ)
    → AreChosen vs places arguments → slice_get arguments (length vs) ≡ Some argument → type_of v ≡ type_of_each argument
    → AreChosen (vs ++ v ∷ []) (places ++ place ∷ []) arguments
chosen_push [] [] [] argument v place begun at type = absurd (cc)
chosen_push [] [] (first ∷ others) argument v place begun at type =
    let here : Some first ≡ Some argument = at in
    let same : argument ≡ first = cc in
    (type ∙ ap type_of_each same, tt)
chosen_push [] (p ∷ places) arguments argument v place begun at type = absurd begun
chosen_push (u ∷ vs) [] arguments argument v place begun at type = absurd begun
chosen_push (u ∷ vs) (p ∷ places) [] argument v place begun at type = absurd begun
chosen_push (u ∷ vs) (p ∷ places) (first ∷ others) argument v place begun at type = (begun.0, chosen_push vs places others argument v place begun.1 at type)

-- what the code does at a value, and where there is none
pub step_found : (place next depth : ℕ) (vs ws : List Value) (places ends : List ℕ) (arguments : List ValueOrBag) (argument : ValueOrBag) (values : List Value) (v : Value)
    → AreChosen vs places arguments → depth ≡ length vs → depth < length arguments → argument ≡ get_or arguments depth argument
    → values ≡ values_of argument → type_of v ≡ type_of_each argument → place < length values → v ≡ get_or values place v
    → ws ≡ vs ++ v ∷ [] → ends ≡ places ++ next ∷ [] → next ≡ suc place → Chooses place arguments vs places true ws ends
step_found place next depth vs ws places ends arguments argument values v begun deep further stands these type within is put placed behind =
    let at = next_argument arguments depth vs argument deep further stands in
    let found : slice_get (values_of argument) place ≡ Some v = sym (ap (λ us. slice_get us place) these) ∙ slice_get-get_or values place v within ∙ ap Some (sym is) in
    let placed_so : ends ≡ places ++ suc place ∷ [] = placed ∙ ap (λ n. places ++ n ∷ []) behind in
    let reached = left_found place vs places arguments argument v begun at found in
    let longer : length (vs ++ v ∷ []) ≡ suc (length vs) = omega (arith, length-append vs (v ∷ [])) in
    rw (put, placed_so) (
      chosen_push vs places arguments argument v (suc place) begun at type,
      longer,
      reached,
      λ first. left_first vs places arguments argument begun at ∙ ap (λ n. left (choices_from n) vs places arguments) (sym first) ∙ reached,
    )

pub step_none : (place depth : ℕ) (vs ws : List Value) (places ends : List ℕ) (arguments : List ValueOrBag) (argument : ValueOrBag) (values : List Value)
    → AreChosen vs places arguments → depth ≡ length vs → depth < length arguments → argument ≡ get_or arguments depth argument
    → values ≡ values_of argument → length values ≤ place → ws ≡ vs → ends ≡ places → Chooses place arguments vs places false ws ends
step_none place depth vs ws places ends arguments argument values begun deep further stands these past same kept =
    let at = next_argument arguments depth vs argument deep further stands in
    let none : slice_get (values_of argument) place ≡ None = sym (ap (λ us. slice_get us place) these) ∙ slice_get_past values place past in (
      same,
      kept,
      left_none place vs places arguments argument begun at none,
      λ first. left_no_choice vs places arguments argument begun at (ap (λ n. drop n (values_of argument)) (sym first) ∙ drop_none (values_of argument) place none),
    )

-- ---- one for each argument

pub chosen_most : (vs : List Value) (places : List ℕ) (arguments : List ValueOrBag) → AreChosen vs places arguments → length vs ≤ length arguments
chosen_most [] [] arguments begun = omega arith
chosen_most [] (p ∷ places) arguments begun = absurd begun
chosen_most (u ∷ vs) [] arguments begun = absurd begun
chosen_most (u ∷ vs) (p ∷ places) [] begun = absurd begun
chosen_most (u ∷ vs) (p ∷ places) (first ∷ others) begun = let rest = chosen_most vs places others begun.1 in omega arith

pub left_whole : (vs : List Value) (places : List ℕ) (arguments : List ValueOrBag) → AreChosen vs places arguments → length vs ≡ length arguments
    → left choices vs places arguments ≡ vs ∷ left no_choices vs places arguments
left_whole [] [] [] begun whole = refl
left_whole [] [] (first ∷ others) begun whole = absurd (omega arith)
left_whole [] (p ∷ places) arguments begun whole = absurd begun
left_whole (u ∷ vs) [] arguments begun whole = absurd begun
left_whole (u ∷ vs) (p ∷ places) [] begun whole = absurd begun
left_whole (u ∷ vs) (p ∷ places) (first ∷ others) begun whole =
    ap (λ rest. map (λ ws. u ∷ ws) rest ++ choices_from p (first ∷ others)) (left_whole vs places others begun.1 (omega arith))

-- they are of the kinds of the arguments' values
pub chosen_kinds : (vs : List Value) (places : List ℕ) (arguments : List ValueOrBag) → AreChosen vs places arguments → length vs ≡ length arguments
    → map kind_of vs ≡ map kind_of_each arguments
chosen_kinds [] [] [] begun whole = refl
chosen_kinds [] [] (first ∷ others) begun whole = absurd (omega arith)
chosen_kinds [] (p ∷ places) arguments begun whole = absurd begun
chosen_kinds (u ∷ vs) [] arguments begun whole = absurd begun
chosen_kinds (u ∷ vs) (p ∷ places) [] begun whole = absurd begun
chosen_kinds (u ∷ vs) (p ∷ places) (first ∷ others) begun whole =
    let rest : map kind_of vs ≡ map kind_of_each others = chosen_kinds vs places others begun.1 (omega arith) in
    ap (λ t. kind.Value t ∷ map kind_of vs) begun.0 ∙ ap (λ ks. kind_of_each first ∷ ks) rest

-- ---- the last one taken back

pub record TakenBack (vs : List Value) (places : List ℕ) (place : ℕ) (arguments : List ValueOrBag) : Type 0 where
  pub kept : List Value
  pub last : Value
  pub whole : vs ≡ kept ++ last ∷ []
  pub begun : AreChosen kept places arguments
  pub further : length kept < length arguments
  pub rest : left no_choices vs (places ++ place ∷ []) arguments ≡ left (choices_from place) kept places arguments

pub taken_back : (vs : List Value) (places : List ℕ) (place : ℕ) (arguments : List ValueOrBag) → AreChosen vs (places ++ place ∷ []) arguments → TakenBack vs places place arguments
taken_back [] [] place arguments begun = absurd begun
taken_back [] (p ∷ places) place arguments begun = absurd begun
taken_back (v ∷ vs) [] place [] begun = absurd begun
taken_back (v ∷ []) [] place (first ∷ others) begun = record { kept = []; last = v; whole = refl; begun = tt; further = omega arith; rest = refl }
taken_back (v ∷ u ∷ vs) [] place (first ∷ others) begun = absurd begun.1
taken_back (v ∷ vs) (p ∷ places) place [] begun = absurd begun
taken_back (v ∷ vs) (p ∷ places) place (first ∷ others) begun =
    let back : TakenBack vs places place others = taken_back vs places place others begun.1 in
    let shorter : length back.kept < length others = back.further in
    record {
      kept = v ∷ back.kept;
      last = back.last;
      whole = ap (λ us. v ∷ us) back.whole;
      begun = (begun.0, back.begun);
      further = omega arith;
      rest = ap (λ rest. map (λ ws. v ∷ ws) rest ++ choices_from p (first ∷ others)) back.rest;
    }

-- what is left behind it is what was left
left_behind : (place : ℕ) (vs us : List Value) (places ends : List ℕ) (arguments : List ValueOrBag) (whole : List (List Value)) (back : TakenBack vs ends place arguments)
    → places ≡ ends ++ place ∷ [] → us ≡ back.kept → left no_choices vs places arguments ≡ whole → left (choices_from place) us ends arguments ≡ whole
left_behind place vs us places ends arguments whole back popped kept so_far =
    ap (λ ks. left (choices_from place) ks ends arguments) kept ∙ sym back.rest ∙ sym (ap (λ ps. left no_choices vs ps arguments) popped) ∙ so_far

-- where its argument has a later value, the choices go on there
pub goes_on : (place : ℕ) (vs us ws : List Value) (places ends later : List ℕ) (arguments : List ValueOrBag) (whole : List (List Value)) (back : TakenBack vs ends place arguments)
    → places ≡ ends ++ place ∷ [] → us ≡ back.kept → left no_choices vs places arguments ≡ whole → Chooses place arguments us ends true ws later
    → left choices ws later arguments ≡ whole
goes_on place vs us ws places ends later arguments whole back popped kept so_far step =
    sym step.2 ∙ left_behind place vs us places ends arguments whole back popped kept so_far

-- and else behind the one before it
pub goes_back : (place : ℕ) (vs us ws : List Value) (places ends later : List ℕ) (arguments : List ValueOrBag) (whole : List (List Value)) (back : TakenBack vs ends place arguments)
    → places ≡ ends ++ place ∷ [] → us ≡ back.kept → left no_choices vs places arguments ≡ whole → Chooses place arguments us ends false ws later
    → AreChosen ws later arguments × (left no_choices ws later arguments ≡ whole)
goes_back place vs us ws places ends later arguments whole back popped kept so_far step = (
  rw (step.0, step.1, kept) back.begun,
  rw (step.0, step.1) (sym step.2 ∙ left_behind place vs us places ends arguments whole back popped kept so_far),
)

-- where none is left to take back, no choice is left
pub none_behind : (vs : List Value) (places : List ℕ) (arguments : List ValueOrBag) (whole : List (List Value))
    → AreChosen vs places arguments → length places ≡ 0 → left no_choices vs places arguments ≡ whole → whole ≡ []
none_behind [] [] arguments whole begun none so_far = sym so_far
none_behind [] (p ∷ places) arguments whole begun none so_far = absurd begun
none_behind (u ∷ vs) [] arguments whole begun none so_far = absurd begun
none_behind (u ∷ vs) (p ∷ places) arguments whole begun none so_far = absurd (omega arith)

-- ---- all choices, one after another

pub none_chosen : (vs : List Value) (places : List ℕ) (arguments : List ValueOrBag) → vs ≡ [] → places ≡ [] → AreChosen vs places arguments
none_chosen vs places arguments none_of_them no_place = rw (none_of_them, no_place) tt

pub all_left : (vs : List Value) (places : List ℕ) (arguments : List ValueOrBag) → vs ≡ [] → left choices vs places arguments ≡ choices arguments
all_left vs places arguments none_of_them = ap (λ us. left choices us places arguments) none_of_them

-- each choice that is found leaves fewer
pub fewer_left : (found more : Bool) (vs ws : List Value) (places ends : List ℕ) (arguments : List ValueOrBag)
    → found ≡ true → left no_choices vs places arguments ≡ from_found more ws ends arguments
    → length (from_found more ws ends arguments) < length (from_found found vs places arguments)
fewer_left true more vs ws places ends arguments is next =
    let same : length (left no_choices vs places arguments) ≡ length (from_found more ws ends arguments) = ap length next in
    omega arith
fewer_left false more vs ws places ends arguments is next = absurd (cc)
