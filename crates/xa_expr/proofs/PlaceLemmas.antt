-- Or, and, n-of, place by place, as far as the places decide.
use Rattle.std.proofs.Common.{◌≡◌, refl, ap, sym, ◌∙◌, ℕ, zero, suc, ◌+◌, ◌-◌, ◌<◌, ◌≤◌, arith, Bool, true, false, not, List, [], ◌∷◌, map, length, drop}
use Rattle.std.specs.Prelude.{Result, Ok, Err, IsErrAnd}
use Rattle.std.proofs.lemmas.List.{length-drop}
use mathlib.Core.Bool.{beq}
use Rattle.xa_value.specs.declared.or_memory.OrMemory.{OrMemory}
use Rattle.xa_value.specs.Gives.{Gives}
use Rattle.xa_func.specs.Logic.{n_places, n_among}
use Rattle.xa_func.proofs.LogicLemmas.{n_among_short, n_among_enough, n_places_false, n_places_short}
use Rattle.xa_bag.proofs.JoiningLemmas.{verdict, then_verdict, verdict_cons, sought_decides, unsought_passes}
use Rattle.xa_bag.specs.declared.value_or_bag.ValueOrBag.{ValueOrBag}
use Rattle.xa_expr.specs.declared.fault.Fault.{Fault}
use Rattle.xa_expr.specs.declared.fault.Fault.TheVariants.{ProcessingError}
use Rattle.xa_expr.specs.Evaluation.{Outcome, place, truth}
use Rattle.xa_expr.proofs.ArgumentLemmas.{fault_passed}

-- the next place and those after it decide for all
pub next_place : {A : Type 0} (stop : Bool) (v : A → Outcome) (ts us : List A) (t : A) (whole : Result Bool Fault)
    → ts ≡ t ∷ us → verdict stop (map place (map v ts)) ≡ whole → then_verdict stop (place (v t)) (verdict stop (map place (map v us))) ≡ whole
next_place stop v ts us t whole walked so_far =
    sym (verdict_cons stop (place (v t)) (map place (map v us))) ∙ sym (ap (λ ss. verdict stop (map place (map v ss))) walked) ∙ so_far

-- a fault at the next place
pub place_stops : (stop : Bool) (here : Outcome) (next whole : Result Bool Fault) (r : Result Bool (OrMemory Fault)) (e : OrMemory Fault)
    → then_verdict stop (place here) next ≡ whole → IsErrAnd r (λ d. d ≡ e) → Gives {X = ValueOrBag} (Err e) here → Gives r whole
place_stops stop here next whole r e so_far same gives =
    fault_passed e r here whole (λ f at. sym so_far ∙ ap (λ x. then_verdict stop (place x) next) at) same gives

-- the answer that is sought, which stops, and the other, which doesn't
pub place_decides : (stop sought answer : Bool) (given : ValueOrBag) (here : Outcome) (next whole : Result Bool Fault)
    → sought ≡ stop → then_verdict stop (place here) next ≡ whole → here ≡ Ok given → answer ≡ truth given → beq answer sought ≡ true → whole ≡ Ok sought
place_decides stop sought answer given here next whole stops so_far at is same =
    sought_decides stop sought answer (place here) next whole stops so_far (ap place at ∙ ap (λ b. Ok b) (sym is)) same

pub place_passes : (stop sought answer : Bool) (given : ValueOrBag) (here : Outcome) (next whole : Result Bool Fault)
    → sought ≡ stop → then_verdict stop (place here) next ≡ whole → here ≡ Ok given → answer ≡ truth given → beq answer sought ≡ false → next ≡ whole
place_passes stop sought answer given here next whole stops so_far at is differ =
    unsought_passes stop sought answer (place here) next whole stops so_far (ap place at ∙ ap (λ b. Ok b) (sym is)) differ

-- no place is left
pub no_place_left : {A : Type 0} (stop sought : Bool) (v : A → Outcome) (ts : List A) (whole : Result Bool Fault)
    → sought ≡ stop → ts ≡ [] → verdict stop (map place (map v ts)) ≡ whole → whole ≡ Ok (not sought)
no_place_left true sought v ts whole stops none so_far =
    sym so_far ∙ ap (λ ss. verdict true (map place (map v ss))) none ∙ ap (λ b. Ok (not b)) (sym stops)
no_place_left false sought v ts whole stops none so_far =
    sym so_far ∙ ap (λ ss. verdict false (map place (map v ss))) none ∙ ap (λ b. Ok (not b)) (sym stops)

-- n of the places: none is True at once
pub n_none : {F : Type 0} (fault : F) (rs : List (Result Bool F)) → n_among fault 0 rs ≡ Ok true
n_none fault rs = n_among_enough fault 0 rs (omega arith)

-- n of the places of these arguments
abbrev pub n_of_these : {A : Type 0} → (A → Outcome) → ℕ → List A → Result Bool Fault
n_of_these v n ts = n_places n (map place (map v ts))

pub length_places : {A : Type 0} (v : A → Outcome) (ts : List A) → length (map place (map v ts)) ≡ length ts
length_places v [] = refl
length_places v (t ∷ ts) = ap suc (length_places v ts)

here_first : {A : Type 0} (v : A → Outcome) (n : ℕ) (ts us : List A) (t : A) (o : Outcome) (whole : Result Bool Fault)
    → ts ≡ t ∷ us → n_of_these v n ts ≡ whole → v t ≡ o → n_places n (place o ∷ map place (map v us)) ≡ whole
here_first v n ts us t o whole walked so_far here =
    ap (λ r. n_places n (place r ∷ map place (map v us))) (sym here) ∙ ap (λ ss. n_of_these v n ss) (sym walked) ∙ so_far

pub n_fault : {A : Type 0} (v : A → Outcome) (n : ℕ) (ts us : List A) (t : A) (whole : Result Bool Fault)
    → ts ≡ t ∷ us → n_of_these v n ts ≡ whole → 1 ≤ n → (f : Fault) → v t ≡ Err f → whole ≡ Err f
n_fault v zero ts us t whole walked so_far some f here = absurd (omega arith)
n_fault v (suc n) ts us t whole walked so_far some f here = sym (here_first v (suc n) ts us t (Err f) whole walked so_far here)

true_first : {A : Type 0} (v : A → Outcome) (n : ℕ) (ts us : List A) (t : A) (given : ValueOrBag) (b : Bool) (whole : Result Bool Fault)
    → ts ≡ t ∷ us → n_of_these v n ts ≡ whole → v t ≡ Ok given → truth given ≡ b → n_places n (Ok b ∷ map place (map v us)) ≡ whole
true_first v n ts us t given b whole walked so_far here is =
    ap (λ c. n_places n (Ok c ∷ map place (map v us))) (sym is) ∙ here_first v n ts us t (Ok given) whole walked so_far here

-- True: one fewer of the rest is wanted
pub n_less : {A : Type 0} (v : A → Outcome) (n : ℕ) (ts us : List A) (t : A) (given : ValueOrBag) (whole : Result Bool Fault)
    → ts ≡ t ∷ us → n_of_these v n ts ≡ whole → v t ≡ Ok given → truth given ≡ true → 1 ≤ n → n_of_these v (n - 1) us ≡ whole
n_less v zero ts us t given whole walked so_far here is more = absurd (omega arith)
n_less v (suc n) ts us t given whole walked so_far here is more =
    let less : suc n - 1 ≡ n = omega arith in
    rw less (true_first v (suc n) ts us t given true whole walked so_far here is)

-- and the last that is wanted
pub n_last : {A : Type 0} (v : A → Outcome) (n : ℕ) (ts us : List A) (t : A) (given : ValueOrBag) (whole : Result Bool Fault)
    → ts ≡ t ∷ us → n_of_these v n ts ≡ whole → v t ≡ Ok given → truth given ≡ true → n ≡ 1 → whole ≡ Ok true
n_last v n ts us t given whole walked so_far here is one =
    sym (true_first v n ts us t given true whole walked so_far here is) ∙ ap (λ m. n_places m (Ok true ∷ map place (map v us))) one

-- False, and enough are left
pub n_passes : {A : Type 0} (v : A → Outcome) (n : ℕ) (ts us : List A) (t : A) (given : ValueOrBag) (whole : Result Bool Fault)
    → ts ≡ t ∷ us → n_of_these v n ts ≡ whole → v t ≡ Ok given → truth given ≡ false → n ≤ length us → n_of_these v n us ≡ whole
n_passes v n ts us t given whole walked so_far here is enough =
    let same = length_places v us in
    sym (n_places_false n (map place (map v us)) (omega arith)) ∙ true_first v n ts us t given false whole walked so_far here is

-- False, and too few are left
pub n_ends : {A : Type 0} (v : A → Outcome) (n : ℕ) (ts us : List A) (t : A) (given : ValueOrBag) (whole : Result Bool Fault)
    → ts ≡ t ∷ us → n_of_these v n ts ≡ whole → v t ≡ Ok given → truth given ≡ false → length us < n → whole ≡ Ok false
n_ends v n ts us t given whole walked so_far here is short =
    let same = length_places v us in
    sym (true_first v n ts us t given false whole walked so_far here is) ∙ n_places_short n (map place (map v us)) (omega arith)

-- n of all, where there are as many
pub n_whole : {A : Type 0} (v : A → Outcome) (n : ℕ) (ts : List A) → n ≤ length ts → n_among ProcessingError n (map place (map v ts)) ≡ n_of_these v n ts
n_whole v n ts enough = let same = length_places v ts in n_among_enough ProcessingError n (map place (map v ts)) (omega arith)

pub n_too_few : {A : Type 0} (v : A → Outcome) (n : ℕ) (ts : List A) → length ts < n → n_among ProcessingError n (map place (map v ts)) ≡ Err ProcessingError
n_too_few v n ts short = let same = length_places v ts in n_among_short ProcessingError n (map place (map v ts)) (omega arith)

-- how many are behind a place
pub left_behind : {A : Type 0} (ts : List A) (i left : ℕ) → left + i ≡ length ts → 1 ≤ left → length (drop (i + 1) ts) ≡ left - 1
left_behind ts i left total some = let h = length-drop (i + 1) ts in omega (arith, h)
