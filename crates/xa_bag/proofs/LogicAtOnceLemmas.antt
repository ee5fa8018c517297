-- Or, and and n-of of all choices, from how many arguments have a True.
use Rattle.std.proofs.Common.{◌≡◌, refl, ap, sym, ◌∙◌, subst, ℕ, suc, ◌<◌, ◌≤◌, Bool, true, false, ◌||◌, cond, nat_le, nat_lt, List, [], ◌∷◌, ◌++◌, map, length, arith}
use Rattle.std.specs.Prelude.{ℤ, pos, int_lt, unsigned_abs, Option, Some, None, option_map, flat_map, Result, Ok, Err}
use Rattle.std.specs.List.{list_any}
use Rattle.std.proofs.lemmas.Bool.Decides.{nat_tests}
use Rattle.std.proofs.lemmas.List.{map-append}
use Rattle.xa_value.specs.declared.data_type.DataType.{DataType}
use Rattle.xa_value.specs.declared.data_type.DataType.TheVariants as data_type
use Rattle.xa_value.specs.declared.value.Value.{Value}
use Rattle.xa_value.specs.declared.value.Value.TheVariants as value
use Rattle.xa_value.specs.Order.{type_of}
use Rattle.xa_func.specs.declared.fault.FuncFault.{FuncFault}
use Rattle.xa_func.specs.declared.fault.FuncFault.TheVariants.{Position}
use Rattle.xa_func.specs.declared.func_id.FuncId.TheVariants as function_id
use Rattle.xa_func.specs.declared.func_id.Logic.{Logic}
use Rattle.xa_func.specs.declared.func_id.Logic.TheVariants as logic
use Rattle.xa_func.specs.declared.signature.Kind.TheVariants as kind
use Rattle.xa_func.specs.declared.signature.Parameters.TheVariants.{OneAndMore}
use Rattle.xa_func.specs.Application.{applied}
use Rattle.xa_func.specs.Arguments.{as_value, booleans}
use Rattle.xa_func.specs.Logic.{or_of, and_of, true_count, n_among, n_of, given, logical}
use Rattle.xa_func.specs.Signature.{kind_of, Every, Fits, type_of_kind}
use Rattle.xa_func.proofs.LogicLemmas.{length_given, n_among_short, n_among_given}
use Rattle.xa_bag.specs.declared.value_or_bag.ValueOrBag.{ValueOrBag}
use Rattle.xa_bag.specs.Bag.{OfType}
use Rattle.xa_bag.specs.HigherOrder.{choices, is_true, outcome, truth, holds, any_of}
use Rattle.xa_bag.specs.LogicAtOnce.{of_some_choice, with_values, most_true, EachOfItsType, n_of_counted, n_of_value}
use Rattle.xa_bag.specs.ValueOrBag.{values_of, kind_of_each}
use Rattle.xa_bag.proofs.JoiningLemmas.{then_verdict, verdict_cons, verdict_one, verdict_append, map_agrees, map_after}

-- how many of the values are True
abbrev pub trues : List Value → ℕ
trues vs = true_count (booleans vs)

trues_first : (v : Value) (vs : List Value) → trues (v ∷ vs) ≡ cond (is_true v) (suc (trues vs)) (trues vs)
trues_first (value.Boolean true) vs = refl
trues_first (value.Boolean false) vs = refl
trues_first (value.String x) vs = refl
trues_first (value.Integer x) vs = refl
trues_first (value.Date x) vs = refl
trues_first (value.Time x) vs = refl
trues_first (value.DateTime x) vs = refl
trues_first (value.DayTimeDuration x) vs = refl
trues_first (value.YearMonthDuration x) vs = refl
trues_first (value.AnyUri x) vs = refl
trues_first (value.HexBinary x) vs = refl
trues_first (value.Base64Binary x) vs = refl

-- what is found by a count decides the same with one more True after it or before it as with one more alone: it is True
-- from some count on, or a fault
pub record Rises {F : Type 0} (p : ℕ → Result Bool F) : Type 0 where
  pub up : (n : ℕ) → then_verdict true (p n) (p (suc n)) ≡ p (suc n)
  pub down : (n : ℕ) → then_verdict true (p (suc n)) (p n) ≡ p (suc n)

-- what is found at the most, and False where there is no choice
abbrev pub at_most : {F : Type 0} → (ℕ → Result Bool F) → Option ℕ → Result Bool F
at_most p (Some n) = p n
at_most p None = Ok false

-- with an argument that has a True, or has none
abbrev with_argument : Bool → Option ℕ → Option ℕ
with_argument b most = option_map (λ n. cond b (suc n) n) most

then_same : {F : Type 0} (r : Result Bool F) → then_verdict true r r ≡ r
then_same (Ok true) = refl
then_same (Ok false) = refl
then_same (Err e) = refl

then_none : {F : Type 0} (r : Result Bool F) → then_verdict true r (Ok false) ≡ r
then_none (Ok true) = refl
then_none (Ok false) = refl
then_none (Err e) = refl

-- a value and further ones of an argument
either_value : {F : Type 0} (p : ℕ → Result Bool F) → Rises p → (b c : Bool) (most : Option ℕ)
    → then_verdict true (at_most p (with_argument b most)) (at_most p (with_argument c most)) ≡ at_most p (with_argument (b || c) most)
either_value p rises b c None = refl
either_value p rises true true (Some n) = then_same (p (suc n))
either_value p rises true false (Some n) = rises.down n
either_value p rises false true (Some n) = rises.up n
either_value p rises false false (Some n) = then_same (p n)

rises_after : {F : Type 0} (p : ℕ → Result Bool F) → Rises p → Rises (λ n. p (suc n))
rises_after p rises = record { up = λ n. rises.up (suc n); down = λ n. rises.down (suc n) }

-- what is found for the choices of further arguments, by the count from one True on, or from none
abbrev pub found : {F : Type 0} → (ℕ → Result Bool F) → List ValueOrBag → Result Bool F
found p arguments = or_of (map (λ vs. p (trues vs)) (choices arguments))

at_most_after : {F : Type 0} (p : ℕ → Result Bool F) (most : Option ℕ) → at_most (λ n. p (suc n)) most ≡ at_most p (with_argument true most)
at_most_after p None = refl
at_most_after p (Some n) = refl

at_most_same : {F : Type 0} (p : ℕ → Result Bool F) (most : Option ℕ) → at_most p most ≡ at_most p (with_argument false most)
at_most_same p None = refl
at_most_same p (Some n) = refl

-- the choices that begin with a value
from_value : {F : Type 0} (p : ℕ → Result Bool F) (v : Value) (rest : List ValueOrBag)
    → found p rest ≡ at_most p (most_true rest) → found (λ n. p (suc n)) rest ≡ at_most (λ n. p (suc n)) (most_true rest)
    → or_of (map (λ vs. p (trues vs)) (map (λ vs. v ∷ vs) (choices rest))) ≡ at_most p (with_argument (is_true v) (most_true rest))
from_value {F} p v rest without more =
    ap or_of (sym (map_after (λ vs. p (trues vs)) (λ vs. v ∷ vs) (λ vs. p (cond (is_true v) (suc (trues vs)) (trues vs))) (λ vs. ap p (sym (trues_first v vs))) (choices rest)))
    ∙ by_case (is_true v) where
      by_case : (b : Bool) → or_of (map (λ vs. p (cond b (suc (trues vs)) (trues vs))) (choices rest)) ≡ at_most p (with_argument b (most_true rest))
      by_case true = more ∙ at_most_after p (most_true rest)
      by_case false = without ∙ at_most_same p (most_true rest)

-- and those that begin with one of the values
from_values : {F : Type 0} (p : ℕ → Result Bool F) → Rises p → (rest : List ValueOrBag)
    → found p rest ≡ at_most p (most_true rest) → found (λ n. p (suc n)) rest ≡ at_most (λ n. p (suc n)) (most_true rest)
    → (ws : List Value) → or_of (map (λ vs. p (trues vs)) (flat_map (λ v. map (λ vs. v ∷ vs) (choices rest)) ws)) ≡ at_most p (with_values ws (most_true rest))
from_values p rises rest without more [] = refl
from_values {F} p rises rest without more (v ∷ ws) =
    let f : List Value → Result Bool F = λ vs. p (trues vs) in
    let here = map (λ vs. v ∷ vs) (choices rest) in
    let next = flat_map (λ w. map (λ vs. w ∷ vs) (choices rest)) ws in
    ap or_of (map-append f here next)
    ∙ verdict_append true (map f here) (map f next)
    ∙ ap (λ r. then_verdict true r (or_of (map f next))) (from_value p v rest without more)
    ∙ ap (then_verdict true (at_most p (with_argument (is_true v) (most_true rest)))) (from_values p rises rest without more ws)
    ∙ by_case ws where
      by_case : (us : List Value) → then_verdict true (at_most p (with_argument (is_true v) (most_true rest))) (at_most p (with_values us (most_true rest)))
          ≡ at_most p (with_values (v ∷ us) (most_true rest))
      by_case [] = then_none (at_most p (with_argument (is_true v) (most_true rest))) ∙ ap (λ b. at_most p (with_argument b (most_true rest))) (or_nothing (is_true v)) where
        or_nothing : (b : Bool) → b ≡ (b || false)
        or_nothing true = refl
        or_nothing false = refl
      by_case (u ∷ us) = either_value p rises (is_true v) (list_any is_true (u ∷ us)) (most_true rest)

-- what is found for some choice is what is found at the most
pub by_most : {F : Type 0} (p : ℕ → Result Bool F) → Rises p → (arguments : List ValueOrBag) → found p arguments ≡ at_most p (most_true arguments)
by_most p rises [] = verdict_one true (p 0)
by_most p rises (argument ∷ rest) =
    from_values p rises rest (by_most p rises rest) (by_most (λ n. p (suc n)) (rises_after p rises) rest) (values_of argument)

-- True from some count on
rise_up : {F : Type 0} (k n : ℕ) (b : Bool) → nat_le k n ≡ b → then_verdict {F = F} true (Ok b) (Ok (nat_le k (suc n))) ≡ Ok (nat_le k (suc n))
rise_up k n true e = let h : true ≡ nat_le k (suc n) = grind (arith, nat_tests) in ap Ok h
rise_up k n false e = refl

rise_down : {F : Type 0} (k n : ℕ) (b : Bool) → nat_le k (suc n) ≡ b → then_verdict {F = F} true (Ok b) (Ok (nat_le k n)) ≡ Ok b
rise_down k n true e = refl
rise_down k n false e = let h : nat_le k n ≡ false = grind (arith, nat_tests) in ap Ok h

rises_from : {F : Type 0} (k : ℕ) → Rises {F = F} (λ n. Ok (nat_le k n))
rises_from k = record { up = λ n. rise_up k n (nat_le k n) refl; down = λ n. rise_down k n (nat_le k (suc n)) refl }

-- or: at least one
or_counted : (bs : List Bool) → or_of (given bs) ≡ Ok (nat_le 1 (true_count bs))
or_counted [] = refl
or_counted (true ∷ bs) = let h : true ≡ nat_le 1 (suc (true_count bs)) = grind (arith, nat_tests) in ap Ok h
or_counted (false ∷ bs) = or_counted bs

or_at_most : (arguments : List ValueOrBag) → of_some_choice logic.Or arguments ≡ at_most (λ n. Ok (nat_le 1 n)) (most_true arguments)
or_at_most arguments =
    ap or_of (map_agrees (logical logic.Or) (λ vs. Ok (nat_le 1 (trues vs))) (λ vs. or_counted (booleans vs)) (choices arguments))
    ∙ by_most (λ n. Ok (nat_le 1 n)) (rises_from 1) arguments

pub or_by_most : (arguments : List ValueOrBag) (most : Option ℕ) → most ≡ most_true arguments → of_some_choice logic.Or arguments ≡ at_most (λ n. Ok (nat_le 1 n)) most
or_by_most arguments most is = or_at_most arguments ∙ ap (at_most (λ n. Ok (nat_le 1 n))) (sym is)

-- and: as many as there are
trues_within : (bs : List Bool) → true_count bs ≤ length (given bs)
trues_within [] = omega arith
trues_within (true ∷ bs) = let h = trues_within bs in omega arith
trues_within (false ∷ bs) = let h = trues_within bs in omega arith

and_counted : (bs : List Bool) → and_of (given bs) ≡ Ok (nat_le (length (given bs)) (true_count bs))
and_counted [] = refl
and_counted (true ∷ bs) =
    let h : nat_le (length (given bs)) (true_count bs) ≡ nat_le (suc (length (given bs))) (suc (true_count bs)) = grind (arith, nat_tests) in
    and_counted bs ∙ ap Ok h
and_counted (false ∷ bs) =
    let some = trues_within bs in
    let h : false ≡ nat_le (suc (length (given bs))) (true_count bs) = grind (arith, nat_tests) in ap Ok h

-- every value of every argument is a boolean
abbrev AllBoolean : List ValueOrBag → Type 0
AllBoolean [] = Unit {0}
AllBoolean (argument ∷ arguments) = OfType data_type.Boolean (values_of argument) × AllBoolean arguments

all_boolean : (arguments : List ValueOrBag) → EachOfItsType arguments → Every (kind.Value data_type.Boolean) (map kind_of_each arguments) → AllBoolean arguments
all_boolean [] typed every = tt
all_boolean (argument ∷ arguments) typed every =
    let P : DataType → Type 0 = λ t. OfType t (values_of argument) in
    (subst P (ap type_of_kind every.0) typed.0, all_boolean arguments typed.1 every.1)

-- what is the same for booleans of the right number is the same for the choices that begin with a value
values_agree : {R : Type 0} (f g : List Value → R) (cs : List (List Value))
    → ((v : Value) → type_of v ≡ data_type.Boolean → map f (map (λ vs. v ∷ vs) cs) ≡ map g (map (λ vs. v ∷ vs) cs))
    → (ws : List Value) → OfType data_type.Boolean ws → map f (flat_map (λ v. map (λ vs. v ∷ vs) cs) ws) ≡ map g (flat_map (λ v. map (λ vs. v ∷ vs) cs) ws)
values_agree f g cs agree [] typed = refl
values_agree f g cs agree (v ∷ ws) typed =
    let here = map (λ vs. v ∷ vs) cs in
    let next = flat_map (λ w. map (λ vs. w ∷ vs) cs) ws in
    map-append f here next
    ∙ ap (λ rs. rs ++ map f next) (agree v typed.0)
    ∙ ap (λ rs. map g here ++ rs) (values_agree f g cs agree ws typed.1)
    ∙ sym (map-append g here next)

-- and for all choices
choices_agree : {R : Type 0} (f g : List Value → R) (arguments : List ValueOrBag) → AllBoolean arguments
    → ((vs : List Value) → Every (kind.Value data_type.Boolean) (map kind_of vs) → length vs ≡ length arguments → f vs ≡ g vs)
    → map f (choices arguments) ≡ map g (choices arguments)
choices_agree f g [] typed agree = ap (λ r. r ∷ []) (agree [] tt refl)
choices_agree f g (argument ∷ rest) typed agree =
    values_agree f g (choices rest)
    (λ v here. sym (map_after f (λ vs. v ∷ vs) (λ vs. f (v ∷ vs)) (λ vs. refl) (choices rest))
    ∙ choices_agree (λ vs. f (v ∷ vs)) (λ vs. g (v ∷ vs)) rest typed.1 (λ vs every many. agree (v ∷ vs) (ap kind.Value here, every) (ap suc many))
    ∙ map_after g (λ vs. v ∷ vs) (λ vs. g (v ∷ vs)) (λ vs. refl) (choices rest))
    (values_of argument) typed.0

and_of_many : (arguments : List ValueOrBag) (vs : List Value) → Every (kind.Value data_type.Boolean) (map kind_of vs) → length vs ≡ length arguments
    → logical logic.And vs ≡ Ok (nat_le (length arguments) (trues vs))
and_of_many arguments vs every many = and_counted (booleans vs) ∙ ap (λ n. Ok (nat_le n (trues vs))) (length_given vs every ∙ many)

pub and_by_most : (arguments : List ValueOrBag) (most : ℕ) → Some most ≡ most_true arguments → EachOfItsType arguments
    → Every (kind.Value data_type.Boolean) (map kind_of_each arguments) → of_some_choice logic.And arguments ≡ Ok (nat_le (length arguments) most)
and_by_most arguments most is typed every =
    ap or_of (choices_agree (logical logic.And) (λ vs. Ok (nat_le (length arguments) (trues vs))) arguments (all_boolean arguments typed every) (and_of_many arguments))
    ∙ by_most (λ n. Ok (nat_le (length arguments) n)) (rises_from (length arguments)) arguments
    ∙ ap (at_most (λ n. Ok (nat_le (length arguments) n))) (sym is)

-- where there is no most, there is no choice
no_more : (most : Option ℕ) (b : Bool) → with_argument b most ≡ None → most ≡ None
no_more None b none = refl
no_more (Some n) b none = cc

nothing_each : (ws : List Value) → flat_map (λ v. map (λ vs. v ∷ vs) []) ws ≡ []
nothing_each [] = refl
nothing_each (w ∷ ws) = nothing_each ws

no_choice : (arguments : List ValueOrBag) → most_true arguments ≡ None → choices arguments ≡ []
no_choice [] none = cc
no_choice (argument ∷ rest) none = by_case (no_choice rest) (values_of argument) none where
  by_case : (most_true rest ≡ None → choices rest ≡ []) → (ws : List Value) → with_values ws (most_true rest) ≡ None → flat_map (λ v. map (λ vs. v ∷ vs) (choices rest)) ws ≡ []
  by_case fewer [] e = refl
  by_case fewer (w ∷ ws) e =
      ap (λ cs. flat_map (λ v. map (λ vs. v ∷ vs) cs) (w ∷ ws)) (fewer (no_more (most_true rest) (list_any is_true (w ∷ ws)) e)) ∙ nothing_each ws

pub of_no_choice : (function : Logic) (arguments : List ValueOrBag) → None ≡ most_true arguments → of_some_choice function arguments ≡ Ok false
of_no_choice function arguments none = ap (λ cs. or_of (map (logical function) cs)) (no_choice arguments (sym none))

-- n-of: at least as many as its number, where that is none too great
n_among_counted : (k : ℕ) (bs : List Bool) (many : ℕ) → length (given bs) ≡ many
    → n_among Position k (given bs) ≡ cond (nat_lt many k) (Err Position) (Ok (nat_le k (true_count bs)))
n_among_counted k bs many is = by_case (nat_lt many k) refl where
  by_case : (b : Bool) → nat_lt many k ≡ b → n_among Position k (given bs) ≡ cond b (Err Position) (Ok (nat_le k (true_count bs)))
  by_case true e = let short : length (given bs) < k = grind (arith, nat_tests) in n_among_short Position k (given bs) short
  by_case false e = let enough : k ≤ length (given bs) = grind (arith, nat_tests) in n_among_given k bs enough

n_of_given : (z : ℤ) (bs : List Bool) (many : ℕ) → length (given bs) ≡ many → n_of Position z (given bs) ≡ n_of_counted (true_count bs) many z
n_of_given z bs many is = by_case (int_lt z (pos 0)) where
  by_case : (b : Bool) → cond b (Err Position) (n_among Position (unsigned_abs z) (given bs))
      ≡ cond b (Err Position) (cond (nat_lt many (unsigned_abs z)) (Err Position) (Ok (nat_le (unsigned_abs z) (true_count bs))))
  by_case true = refl
  by_case false = n_among_counted (unsigned_abs z) bs many is

n_of_first : (v : Value) (vs : List Value) (many : ℕ) → length (given (booleans vs)) ≡ many → logical logic.NOf (v ∷ vs) ≡ n_of_value (trues vs) many v
n_of_first (value.Integer z) vs many is = n_of_given z (booleans vs) many is
n_of_first (value.Boolean x) vs many is = refl
n_of_first (value.String x) vs many is = refl
n_of_first (value.Date x) vs many is = refl
n_of_first (value.Time x) vs many is = refl
n_of_first (value.DateTime x) vs many is = refl
n_of_first (value.DayTimeDuration x) vs many is = refl
n_of_first (value.YearMonthDuration x) vs many is = refl
n_of_first (value.AnyUri x) vs many is = refl
n_of_first (value.HexBinary x) vs many is = refl
n_of_first (value.Base64Binary x) vs many is = refl

n_of_counted_rises : (many : ℕ) (z : ℤ) → Rises (λ n. n_of_counted n many z)
n_of_counted_rises many z = by_case (int_lt z (pos 0)) (nat_lt many (unsigned_abs z)) where
  by_case : (a b : Bool) → Rises (λ n. cond a (Err Position) (cond b (Err Position) (Ok (nat_le (unsigned_abs z) n))))
  by_case true b = record { up = λ n. refl; down = λ n. refl }
  by_case false true = record { up = λ n. refl; down = λ n. refl }
  by_case false false = rises_from (unsigned_abs z)

n_of_rises : (many : ℕ) (v : Value) → Rises (λ n. n_of_value n many v)
n_of_rises many (value.Integer z) = n_of_counted_rises many z
n_of_rises many (value.Boolean x) = record { up = λ n. refl; down = λ n. refl }
n_of_rises many (value.String x) = record { up = λ n. refl; down = λ n. refl }
n_of_rises many (value.Date x) = record { up = λ n. refl; down = λ n. refl }
n_of_rises many (value.Time x) = record { up = λ n. refl; down = λ n. refl }
n_of_rises many (value.DateTime x) = record { up = λ n. refl; down = λ n. refl }
n_of_rises many (value.DayTimeDuration x) = record { up = λ n. refl; down = λ n. refl }
n_of_rises many (value.YearMonthDuration x) = record { up = λ n. refl; down = λ n. refl }
n_of_rises many (value.AnyUri x) = record { up = λ n. refl; down = λ n. refl }
n_of_rises many (value.HexBinary x) = record { up = λ n. refl; down = λ n. refl }
n_of_rises many (value.Base64Binary x) = record { up = λ n. refl; down = λ n. refl }

-- the choices that begin with a number
n_of_number : (v : Value) (rest : List ValueOrBag) (most : ℕ) → Some most ≡ most_true rest → AllBoolean rest
    → or_of (map (logical logic.NOf) (map (λ vs. v ∷ vs) (choices rest))) ≡ n_of_value most (length rest) v
n_of_number v rest most is typed =
    ap or_of (sym (map_after (logical logic.NOf) (λ vs. v ∷ vs) (λ vs. logical logic.NOf (v ∷ vs)) (λ vs. refl) (choices rest))
    ∙ choices_agree (λ vs. logical logic.NOf (v ∷ vs)) (λ vs. n_of_value (trues vs) (length rest) v) rest typed
    (λ vs every many. n_of_first v vs (length rest) (length_given vs every ∙ many)))
    ∙ by_most (λ n. n_of_value n (length rest) v) (n_of_rises (length rest) v) rest
    ∙ ap (at_most (λ n. n_of_value n (length rest) v)) (sym is)

n_of_numbers : (rest : List ValueOrBag) (most : ℕ) → Some most ≡ most_true rest → AllBoolean rest → (ws : List Value)
    → or_of (map (logical logic.NOf) (flat_map (λ v. map (λ vs. v ∷ vs) (choices rest)) ws)) ≡ or_of (map (n_of_value most (length rest)) ws)
n_of_numbers rest most is typed [] = refl
n_of_numbers rest most is typed (v ∷ ws) =
    let here = map (λ vs. v ∷ vs) (choices rest) in
    let next = flat_map (λ w. map (λ vs. w ∷ vs) (choices rest)) ws in
    ap or_of (map-append (logical logic.NOf) here next)
    ∙ verdict_append true (map (logical logic.NOf) here) (map (logical logic.NOf) next)
    ∙ ap (λ r. then_verdict true r (or_of (map (logical logic.NOf) next))) (n_of_number v rest most is typed)
    ∙ ap (then_verdict true (n_of_value most (length rest) v)) (n_of_numbers rest most is typed ws)
    ∙ sym (verdict_cons true (n_of_value most (length rest) v) (map (n_of_value most (length rest)) ws))

pub n_of_by_most : (arguments rest : List ValueOrBag) (numbers : ValueOrBag) (ws : List Value) (most : ℕ) (answer : Result Bool FuncFault)
    → arguments ≡ numbers ∷ rest → ws ≡ values_of numbers → Some most ≡ most_true rest → EachOfItsType rest
    → Fits (OneAndMore (kind.Value data_type.Integer) (kind.Value data_type.Boolean)) (map kind_of_each arguments)
    → answer ≡ or_of (map (n_of_value most (length rest)) ws) → of_some_choice logic.NOf arguments ≡ answer
n_of_by_most arguments rest numbers ws most answer whole values is typed fits found =
    let P : List ValueOrBag → Type 0 = λ us. Fits (OneAndMore (kind.Value data_type.Integer) (kind.Value data_type.Boolean)) (map kind_of_each us) in
    ap (of_some_choice logic.NOf) whole
    ∙ n_of_numbers rest most is (all_boolean rest typed (subst P whole fits).1) (values_of numbers)
    ∙ ap (λ us. or_of (map (n_of_value most (length rest)) us)) (sym values)
    ∙ sym found

pub n_of_no_choice : (arguments rest : List ValueOrBag) (numbers : ValueOrBag) → arguments ≡ numbers ∷ rest → None ≡ most_true rest
    → of_some_choice logic.NOf arguments ≡ Ok false
n_of_no_choice arguments rest numbers whole none =
    ap (of_some_choice logic.NOf) whole
    ∙ ap (λ cs. or_of (map (logical logic.NOf) (flat_map (λ v. map (λ vs. v ∷ vs) cs) (values_of numbers)))) (no_choice rest (sym none))
    ∙ ap (λ cs. or_of (map (logical logic.NOf) cs)) (nothing_each (values_of numbers))

-- any-of, whose faults are those of its inner function
holds_logical : (function : Logic) (vs : List Value) → holds (applied (function_id.Logic function)) vs ≡ outcome (logical function vs)
holds_logical function vs = by_case (logical function vs) where
  by_case : (r : Result Bool FuncFault) → truth (outcome (as_value value.Boolean r)) ≡ outcome r
  by_case (Ok b) = refl
  by_case (Err e) = refl

or_outcome : (rs : List (Result Bool FuncFault)) → or_of (map outcome rs) ≡ outcome (or_of rs)
or_outcome [] = refl
or_outcome (Ok true ∷ rs) = refl
or_outcome (Ok false ∷ rs) = or_outcome rs
or_outcome (Err e ∷ rs) = refl

any_of_logical : (function : Logic) (arguments : List ValueOrBag) → any_of (applied (function_id.Logic function)) arguments ≡ outcome (of_some_choice function arguments)
any_of_logical function arguments =
    ap or_of (map_after outcome (logical function) (holds (applied (function_id.Logic function))) (holds_logical function) (choices arguments))
    ∙ or_outcome (map (logical function) (choices arguments))

pub any_of_found : (function : Logic) (arguments : List ValueOrBag) (answer : Result Bool FuncFault) → of_some_choice function arguments ≡ answer
    → any_of (applied (function_id.Logic function)) arguments ≡ outcome answer
any_of_found function arguments answer is = any_of_logical function arguments ∙ ap outcome is
