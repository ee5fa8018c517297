-- Results joined one after another are the results of the whole list joined.
use Rattle.std.proofs.Common.{◌≡◌, refl, ap, sym, ◌∙◌, subst, Bool, true, false, not, if◌then◌else◌, List, [], ◌∷◌, ◌++◌, map, append-nil, append_assoc}
use Rattle.std.specs.Prelude.{Result, Ok, Err, flat_map, IsErrAnd}
use mathlib.Core.Bool.{beq}
use Rattle.xa_value.specs.declared.data_type.DataType.{DataType}
use Rattle.xa_value.specs.declared.or_memory.OrMemory.{OrMemory}
use Rattle.xa_value.specs.declared.or_memory.OrMemory.TheVariants.{Memory, Error}
use Rattle.xa_value.specs.declared.value.Value.{Value}
use Rattle.xa_value.specs.Gives.{Gives}
use Rattle.xa_func.specs.Logic.{or_of, and_of}
use Rattle.xa_bag.specs.declared.fault.BagFault.{BagFault}
use Rattle.xa_bag.specs.Bag.{Contents, bag_of}
use Rattle.xa_bag.specs.declared.value_or_bag.ValueOrBag.TheVariants as given
use Rattle.xa_bag.specs.HigherOrder.{choices, EachInItsPlace, holds, with_first, collected, as_bag}

-- or where the join stops at True, and where it stops at False
abbrev pub verdict : {F : Type 0} → Bool → List (Result Bool F) → Result Bool F
verdict stop rs = if stop then or_of rs else and_of rs

-- the boolean at which it stops
abbrev pub stops_at : Bool → Bool → Bool
stops_at true b = b
stops_at false b = not b

-- of each value with the values of another list
abbrev pub each_with : {F : Type 0} → Bool → (List Value → Result Value F) → List Value → List Value → Result Bool (BagFault F)
each_with stop f vs ws = verdict false (map (λ v. verdict stop (map (λ w. holds f (v ∷ w ∷ [])) ws)) vs)

-- the first verdict, or the second where the first does not decide
abbrev pub then_verdict : {F : Type 0} → Bool → Result Bool F → Result Bool F → Result Bool F
then_verdict stop (Ok b) next = if stops_at stop b then Ok b else next
then_verdict stop (Err e) next = Err e

pub verdict_cons : {F : Type 0} (stop : Bool) (r : Result Bool F) (rs : List (Result Bool F)) → verdict stop (r ∷ rs) ≡ then_verdict stop r (verdict stop rs)
verdict_cons true (Ok true) rs = refl
verdict_cons true (Ok false) rs = refl
verdict_cons false (Ok true) rs = refl
verdict_cons false (Ok false) rs = refl
verdict_cons true (Err e) rs = refl
verdict_cons false (Err e) rs = refl

pub verdict_one : {F : Type 0} (stop : Bool) (r : Result Bool F) → verdict stop (r ∷ []) ≡ r
verdict_one true (Ok true) = refl
verdict_one true (Ok false) = refl
verdict_one false (Ok true) = refl
verdict_one false (Ok false) = refl
verdict_one true (Err e) = refl
verdict_one false (Err e) = refl

then_again : {F : Type 0} (stop : Bool) (r s t : Result Bool F) → then_verdict stop r (then_verdict stop s t) ≡ then_verdict stop (then_verdict stop r s) t
then_again true (Ok true) s t = refl
then_again true (Ok false) s t = refl
then_again false (Ok true) s t = refl
then_again false (Ok false) s t = refl
then_again true (Err e) s t = refl
then_again false (Err e) s t = refl

then_last : {F : Type 0} (stop : Bool) (t : Result Bool F) → t ≡ then_verdict stop (verdict stop []) t
then_last true t = refl
then_last false t = refl

pub verdict_append : {F : Type 0} (stop : Bool) (rs ss : List (Result Bool F)) → verdict stop (rs ++ ss) ≡ then_verdict stop (verdict stop rs) (verdict stop ss)
verdict_append stop [] ss = then_last stop (verdict stop ss)
verdict_append stop (r ∷ rs) ss =
    verdict_cons stop r (rs ++ ss) ∙ ap (then_verdict stop r) (verdict_append stop rs ss)
    ∙ then_again stop r (verdict stop rs) (verdict stop ss) ∙ ap (λ v. then_verdict stop v (verdict stop ss)) (sym (verdict_cons stop r rs))

-- a fault of the first decides
pub fault_first : {X Y E : Type 0} (e : OrMemory E) (x : Result X E) (y : Result Y E)
    → ((d : E) → x ≡ Err d → y ≡ Err d) → Gives {X = X} (Err e) x → Gives {X = Y} (Err e) y
fault_first Memory x y through gives = tt
fault_first (Error d) x y through gives = through d gives

-- a fault that was passed on
pub passed_on : {Y E : Type 0} (e : OrMemory E) (r : Result Y (OrMemory E)) (y : Result Y E) → IsErrAnd r (λ d. d ≡ e) → Gives {X = Y} (Err e) y → Gives r y
passed_on {Y} {E} e (Err d) y same gives = let P : OrMemory E → Type 0 = λ f. Gives {X = Y} (Err f) y in subst P (sym same) gives
passed_on e (Ok x) y same gives = absurd same

-- a walk from one item on, with one result each
pub taken_one : {X F : Type 0} (stop : Bool) (h : X → Result Bool F) (vs ws : List X) (v : X) (whole : Result Bool F)
    → vs ≡ v ∷ ws → verdict stop (map h vs) ≡ whole → then_verdict stop (h v) (verdict stop (map h ws)) ≡ whole
taken_one stop h vs ws v whole taken so_far =
    sym (verdict_cons stop (h v) (map h ws)) ∙ sym (ap (λ us. verdict stop (map h us)) taken) ∙ so_far

-- a fault here decides
pub fault_decides : {E : Type 0} (stop : Bool) (here next whole : Result Bool E) (r : Result Bool (OrMemory E)) (e : OrMemory E)
    → then_verdict stop here next ≡ whole → IsErrAnd r (λ d. d ≡ e) → Gives {X = Bool} (Err e) here → Gives r whole
fault_decides stop here next whole r e so_far same gives =
    passed_on e r whole same (fault_first e here whole (λ d at. sym so_far ∙ ap (λ x. then_verdict stop x next) at) gives)

then_stop : {F : Type 0} (stop answer : Bool) (next : Result Bool F) → beq answer stop ≡ true → then_verdict stop (Ok answer) next ≡ Ok stop
then_stop true true next same = refl
then_stop false false next same = refl
then_stop true false next same = cc
then_stop false true next same = cc

then_next : {F : Type 0} (stop answer : Bool) (next : Result Bool F) → beq answer stop ≡ false → then_verdict stop (Ok answer) next ≡ next
then_next true true next differ = cc
then_next false false next differ = cc
then_next true false next differ = refl
then_next false true next differ = refl

-- so does the boolean that stops
pub stop_decides : {F : Type 0} (stop answer : Bool) (here next whole : Result Bool F)
    → then_verdict stop here next ≡ whole → here ≡ Ok answer → beq answer stop ≡ true → whole ≡ Ok stop
stop_decides stop answer here next whole so_far at same = sym so_far ∙ ap (λ x. then_verdict stop x next) at ∙ then_stop stop answer next same

-- and after the other boolean the rest does
pub rest_decides : {F : Type 0} (stop answer : Bool) (here next whole : Result Bool F)
    → then_verdict stop here next ≡ whole → here ≡ Ok answer → beq answer stop ≡ false → next ≡ whole
rest_decides stop answer here next whole so_far at differ = sym (then_next stop answer next differ) ∙ sym (ap (λ x. then_verdict stop x next) at) ∙ so_far

-- so it is where the boolean that stops is sought under another name
pub sought_decides : {F : Type 0} (stop sought answer : Bool) (here next whole : Result Bool F)
    → sought ≡ stop → then_verdict stop here next ≡ whole → here ≡ Ok answer → beq answer sought ≡ true → whole ≡ Ok sought
sought_decides stop sought answer here next whole is so_far at same =
    stop_decides stop answer here next whole so_far at (ap (beq answer) (sym is) ∙ same) ∙ ap Ok (sym is)

pub unsought_passes : {F : Type 0} (stop sought answer : Bool) (here next whole : Result Bool F)
    → sought ≡ stop → then_verdict stop here next ≡ whole → here ≡ Ok answer → beq answer sought ≡ false → next ≡ whole
unsought_passes stop sought answer here next whole is so_far at differ =
    rest_decides stop answer here next whole so_far at (ap (beq answer) (sym is) ∙ differ)

-- and where nothing is left, the other boolean is the result
none_left : {F : Type 0} (stop sought : Bool) (rs : List (Result Bool F)) (whole : Result Bool F)
    → sought ≡ stop → rs ≡ [] → verdict stop rs ≡ whole → whole ≡ Ok (not sought)
none_left true sought rs whole is none so_far = sym so_far ∙ ap (verdict true) none ∙ ap (λ b. Ok (not b)) (sym is)
none_left false sought rs whole is none so_far = sym so_far ∙ ap (verdict false) none ∙ ap (λ b. Ok (not b)) (sym is)

-- of a walk with one result each
pub none_left_of_one : {X F : Type 0} (stop sought : Bool) (h : X → Result Bool F) (vs : List X) (whole : Result Bool F)
    → sought ≡ stop → vs ≡ [] → verdict stop (map h vs) ≡ whole → whole ≡ Ok (not sought)
none_left_of_one stop sought h vs whole is none so_far = none_left stop sought (map h vs) whole is (ap (map h) none) so_far

-- all of two lists, where both are given
abbrev pub appended : {X F : Type 0} → Result (List X) F → Result (List X) F → Result (List X) F
appended (Ok xs) (Ok ys) = Ok (xs ++ ys)
appended (Ok xs) (Err e) = Err e
appended (Err e) r = Err e

appended_first : {X F : Type 0} (r : Result (List X) F) → r ≡ appended (Ok []) r
appended_first (Ok xs) = refl
appended_first (Err e) = refl

appended_with : {X F : Type 0} (x : X) (r s : Result (List X) F) → with_first x (appended r s) ≡ appended (with_first x r) s
appended_with x (Ok xs) (Ok ys) = refl
appended_with x (Ok xs) (Err e) = refl
appended_with x (Err e) s = refl

collected_append : {X F : Type 0} (rs ss : List (Result X F)) → collected (rs ++ ss) ≡ appended (collected rs) (collected ss)
collected_append [] ss = appended_first (collected ss)
collected_append (Ok x ∷ rs) ss = ap (with_first x) (collected_append rs ss) ∙ appended_with x (collected rs) (collected ss)
collected_append (Err e ∷ rs) ss = refl

-- values alone are all given
collected_all : {X F : Type 0} (xs : List X) → collected {F = F} (map Ok xs) ≡ Ok xs
collected_all [] = refl
collected_all (x ∷ xs) = ap (with_first x) (collected_all xs)

-- after values, what the further results are
after_values : {X F : Type 0} (xs : List X) (rs : List (Result X F)) → collected (map Ok xs ++ rs) ≡ appended (Ok xs) (collected rs)
after_values xs rs = collected_append (map Ok xs) rs ∙ ap (λ r. appended r (collected rs)) (collected_all xs)

-- one more value, or a fault
collected_put : {F : Type 0} (vs : List Value) (v : Value) → collected {F = F} (map Ok vs ++ Ok v ∷ []) ≡ Ok (vs ++ v ∷ [])
collected_put vs v = after_values vs (Ok v ∷ [])

collected_fault : {F : Type 0} (vs : List Value) (e : F) → collected (map Ok vs ++ Err e ∷ []) ≡ Err e
collected_fault vs e = after_values vs (Err e ∷ [])

-- nothing more
collected_none : {F : Type 0} (vs : List Value) → collected {F = F} (map Ok vs ++ []) ≡ Ok vs
collected_none vs = ap collected (append-nil (map Ok vs)) ∙ collected_all vs

-- the bag has the type, and the values
pub as_bag_type : {F : Type 0} (t : DataType) (r : Result (List Value) F) (b : Contents) → as_bag t r ≡ Ok b → b.data_type ≡ t
as_bag_type t (Ok vs) b same = cc
as_bag_type t (Err e) b same = cc

as_bag_values : {F : Type 0} (t : DataType) (r : Result (List Value) F) (b : Contents) → as_bag t r ≡ Ok b → r ≡ Ok b.values
as_bag_values t (Ok vs) b same = let P : bag_of t vs ≡ b = cc in ap (λ c. Ok c.values) P
as_bag_values t (Err e) b same = cc

as_bag_fault : {F : Type 0} (t : DataType) (r : Result (List Value) F) (e : F) → as_bag t r ≡ Err e → r ≡ Err e
as_bag_fault t (Ok vs) e same = cc
as_bag_fault t (Err d) e same = cc

-- the results of a walk from one item on
pub added_one : {X F : Type 0} (xs : List Value) (h : X → Result Value F) (vs ws : List X) (v : X) (whole : Result (List Value) F)
    → vs ≡ v ∷ ws → collected (map Ok xs ++ map h vs) ≡ whole → collected ((map Ok xs ++ h v ∷ []) ++ map h ws) ≡ whole
added_one xs h vs ws v whole taken so_far =
    ap collected (append_assoc (map Ok xs) (h v ∷ []) (map h ws)) ∙ sym (ap (λ us. collected (map Ok xs ++ map h us)) taken) ∙ so_far

-- a fault here is the result
pub fault_ends : {E : Type 0} (t : DataType) (here next : List (Result Value E)) (whole : Result (List Value) E) (r : Result Contents (OrMemory E)) (e : OrMemory E)
    → collected (here ++ next) ≡ whole → IsErrAnd r (λ d. d ≡ e) → Gives {X = Contents} (Err e) (as_bag t (collected here)) → Gives r (as_bag t whole)
fault_ends {E} t here next whole r e so_far same gives =
    passed_on e r (as_bag t whole) same (fault_first e (as_bag t (collected here)) (as_bag t whole) through gives) where
      through : (d : E) → as_bag t (collected here) ≡ Err d → as_bag t whole ≡ Err d
      through d at =
          ap (as_bag t) (sym so_far ∙ collected_append here next ∙ ap (λ x. appended x (collected next)) (as_bag_fault t (collected here) d at))

-- with one result after the values, a fault is the result, and a value stands at the end
pub fault_added : {E : Type 0} (t : DataType) (vs : List Value) (found : Result Value E) (r : Result Contents (OrMemory E)) (e : OrMemory E)
    → IsErrAnd r (λ d. d ≡ e) → Gives {X = Value} (Err e) found → Gives r (as_bag t (collected (map Ok vs ++ found ∷ [])))
fault_added {E} t vs found r e same gives =
    passed_on e r (as_bag t (collected (map Ok vs ++ found ∷ []))) same (fault_first e found (as_bag t (collected (map Ok vs ++ found ∷ []))) through gives) where
      through : (d : E) → found ≡ Err d → as_bag t (collected (map Ok vs ++ found ∷ [])) ≡ Err d
      through d at = ap (λ x. as_bag t (collected (map Ok vs ++ x ∷ []))) at ∙ ap (as_bag t) (collected_fault vs d)

pub value_added : {E : Type 0} (b next : Contents) (v : Value) (found : Result Value E)
    → found ≡ Ok v → next ≡ bag_of b.data_type (b.values ++ v ∷ []) → as_bag b.data_type (collected (map Ok b.values ++ found ∷ [])) ≡ Ok next
value_added b next v found at put =
    ap (λ x. as_bag b.data_type (collected (map Ok b.values ++ x ∷ []))) at ∙ ap (as_bag b.data_type) (collected_put b.values v) ∙ ap Ok (sym put)

-- where nothing is left, the values are all
pub all_added : {X E : Type 0} (t : DataType) (b : Contents) (h : X → Result Value E) (vs : List X) (whole : Result (List Value) E)
    → (b.data_type ≡ t) → vs ≡ [] → collected (map Ok b.values ++ map h vs) ≡ whole → as_bag t whole ≡ Ok b
all_added t b h vs whole type none so_far =
    ap (as_bag t) (sym so_far ∙ ap (λ us. collected (map Ok b.values ++ map h us)) none ∙ collected_none b.values) ∙ ap (λ s. Ok (bag_of s b.values)) (sym type)

-- else the rest is still to be added
rest_added : {E : Type 0} (t : DataType) (b : Contents) (here next : List (Result Value E)) (whole : Result (List Value) E)
    → collected (here ++ next) ≡ whole → as_bag t (collected here) ≡ Ok b → collected (map Ok b.values ++ next) ≡ whole
rest_added t b here next whole so_far at =
    after_values b.values next ∙ sym (collected_append here next ∙ ap (λ x. appended x (collected next)) (as_bag_values t (collected here) b at)) ∙ so_far

-- under another name
pub rest_to_add : {X E : Type 0} (t : DataType) (b : Contents) (here : List (Result Value E)) (h : X → Result Value E) (vs ws : List X) (whole : Result (List Value) E)
    → vs ≡ ws → collected (here ++ map h vs) ≡ whole → as_bag t (collected here) ≡ Ok b → collected (map Ok b.values ++ map h ws) ≡ whole
rest_to_add t b here h vs ws whole same so_far at =
    sym (ap (λ us. collected (map Ok b.values ++ map h us)) same) ∙ rest_added t b here (map h vs) whole so_far at

pub map_agrees : {X Y : Type 0} (f g : X → Y) → ((x : X) → f x ≡ g x) → (xs : List X) → map f xs ≡ map g xs
map_agrees f g agree [] = refl
map_agrees f g agree (x ∷ xs) = rw (agree x, map_agrees f g agree xs) refl

pub map_after : {X Y Z : Type 0} (f : Y → Z) (g : X → Y) (h : X → Z) → ((x : X) → h x ≡ f (g x)) → (xs : List X) → map h xs ≡ map f (map g xs)
map_after f g h agree [] = refl
map_after f g h agree (x ∷ xs) = rw (agree x, map_after f g h agree xs) refl

-- values alone have one choice
one_choice : (vs : List Value) → choices (map given.Value vs) ≡ vs ∷ []
one_choice [] = refl
one_choice (v ∷ vs) = rw (one_choice vs) refl

one_each : {X : Type 0} (after : List X) (vs : List X) → flat_map (λ v. map (λ us. v ∷ us) (after ∷ [])) vs ≡ map (λ v. v ∷ after) vs
one_each after [] = refl
one_each after (v ∷ vs) = ap (λ us. (v ∷ after) ∷ us) (one_each after vs)

pub each_in_its_place : EachInItsPlace
each_in_its_place [] after b = rw (one_choice after) (one_each after b.values)
each_in_its_place (u ∷ before) after b =
    rw (each_in_its_place before after b) (append-nil _ ∙ sym (map_after (λ vs. u ∷ vs) (λ v. before ++ v ∷ after) (λ v. u ∷ before ++ v ∷ after) (λ v. refl) b.values))
