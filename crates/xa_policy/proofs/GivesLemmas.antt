-- What steps that may find no memory come to, one after another: the fault of the first, or all that was collected.
use Rattle.std.proofs.Common.{◌≡◌, ℕ, ◌+◌, ◌<◌, ◌≤◌, List, [], ◌∷◌, ◌++◌, map, drop, get_or, length}
use Rattle.std.proofs.lemmas.List.{drop_all}
use Rattle.std.specs.Prelude.{Result, Ok, Err, IsErrAnd}
use Rattle.xa_value.specs.declared.or_memory.OrMemory.{OrMemory}
use Rattle.xa_value.specs.Gives.{Gives, ◌>>=◌}
use Rattle.xa_bag.specs.HigherOrder.{collected}
use Rattle.xa_expr.proofs.ArgumentLemmas.{next_fault, next_there, no_more}
use Rattle.xa_bag.proofs.JoiningLemmas.{fault_first, passed_on}
use Rattle.xa_bag.proofs.SetLemmas.{walked}
use Rattle.xa_expr.proofs.CheckLemmas.{then_fault}

-- a fault of the first step is one of both
pub first_fault : {X Y E : Type 0} (e : OrMemory E) (answer : Result Y (OrMemory E)) (first : Result X E) (next : X → Result Y E)
    → IsErrAnd answer (λ d. d ≡ e) → Gives {X = X} (Err e) first → Gives answer (first >>= next)
first_fault {X} {Y} e answer first next same gives =
    passed_on e answer (first >>= next) same (fault_first {X = X} {Y = Y} e first (first >>= next) (λ d here. then_fault first d next here) gives)

-- the fault of an item is that of all
pub item_fault : {A X E : Type 0} (f : A → Result X E) (done : List X) (xs : List A) (i : ℕ) (x : A) (e : OrMemory E) (answer : Result (List X) (OrMemory E)) (whole : Result (List X) E)
    → IsErrAnd answer (λ d. d ≡ e) → Gives {X = X} (Err e) (f x) → x ≡ get_or xs i x → i < length xs
    → collected (map Ok done ++ map f (drop i xs)) ≡ whole → Gives answer whole
item_fault {A} {X} f done xs i x e answer whole same gives is below so_far =
    passed_on e answer whole same (fault_first {X = X} {Y = List X} e (f x) whole (next_fault f done (drop i xs) (drop (i + 1) xs) x whole (walked xs i x is below) so_far) gives)

-- an item that passed stands behind those done
pub item_done : {A X E : Type 0} (f : A → Result X E) (done : List X) (xs : List A) (i : ℕ) (x : A) (y : X) (whole : Result (List X) E)
    → f x ≡ Ok y → x ≡ get_or xs i x → i < length xs → collected (map Ok done ++ map f (drop i xs)) ≡ whole
    → collected (map Ok (done ++ y ∷ []) ++ map f (drop (i + 1) xs)) ≡ whole
item_done f done xs i x y whole here is below so_far = next_there f done y (drop i xs) (drop (i + 1) xs) x whole (walked xs i x is below) so_far here

-- at the end those done are all
pub all_done : {A X E : Type 0} (f : A → Result X E) (done : List X) (xs : List A) (i : ℕ) (whole : Result (List X) E)
    → length xs ≤ i → collected (map Ok done ++ map f (drop i xs)) ≡ whole → whole ≡ Ok done
all_done f done xs i whole end so_far = no_more f done (drop i xs) whole (drop_all i xs end) so_far
