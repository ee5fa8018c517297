-- Texts that begin with another.
use Rattle.std.proofs.Common.{◌≡◌, ℕ, suc, ◌+◌, ◌<◌, get_or, add-one, drop-cons, Bool, true, false, nat_eq, List, [], ◌∷◌, ◌++◌, length, take, drop, refl, sym, ◌∙◌}
use Rattle.std.proofs.lemmas.Bool.{and_parts}
use Rattle.std.specs.Prelude.{bytes_eq, find, flat_map, ◌&&◌, Option, Some, None}
use Rattle.std.specs.Option.{option_or}
use Rattle.std.proofs.lemmas.List.Folds.{find-append}
use lib.Pointwise.{pointwise}

-- a text that begins with the head is the head and then the rest where what follows is the rest
pub stripped : (text head rest : List ℕ) → pointwise nat_eq (take (length head) text) head ≡ true → bytes_eq (drop (length head) text) rest ≡ bytes_eq text (head ++ rest)
stripped text [] rest e = refl
stripped [] (c ∷ head) rest e = cc
stripped (d ∷ text) (c ∷ head) rest e =
    let both = and_parts (nat_eq d c) (pointwise nat_eq (take (length head) text) head) e in
    rw (both.0) (stripped text head rest both.1)

-- the same first character leaves the rest to tell
first_same : (a b : Bool) → a ≡ true → (a && b) ≡ b
first_same a b e = rw e

first_other : (a b : Bool) → a ≡ false → (a && b) ≡ false
first_other a b e = rw e

-- a text is not what begins otherwise, or goes on otherwise
by_first : (first goes_on rest : Bool) → (goes_on ≡ false → rest ≡ false) → (v : Bool) → first ≡ v → (first && goes_on) ≡ false → (first && rest) ≡ false
by_first first goes_on rest h true same e = first_same first rest same ∙ h (sym (first_same first goes_on same) ∙ e)
by_first first goes_on rest h false other e = first_other first rest other

-- and a text that does not is not
pub unstripped : (text head rest : List ℕ) → pointwise nat_eq (take (length head) text) head ≡ false → bytes_eq text (head ++ rest) ≡ false
unstripped text [] rest e = cc
unstripped [] (c ∷ head) rest e = refl
unstripped (d ∷ text) (c ∷ head) rest e =
    by_first (nat_eq d c) (pointwise nat_eq (take (length head) text) head) (bytes_eq text (head ++ rest)) (unstripped text head rest) (nat_eq d c) refl e

-- from an item on, the first is that of the item's list, or else of the lists after it
from_item : {X Y : Type 0} (p : Y → Bool) (g : X → List Y) (xs : List X) (i : ℕ) (d : X) → i < length xs
    → find p (flat_map g (drop i xs)) ≡ option_or (find p (g (get_or xs i d))) (find p (flat_map g (drop (i + 1) xs)))
from_item p g xs i d within = rw (add-one, drop-cons xs i d) (find-append p (g (get_or xs i d)) (flat_map g (drop (suc i) xs)))

some_or : {Y : Type 0} (a b : Option Y) (y : Y) → a ≡ Some y → option_or a b ≡ Some y
some_or None b y e = cc
some_or (Some x) b y e = e

none_or : {Y : Type 0} (a b : Option Y) → a ≡ None → option_or a b ≡ b
none_or None b e = refl
none_or (Some x) b e = cc

-- the lists of some items, where the first that passes is of an item that was reached
pub found_here : {X Y : Type 0} (p : Y → Bool) (g : X → List Y) (xs : List X) (i : ℕ) (d : X) (y : Y) → i < length xs
    → Some y ≡ find p (g (get_or xs i d)) → find p (flat_map g (drop i xs)) ≡ find p (flat_map g xs) → Some y ≡ find p (flat_map g xs)
found_here p g xs i d y within here same = sym (some_or _ _ y (sym here)) ∙ sym (from_item p g xs i d within) ∙ same

-- and where no item of it passes
pub not_here : {X Y : Type 0} (p : Y → Bool) (g : X → List Y) (xs : List X) (i : ℕ) (d : X) → i < length xs
    → find p (g (get_or xs i d)) ≡ None → find p (flat_map g (drop i xs)) ≡ find p (flat_map g xs) → find p (flat_map g (drop (i + 1) xs)) ≡ find p (flat_map g xs)
not_here p g xs i d within none same = sym (none_or _ _ none) ∙ sym (from_item p g xs i d within) ∙ same
