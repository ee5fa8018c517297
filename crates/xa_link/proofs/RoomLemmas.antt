-- The room that trees need, and the room that they leave.
use Rattle.std.proofs.Common.{◌≡◌, ℕ, zero, suc, ◌+◌, ◌-◌, ◌<◌, ◌≤◌, Bool, true, false, ◌⊎◌, inl, inr, List, [], ◌∷◌, ◌++◌, map, drop, refl, sym, ap, ◌∙◌, append_assoc, arith}
use Rattle.std.specs.Prelude.{nat_lt, if◌then◌else◌, sum, Result, Ok, Err}
use Rattle.std.proofs.lemmas.Bool.{cases_lt, le-ltb}
use Rattle.std.proofs.lemmas.List.Sums.{sum_by-cons}
use borrow.Author.Tests.{lt-ltb}
use Rattle.xa_value.specs.declared.or_memory.OrMemory.{OrMemory}
use Rattle.xa_value.specs.declared.or_memory.OrMemory.TheVariants.{Memory, Error}
use Rattle.xa_value.specs.Gives.{Gives, ◌>>=◌}
use Rattle.xa_policy.specs.declared.linked.Linked.{Linked}
use Rattle.xa_policy.specs.declared.linked.Linked.TheFolds.{fold-roll-Linked}
use Rattle.xa_policy.specs.declared.linked.Linked.TheOpen.{Linked-F}
use Rattle.xa_policy.specs.declared.linked.Linked.TheVariants.{Unresolved, Policy, PolicySet, rolls-Unresolved, rolls-Policy, rolls-PolicySet}
use Rattle.xa_policy.specs.declared.reference.Reference.{Reference}
use Rattle.xa_policy.specs.Policy.{PolicyParts, SetParts}
use Rattle.xa_link.specs.declared.active.Active.{Active}
use Rattle.xa_link.specs.declared.link_error.LinkError.{LinkError}
use Rattle.xa_link.specs.declared.link_error.LinkError.TheVariants.{TooLarge}
use Rattle.xa_link.specs.declared.room.Fitted.{Fitted}
use Rattle.xa_link.specs.Linking.{size, size_step, tree, link}
use Rattle.xa_link.specs.placing.Room.{all_fitted, fitted, fitted_behind, policy_fitted, set_fitted}

-- what needs so much room, and the room that it leaves
abbrev pub with_room : {X : Type 0} → ℕ → ℕ → X → Result (Fitted X) LinkError
with_room room need x = if nat_lt room need then Err TooLarge else Ok (record { part = x; room = room - need })

too_little : {X : Type 0} (room need : ℕ) (x : X) → room < need → with_room room need x ≡ Err TooLarge
too_little room need x short = rw (lt-ltb room need short) refl

enough : {X : Type 0} (room need : ℕ) (x : X) → need ≤ room → with_room room need x ≡ Ok (record { part = x; room = room - need })
enough room need x there = rw (le-ltb room need there) refl

-- enough, where so much is known to be left
enough_for : {X : Type 0} (room need left : ℕ) (x : X) → need ≤ room → room - need ≡ left → with_room room need x ≡ Ok (record { part = x; room = left })
enough_for room need left x there is = enough room need x there ∙ ap (λ n. Ok (record { part = x; room = n })) is

-- a second part beside a first
abbrev pub beside : {X Y Z : Type 0} → (X → Y → Z) → X → Result (Fitted Y) LinkError → Result (Fitted Z) LinkError
beside f x second = second >>= (λ s. Ok (record { part = f x s.part; room = s.room }))

-- two parts need together what both need
with_both : {X Y Z : Type 0} (f : X → Y → Z) (room a b : ℕ) (x : X) (y : Y) (second : ℕ → Result (Fitted Y) LinkError) → ((left : ℕ) → second left ≡ with_room left b y)
    → (with_room room a x >>= (λ one. beside f one.part (second one.room))) ≡ with_room room (a + b) (f x y)
with_both f room a b x y second is = by_first (cases_lt room a)
  where
    by_second : a ≤ room → ((room - a) < b) ⊎ (b ≤ (room - a)) → (with_room room a x >>= (λ one. beside f one.part (second one.room))) ≡ with_room room (a + b) (f x y)
    by_second there (inl short) =
        ap (λ first. first >>= (λ one. beside f one.part (second one.room))) (enough room a x there)
        ∙ ap (beside f x) (is (room - a) ∙ too_little (room - a) b y short)
        ∙ sym (too_little room (a + b) (f x y) (omega (arith, there, short)))
    by_second there (inr also) =
        ap (λ first. first >>= (λ one. beside f one.part (second one.room))) (enough room a x there)
        ∙ ap (beside f x) (is (room - a) ∙ enough (room - a) b y also)
        ∙ sym (enough_for room (a + b) ((room - a) - b) (f x y) (omega (arith, there, also)) (omega (arith, there, also)))

    by_first : (room < a) ⊎ (a ≤ room) → (with_room room a x >>= (λ one. beside f one.part (second one.room))) ≡ with_room room (a + b) (f x y)
    by_first (inl short) =
        ap (λ first. first >>= (λ one. beside f one.part (second one.room))) (too_little room a x short)
        ∙ sym (too_little room (a + b) (f x y) (omega (arith, short)))
    by_first (inr there) = by_second there (cases_lt (room - a) b)

-- a tree that needs so much room
fitted_is : (room need : ℕ) (linked : Linked) → size linked ≡ need → fitted room linked ≡ with_room room need linked
unfolding fitted
fitted_is room need linked is = ap (λ n. with_room room n linked) is

size_of_unresolved : size Unresolved ≡ 0
size_of_unresolved = ap size (sym rolls-Unresolved) ∙ fold-roll-Linked ℕ size_step Linked-F.Unresolved

size_of_policy : (policy : PolicyParts) → size (Policy policy) ≡ 1
size_of_policy policy = ap size (sym (rolls-Policy policy)) ∙ fold-roll-Linked ℕ size_step (Linked-F.Policy policy)

size_of_set : (set : SetParts) (trees : List Linked) → size (PolicySet set trees) ≡ 1 + sum (map size trees)
size_of_set set trees = ap size (sym (rolls-PolicySet set trees)) ∙ fold-roll-Linked ℕ size_step (Linked-F.PolicySet set trees)

-- trees need together what each of them needs
all_fitted_is : (room : ℕ) (trees : List Linked) → all_fitted room trees ≡ with_room room (sum (map size trees)) trees
unfolding fitted
all_fitted_is room [] = sym (enough_for room 0 room [] (omega arith) (omega arith))
all_fitted_is room (first ∷ rest) =
    with_both (λ t ts. t ∷ ts) room (size first) (sum (map size rest)) first rest (λ left. all_fitted left rest) (λ left. all_fitted_is left rest)
    ∙ ap (λ need. with_room room need (first ∷ rest)) (sym (sum_by-cons (λ n. n) (size first) (map size rest)))

-- a reference that leads to nothing needs no room
pub unresolved_fits : (room : ℕ) → fitted room Unresolved ≡ Ok (record { part = Unresolved; room = room })
unresolved_fits room = fitted_is room 0 Unresolved size_of_unresolved ∙ enough_for room 0 room Unresolved (omega arith) (omega arith)

-- a policy needs room for one
pub policy_fits : (room : ℕ) (policy : PolicyParts) → policy_fitted room policy ≡ fitted room (Policy policy)
unfolding policy_fitted
policy_fits zero policy = sym (fitted_is 0 1 (Policy policy) (size_of_policy policy) ∙ too_little 0 1 (Policy policy) (omega arith))
policy_fits (suc room) policy = sym (fitted_is (suc room) 1 (Policy policy) (size_of_policy policy) ∙ enough_for (suc room) 1 room (Policy policy) (omega arith) (omega arith))

-- a policy set needs one more than its children
pub set_fits : (room : ℕ) (set : SetParts) (trees : List Linked) → set_fitted room set trees ≡ fitted room (PolicySet set trees)
unfolding set_fitted
set_fits zero set trees =
    sym (fitted_is 0 (1 + sum (map size trees)) (PolicySet set trees) (size_of_set set trees) ∙ too_little 0 (1 + sum (map size trees)) (PolicySet set trees) (omega arith))
set_fits (suc room) set trees =
    ap (λ first. first >>= (λ one. beside (λ s ts. PolicySet s ts) one.part (all_fitted one.room trees))) (sym (enough_for (suc room) 1 room set (omega arith) (omega arith)))
    ∙ with_both (λ s ts. PolicySet s ts) (suc room) 1 (sum (map size trees)) set trees (λ left. all_fitted left trees) (λ left. all_fitted_is left trees)
    ∙ sym (fitted_is (suc room) (1 + sum (map size trees)) (PolicySet set trees) (size_of_set set trees))

-- one more part is there
pub part_behind : (before : List Linked) (one : Fitted Linked) (rest : Result (Fitted (List Linked)) LinkError)
    → fitted_behind before (rest >>= (λ others. Ok (record { part = one.part ∷ others.part; room = others.room }))) ≡ fitted_behind (before ++ one.part ∷ []) rest
part_behind before one (Ok others) = ap (λ parts. Ok (record { part = parts; room = others.room })) (sym (append_assoc before (one.part ∷ []) others.part))
part_behind before one (Err e) = refl

-- the whole tree has room for 1,000
part_of : (b : Bool) (linked : Linked) (left : ℕ) → (if b then Err TooLarge else Ok linked) ≡ ((if b then Err TooLarge else Ok (record { part = linked; room = left })) >>= (λ (f : Fitted Linked). Ok f.part))
part_of true linked left = refl
part_of false linked left = refl

pub link_is : (active : List Active) (reference : Reference) → link active reference ≡ (fitted 1_000 (tree active reference) >>= (λ f. Ok f.part))
unfolding fitted link
link_is active reference = part_of (nat_lt 1_000 (size (tree active reference))) (tree active reference) (1_000 - size (tree active reference))

-- at one more part: where it has no room, and where it has
module _ {X : Type 0} (before : List Linked) (room whole i : ℕ) (child : X → Linked) (xs : List X) (x : X) (next : drop i xs ≡ x ∷ drop (i + 1) xs)
    (so_far : fitted_behind before (all_fitted room (map child (drop i xs))) ≡ all_fitted whole (map child xs)) where
  abbrev after_one : Result (Fitted Linked) LinkError → Result (Fitted (List Linked)) LinkError
  after_one first =
      fitted_behind before (first >>= (λ one. all_fitted one.room (map child (drop (i + 1) xs)) >>= (λ others. Ok (record { part = one.part ∷ others.part; room = others.room }))))

  from_one : after_one (fitted room (child x)) ≡ all_fitted whole (map child xs)
  from_one = sym (ap (λ ys. fitted_behind before (all_fitted room (map child ys))) next) ∙ so_far

  pub no_room_behind : (error : OrMemory LinkError) → Gives (Err error) (fitted room (child x)) → Gives (Err error) (all_fitted whole (map child xs))
  no_room_behind Memory given = tt
  no_room_behind (Error e) given = sym from_one ∙ ap after_one given

  pub room_behind : (one : Fitted Linked) → fitted room (child x) ≡ Ok one → fitted_behind (before ++ one.part ∷ []) (all_fitted one.room (map child (drop (i + 1) xs))) ≡ all_fitted whole (map child xs)
  room_behind one given = sym (part_behind before one (all_fitted one.room (map child (drop (i + 1) xs)))) ∙ sym (ap after_one given) ∙ from_one
