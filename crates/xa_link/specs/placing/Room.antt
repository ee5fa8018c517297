-- The steps of linking: a tree has to fit into the room that is left, which is a number of policies and policy sets.
use Rattle.std.specs.Prelude.{ℕ, zero, suc, ◌-◌, nat_lt, if◌then◌else◌, List, [], ◌∷◌, ◌++◌, Result, Ok, Err}
use Rattle.xa_value.specs.Gives.{◌>>=◌}
use Rattle.xa_policy.specs.declared.linked.Linked.{Linked}
use Rattle.xa_policy.specs.declared.linked.Linked.TheVariants.{Policy, PolicySet}
use Rattle.xa_policy.specs.Policy.{PolicyParts, SetParts}
use Rattle.xa_link.specs.declared.link_error.LinkError.{LinkError}
use Rattle.xa_link.specs.declared.link_error.LinkError.TheVariants.{TooLarge}
use Rattle.xa_link.specs.declared.room.Fitted.{Fitted}
use Rattle.xa_link.specs.Linking.{size}

-- a tree, and the room that it leaves
unfoldable pub fitted : ℕ → Linked → Result (Fitted Linked) LinkError
fitted room linked =
    if nat_lt room (size linked) then Err TooLarge else Ok (record { part = linked; room = room - size linked })

-- trees one after another, and the room that they leave
abbrev pub all_fitted : ℕ → List Linked → Result (Fitted (List Linked)) LinkError
all_fitted room [] = Ok (record { part = []; room = room })
all_fitted room (first ∷ rest) =
    fitted room first >>= (λ one.
    all_fitted one.room rest >>= (λ others. Ok (record { part = one.part ∷ others.part; room = others.room })))

-- the room that one policy, or one policy set without its children, leaves
abbrev pub less_one : ℕ → Result ℕ LinkError
less_one zero = Err TooLarge
less_one (suc room) = Ok room

-- a policy, and the room that it leaves
unfoldable pub policy_fitted : ℕ → PolicyParts → Result (Fitted Linked) LinkError
policy_fitted room policy = do
  left ← less_one room
  Ok (record { part = Policy policy; room = left })

-- a policy set with its children, and the room that it leaves
unfoldable pub set_fitted : ℕ → SetParts → List Linked → Result (Fitted Linked) LinkError
set_fitted room set children = do
  left ← less_one room
  fitting ← all_fitted left children
  Ok (record { part = PolicySet set fitting.part; room = fitting.room })

-- trees after those that are there, and the room that they leave
abbrev pub fitted_behind : List Linked → Result (Fitted (List Linked)) LinkError
    → Result (Fitted (List Linked)) LinkError
fitted_behind before (Ok others) = Ok (record { part = before ++ others.part; room = others.room })
fitted_behind before (Err e) = Err e
