-- What steps come to, one after another: those done, and then the rest.
use Rattle.std.proofs.Common.{List, [], ◌∷◌, ◌++◌, ◌≡◌, refl, ap, sym, append_assoc}
use Rattle.std.specs.Prelude.{Result, Ok, Err}
use Rattle.xa_bag.specs.HigherOrder.{with_first}
use Rattle.xa_notation.specs.parsing.Json.{behind}

-- one more is done
pub behind_next : {X E : Type 0} (done : List X) (x : X) (rest : Result (List X) E) → behind done (with_first x rest) ≡ behind (done ++ x ∷ []) rest
behind_next done x (Ok xs) = ap Ok (sym (append_assoc done (x ∷ []) xs))
behind_next done x (Err e) = refl
