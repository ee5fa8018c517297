-- The children so far, taken together, stand for them in front of the rest.
use Rattle.std.proofs.Common.{◌≡◌, List, [], ◌∷◌, refl}
use Rattle.xa_expr.specs.declared.matching.Matching.{Matching}
use Rattle.xa_expr.specs.declared.matching.Matching.TheVariants.{Match, NoMatch, Indeterminate}
use Rattle.xa_expr.specs.Target.{all_match, some_match}

pub all_match_single : (m : Matching) → all_match (m ∷ []) ≡ m
all_match_single Match = refl
all_match_single NoMatch = refl
all_match_single (Indeterminate fault) = refl

pub all_match_joined : (a b : Matching) (ms : List Matching) → all_match (all_match (a ∷ b ∷ []) ∷ ms) ≡ all_match (a ∷ b ∷ ms)
all_match_joined Match Match ms = refl
all_match_joined Match NoMatch ms = refl
all_match_joined Match (Indeterminate fault) ms = refl
all_match_joined NoMatch b ms = refl
all_match_joined (Indeterminate fault) Match ms = refl
all_match_joined (Indeterminate fault) NoMatch ms = refl
all_match_joined (Indeterminate fault) (Indeterminate later) ms = refl

pub some_match_single : (m : Matching) → some_match (m ∷ []) ≡ m
some_match_single Match = refl
some_match_single NoMatch = refl
some_match_single (Indeterminate fault) = refl

pub some_match_joined : (a b : Matching) (ms : List Matching) → some_match (some_match (a ∷ b ∷ []) ∷ ms) ≡ some_match (a ∷ b ∷ ms)
some_match_joined Match b ms = refl
some_match_joined NoMatch Match ms = refl
some_match_joined NoMatch NoMatch ms = refl
some_match_joined NoMatch (Indeterminate fault) ms = refl
some_match_joined (Indeterminate fault) Match ms = refl
some_match_joined (Indeterminate fault) NoMatch ms = refl
some_match_joined (Indeterminate fault) (Indeterminate later) ms = refl
