use Rattle.std.proofs.Common.{rules, ap, ◌∙◌, cond, true, List, ℕ}
use Rattle.std.specs.Prelude.{bytes_eq}
use Rattle.std.specs.BTreeSet.{contains}
use Rattle.std.specs.Cmp.Lexicographic.{slice_cmp}
use Rattle.std.specs.Ordering.{nat_cmp}
use Rattle.std.proofs.lemmas.Map.Text.{is_eq-slice_cmp}
use Rattle.xa_notation.proofs.VariableLemmas.{taken_next}
use Rattle.xa_notation.proofs.variables.Definitions.push.Goals as goal

pub invariant_of-self-in-Ok : goal.invariant_of-self-in-Ok
invariant_of-self-in-Ok c =
    let after = λ (name : List ℕ). c.in-Ok.ensures.updates.0 name ∙ ap (λ b. cond b true (contains (slice_cmp nat_cmp) c.self.inside.names name)) (is_eq-slice_cmp c.in_ok-name.name name) in
    rw c.in_ok-push.ensures.items
    (λ name. taken_next c.self.inside.variables.items _ name (contains (slice_cmp nat_cmp) c.self.inside.names name) (contains (slice_cmp nat_cmp) c.insert.new.self name) (c.self.invariant name)
    (after name ∙ ap (λ k. cond (bytes_eq k name) true (contains (slice_cmp nat_cmp) c.self.inside.names name)) (search rules)))
