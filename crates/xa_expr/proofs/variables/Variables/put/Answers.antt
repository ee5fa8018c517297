use Rattle.std.proofs.Common.{◌≡◌, rules, ap, ◌∙◌, cond, List, ℕ, length}
use Rattle.std.specs.Prelude.{Some, bytes_eq}
use Rattle.std.specs.BTreeMap.{get}
use Rattle.std.specs.Cmp.Lexicographic.{slice_cmp}
use Rattle.std.specs.Ordering.{nat_cmp}
use Rattle.std.proofs.lemmas.Map.Text.{is_eq-slice_cmp}
use Rattle.xa_expr.proofs.VariableLemmas.{typed_last, place_next}
use Rattle.xa_expr.proofs.variables.Variables.put.Goals as goal

pub invariant_of-self-in-Ok : goal.invariant_of-self-in-Ok
invariant_of-self-in-Ok c =
    let other = rw (← c.self.view_is) at c.requires.other in
    let typed = rw (← c.self.view_is) at c.requires.typed in
    let after = λ (name : List ℕ). c.in-Ok.ensures.updates.0 name ∙ ap (λ b. cond b (Some c.len-place.result) (get (slice_cmp nat_cmp) c.self.inside.places name)) (is_eq-slice_cmp c.in_ok-copy.copy name) in
    let at : c.len-place.result ≡ length c.self.inside.definitions.items = c.len-place.ensures ∙ c.self.inside.definitions.ok.0 in
    rw c.in_ok-push.ensures.items (
      typed_last c.self.inside.definitions.items _ c.self.invariant.0 typed,
      λ name. place_next c.self.inside.definitions.items _ name (get (slice_cmp nat_cmp) c.self.inside.places name) (get (slice_cmp nat_cmp) c.insert.new.self name) (c.self.invariant.1 name) other (after name ∙ ap (λ n. cond (bytes_eq c.in_ok-copy.copy name) (Some n) (get (slice_cmp nat_cmp) c.self.inside.places name)) at
          ∙ ap (λ k. cond (bytes_eq k name) (Some (length c.self.inside.definitions.items)) (get (slice_cmp nat_cmp) c.self.inside.places name)) (search rules)),
    )
