use Rattle.std.proofs.Common.{◌+◌, ℕ, List, Bool, true, map, drop, cond, refl, ap, sym, ◌∙◌}
use Rattle.std.specs.BTreeSet.{contains_by}
use Rattle.std.specs.Cmp.Lexicographic.{slice_cmp}
use Rattle.std.specs.Ordering.{nat_cmp}
use Rattle.std.proofs.lemmas.Map.Text.{is_eq-slice_cmp}
use Rattle.xa_profile.proofs.ListLemmas.{walked_at}
use Rattle.xa_profile.proofs.RepetitionLemmas.{is_repeated, repeated_first, repeated_later, was_new}
use Rattle.xa_profile.proofs.repetition.has_twice.Goals as goal

pub loop-text-init : goal.loop-text-init
loop-text-init c = repeated_first _ (map (λ text. text.now) c.args.texts.now) (λ q. rw c.new-seen.ensures.empty refl)

pub loop-text-preserved : goal.loop-text-preserved
loop-text-preserved c =
    let i = c.loop-text.text-index in
    let before : List ℕ → Bool = λ q. contains_by (λ k. slice_cmp nat_cmp q k.now) c.loop-text.seen in
    let rest = map (λ text. text.now) (drop (i + 1) c.args.texts.now) in
    let new = was_new _ _ c.in_ok-insert.ensures.added c.if-not-branch.false in
    repeated_later before _ _ rest
    (λ q. c.in_ok-insert.ensures.updates.0 (record { ref_ptr = (0, 0); now = q }) ∙ ap (λ b. cond b true (before q)) (is_eq-slice_cmp _ q)) new
    ∙ ap (λ ts. is_repeated before (map (λ text. text.now) ts)) (sym (walked_at c.args.texts.now i _ c.loop-text-test.true))
    ∙ c.loop-text.invariant
