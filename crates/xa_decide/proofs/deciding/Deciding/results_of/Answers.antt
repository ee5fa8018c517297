-- What is counted of the results so far is no more than they take, so where it is over the limit, the body is.
use Rattle.std.proofs.Common.{rules, ◌≡◌, ◌≤◌, ◌+◌, [], ◌∷◌, ◌++◌, map, sym, ap, subst, ◌∙◌, arith}
use Rattle.std.specs.Prelude.{Some, Err}
use Rattle.std.specs.Vec.Iter.{into_iter_items}
use Rattle.xa_value.specs.declared.or_memory.OrMemory.TheVariants.{Error as Over}
use Rattle.xa_profile.specs.Response.{response_body}
use Rattle.xa_profile.specs.writing.Lengths.{bytes_of_all, bytes_of_result}
use Rattle.xa_decide.specs.declared.limits.Limits.{Limits}
use Rattle.xa_decide.specs.Decision.{result_of}
use Rattle.xa_decide.specs.Limits.{IfOver, IsOver, MayRefuse}
use Rattle.xa_decide.proofs.OverLemmas.{one_behind, results_over, then_others}
use Rattle.xa_decide.proofs.deciding.Deciding.results_of.Goals as goal

pub returns-in_err-check_results-clause-over : goal.returns-in_err-check_results-clause-over
returns-in_err-check_results-clause-over c =
    let f = result_of c.args.self.now.view.now c.args.self.now.names_policies c.args.self.now.objects.now c.args.self.now.moment in
    let fails : c.from_residual-in_err-check_results.result ≡ Err (Over c.in_err-check_results.field-0.0) = search rules in
    let step : into_iter_items c.loop-individual.individual-iterator ≡ c.in-Some.individual ∷ into_iter_items c.next.new.self = search rules in
    let made : c.in_ok-counted.counted.result_object ≡ f c.in-Some.individual = c.in_ok-counted.ensures.value in
    let is : c.loop-individual.results ++ (c.in_ok-counted.counted.result_object ∷ map f (into_iter_items c.next.new.self)) ≡ map f c.args.individuals =
    ap (λ r. c.loop-individual.results ++ (r ∷ map f (into_iter_items c.next.new.self))) made
    ∙ ap (λ items. c.loop-individual.results ++ map f items) (sym step) ∙ c.loop-individual.invariant.0 in
    let so_far = c.loop-individual.invariant.1 in
    let one = c.in_ok-counted.ensures.bytes in
    let both = c.saturating_add-bytes.ensures in
    let at_most : c.saturating_add-bytes.result
    ≤ bytes_of_all (bytes_of_result c.args.self.now.objects.now) c.loop-individual.results + bytes_of_result c.args.self.now.objects.now c.in_ok-counted.counted.result_object =
    omega (arith, so_far, one, both) in
    let over = subst (λ (l : Limits). IsOver l.reply c.saturating_add-bytes.result) c.limits-limits.ensures c.in_err-check_results.ensures.1 in
    subst (λ r. IfOver r (MayRefuse c.args.self.now.work.now.limits (Some (response_body c.args.self.now.objects.now (map f c.args.individuals))))) (sym fails)
    (subst (MayRefuse c.args.self.now.work.now.limits (Some (response_body c.args.self.now.objects.now (map f c.args.individuals)))) (sym c.in_err-check_results.ensures.0)
    (results_over c.args.self.now.work.now.limits.reply c.args.self.now.objects.now c.loop-individual.results c.in_ok-counted.counted.result_object
    (map f (into_iter_items c.next.new.self)) (map f c.args.individuals) c.saturating_add-bytes.result is at_most over))

pub loop-individual-preserved : goal.loop-individual-preserved
loop-individual-preserved c =
    let f = result_of c.args.self.now.view.now c.args.self.now.names_policies c.args.self.now.objects.now c.args.self.now.moment in
    let step : into_iter_items c.loop-individual.individual-iterator ≡ c.in-Some.individual ∷ into_iter_items c.next.new.self = search rules in
    let made : c.in_ok-counted.counted.result_object ≡ f c.in-Some.individual = c.in_ok-counted.ensures.value in
    let is : c.loop-individual.results ++ (c.in_ok-counted.counted.result_object ∷ map f (into_iter_items c.next.new.self)) ≡ map f c.args.individuals =
    ap (λ r. c.loop-individual.results ++ (r ∷ map f (into_iter_items c.next.new.self))) made
    ∙ ap (λ items. c.loop-individual.results ++ map f items) (sym step) ∙ c.loop-individual.invariant.0 in
    let pushed : c.push.new.self ≡ c.loop-individual.results ++ (c.in_ok-counted.counted.result_object ∷ []) = search rules in
    let so_far = c.loop-individual.invariant.1 in
    let one = c.in_ok-counted.ensures.bytes in
    let both = c.saturating_add-bytes.ensures in
    let whole = one_behind c.args.self.now.objects.now c.loop-individual.results c.in_ok-counted.counted.result_object in (
      ap (λ rs. rs ++ map f (into_iter_items c.next.new.self)) pushed
          ∙ then_others c.loop-individual.results c.in_ok-counted.counted.result_object (map f (into_iter_items c.next.new.self)) ∙ is,
      subst (λ rs. c.saturating_add-bytes.result ≤ bytes_of_all (bytes_of_result c.args.self.now.objects.now) rs) (sym pushed) (omega (arith, so_far, one, both, whole)),
    )
