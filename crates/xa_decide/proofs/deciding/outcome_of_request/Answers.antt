use Rattle.std.proofs.Common.{rules, ◌≡◌, map, subst}
use Rattle.std.specs.Prelude.{Some, Ok, Err}
use Rattle.xa_profile.specs.Individuals.{individuals}
use Rattle.xa_profile.specs.Response.{response_body}
use Rattle.xa_decide.specs.Decision.{decided, result_of}
use Rattle.xa_decide.specs.Limits.{IfOver, MayRefuse}
use Rattle.xa_decide.proofs.OverLemmas.{decided_all, handed_on}
use Rattle.xa_decide.proofs.deciding.outcome_of_request.Goals as goal

-- the results are those of the request
pub returns-in_err-results-clause-over : goal.returns-in_err-results-clause-over
returns-in_err-results-clause-over c =
    let fails : c.from_residual-in_err-results.result ≡ Err c.in_err-results.field-0.0 = search rules in
    let failed : c.results_of.result ≡ Err c.in_err-results.field-0.0 = search rules in
    let objects : c.as_slice-2.result.now ≡ c.args.request.now.objects = search rules in
    let all : individuals c.args.request.now ≡ Ok c.in-Ok.individuals = search rules in
    let same = decided_all c.args.view.now c.args.request.now c.args.moment c.in-Ok.individuals c.if-request.false all in
    let over : IfOver c.results_of.result (MayRefuse c.args.work.now.limits (Some (response_body c.args.request.now.objects
    (map (result_of c.args.view.now c.args.request.now.return_policy_id_list c.args.request.now.objects c.args.moment) c.in-Ok.individuals)))) =
    subst (λ os. IfOver c.results_of.result (MayRefuse c.args.work.now.limits (Some (response_body os
    (map (result_of c.args.view.now c.args.request.now.return_policy_id_list os c.args.moment) c.in-Ok.individuals))))) objects c.results_of.ensures.over in
    handed_on (MayRefuse c.args.work.now.limits (Some (response_body c.args.request.now.objects (decided c.args.view.now c.args.request.now c.args.moment))))
    c.results_of.result c.from_residual-in_err-results.result c.in_err-results.field-0.0 failed fails
    (subst (λ rs. IfOver c.results_of.result (MayRefuse c.args.work.now.limits (Some (response_body c.args.request.now.objects rs)))) same over)
