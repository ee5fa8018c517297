use Rattle.xa_bag.proofs.JoiningLemmas.{fault_added, value_added}
use Rattle.xa_bag.proofs.higher_order.push_result.Goals as goal

pub returns-in_err-given-clause-value : goal.returns-in_err-given-clause-value
returns-in_err-given-clause-value g c = fault_added c.args.results.data_type c.args.results.values _ _ c.in_err-given.field-0.0 c.from_residual.ensures.1 c.in_err-given.ensures.value

pub returns-clause-value : goal.returns-clause-value
returns-clause-value g c = value_added c.args.results _ _ _ c.in_ok-given.ensures.value c.in_ok-put.ensures.ok
