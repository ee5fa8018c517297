use Rattle.std.proofs.Common.{ap, sym, ◌∙◌}
use Rattle.xa_value.proofs.GivesLemmas.{told_apart}
use Rattle.xa_expr.specs.Fault.{of_function}
use Rattle.xa_expr.specs.Target.{matching_of}
use Rattle.xa_expr.proofs.answering.answer_for.Goals as goal

pub returns : goal.returns
returns c =
    c.matching_of.ensures
    ∙ sym (ap (λ r. matching_of (of_function r)) (told_apart _ _ _ c.in_ok-answer.ensures.answer c.apply.ensures.value))
