use Rattle.std.proofs.Common.{ap, sym, ◌∙◌}
use Rattle.std.specs.Prelude.{Ok}
use Rattle.xa_profile.proofs.SingleLemmas.{only_individual}
use Rattle.xa_profile.proofs.individuals.individuals_combined.Goals as goal

pub returns-then-are_few_and_distinct : goal.returns-then-are_few_and_distinct
returns-then-are_few_and_distinct c =
    only_individual c.args.objects.now (sym c.are_few_and_distinct.ensures ∙ c.if-are_few_and_distinct.true) ∙ ap Ok (sym c.in_ok-individual_of_all.ensures)
