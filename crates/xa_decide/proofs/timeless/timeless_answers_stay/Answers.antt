use Rattle.xa_decide.proofs.TimelessLemmas.{decided_same, same_but_for_the_clock, timeless_answers_stay}
use Rattle.xa_decide.proofs.timeless.timeless_answers_stay.Goals as goal

pub returns-clause-contexts : goal.returns-clause-contexts
returns-clause-contexts c = same_but_for_the_clock

pub returns-clause-requests : goal.returns-clause-requests
returns-clause-requests c = decided_same

pub returns-clause-answers : goal.returns-clause-answers
returns-clause-answers c = timeless_answers_stay
