use Rattle.xa_http.proofs.LawLemmas.{keeps_messages, keeps_faults, faults_are_final, answers_messages, feeds_on, takes_on, one_cut, answers_first}
use Rattle.xa_http.proofs.laws.pieces_make_no_difference.Goals as goal

pub returns : goal.returns
returns c = record { messages = keeps_messages; faults = keeps_faults; for_good = faults_are_final; answers = answers_messages; feeds = feeds_on; takes = takes_on; one_cut = one_cut; answers_first = answers_first }
