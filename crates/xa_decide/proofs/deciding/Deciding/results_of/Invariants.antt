use Rattle.std.proofs.Common.{◌≡◌, ◌≤◌, ◌++◌, map}
use Rattle.std.specs.Vec.Iter.{into_iter_items}
use Rattle.xa_decide.specs.Decision.{result_of}
use Rattle.xa_profile.specs.writing.Lengths.{bytes_of_all, bytes_of_result}
use Rattle.xa_decide.proofs.deciding.Deciding.results_of.Given as goal

-- the results so far, before those of the individual requests that are left; and what is counted of those
abbrev pub invariant-loop-individual : goal.invariant-loop-individual
invariant-loop-individual l =
    (l.results ++ map (result_of l.self.view.now l.self.names_policies l.self.objects.now l.self.moment) (into_iter_items l.individual-iterator)
    ≡ map (result_of l.self.view.now l.self.names_policies l.self.objects.now l.self.moment) l.fn.individuals)
    × (l.bytes ≤ bytes_of_all (bytes_of_result l.self.objects.now) l.results)
