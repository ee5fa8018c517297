use Rattle.std.proofs.Common.{◌≡◌, map, drop, ◌++◌}
use Rattle.xa_profile.specs.Response.{result_data}
use Rattle.xa_profile.specs.writing.Tokens.{items_behind}
use Rattle.xa_profile.proofs.response.write_results.Given as goal

-- what was written, and then the results that are left
abbrev pub invariant-loop-result_object : goal.invariant-loop-result_object
invariant-loop-result_object l =
    (l.out.before ≡ l.initial.out.before)
    × (l.out.tokens ++ items_behind (map (result_data l.objects) (drop l.result_object-index l.results))
    ≡ l.initial.out.tokens ++ items_behind (map (result_data l.objects) l.results))
