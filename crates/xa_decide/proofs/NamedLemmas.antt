-- Where nothing is named nothing is left out.
use Rattle.std.proofs.Common.{◌≡◌, Bool, true, false, refl}
use Rattle.xa_policy.specs.declared.verdict.Verdict.{Verdict}
use Rattle.xa_policy.specs.Evaluation.{as_asked, without_ids}

pub nothing_asked : (asked : Bool) (v : Verdict) → as_asked asked (without_ids v) ≡ without_ids v
nothing_asked true v = refl
nothing_asked false v = refl
