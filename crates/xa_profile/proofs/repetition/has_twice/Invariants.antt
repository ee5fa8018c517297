use Rattle.std.proofs.Common.{◌≡◌, map, drop}
use Rattle.std.specs.BTreeSet.{contains_by}
use Rattle.std.specs.Cmp.Lexicographic.{slice_cmp}
use Rattle.std.specs.Ordering.{nat_cmp}
use Rattle.xa_profile.specs.Request.{has_twice}
use Rattle.xa_profile.proofs.RepetitionLemmas.{is_repeated}
use Rattle.xa_profile.proofs.repetition.has_twice.Given as goal

-- a text stands twice where one of those that are left was seen, or stands twice among them
abbrev pub invariant-loop-text : goal.invariant-loop-text
invariant-loop-text l =
    is_repeated (λ q. contains_by (λ k. slice_cmp nat_cmp q k.now) l.seen) (map (λ text. text.now) (drop l.text-index l.texts)) ≡ has_twice (map (λ text. text.now) l.texts)
