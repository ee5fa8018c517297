use Rattle.std.proofs.Common.{map, drop}
use Rattle.xa_func.specs.Signature.{Every}
use Rattle.xa_func.proofs.acceptance.every.Given as goal

-- the rest tell for all
abbrev pub invariant-loop-argument : goal.invariant-loop-argument
invariant-loop-argument g l =
    (Every l.kind (map (λ a. g.W.Counting.counts_as (g.T.HasKind.kind_of a)) (drop l.argument-index l.arguments)) → Every l.kind (map (λ a. g.W.Counting.counts_as (g.T.HasKind.kind_of a)) l.arguments))
    × (Every l.kind (map (λ a. g.W.Counting.counts_as (g.T.HasKind.kind_of a)) l.arguments) → Every l.kind (map (λ a. g.W.Counting.counts_as (g.T.HasKind.kind_of a)) (drop l.argument-index l.arguments)))
