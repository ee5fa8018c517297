use Rattle.std.proofs.Common.{◌≡◌, [], ◌∷◌, rules}
use Rattle.xa_expr.proofs.MatchLemmas.{takes_given}
use Rattle.xa_expr.proofs.match_.Match.answer.Goals as goal

pub answer_for-requires : goal.answer_for-requires
answer_for-requires c =
    let given : c.as_slice.result.now ≡ c.args.self.now.literal ∷ c.args.value.now ∷ [] = search rules in
    takes_given c.args.self.now c.args.value.now c.as_slice.result.now c.requires.of_type given
