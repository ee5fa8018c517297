use Rattle.std.proofs.Common.{◌≡◌, [], ◌++◌, map, sym, ap, ◌∙◌, rules}
use Rattle.std.specs.FinMap.{entries}
use Rattle.xa_records.specs.Readings.{token_of}
use Rattle.xa_records.proofs.OrderLemmas.{bytes_exact, bytes_total}
use Rattle.xa_records.proofs.TreeLemmas as map_lemmas
use Rattle.xa_records.proofs.plain.tokens.Tokens.list.Goals as goal

pub loop-digest-init : goal.loop-digest-init
loop-digest-init c =
    let given : c.into_iter-digest-iterator.result ≡ c.self.inside.roles.entries = first_of (search rules, cc) in
    let none : c.in_ok-tokens.tokens.items ≡ [] = first_of (search rules, cc) in
    ap (λ xs. xs ++ map token_of c.into_iter-digest-iterator.result) none
    ∙ ap (λ xs. map token_of xs) (given ∙ (sym (map_lemmas.entries_are bytes_total bytes_exact c.self.inside.roles c.iter-digest-items.ensures.ordered) ∙ ap entries c.self.view_is))
