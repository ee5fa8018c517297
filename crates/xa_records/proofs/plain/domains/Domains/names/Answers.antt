use Rattle.std.proofs.Common.{◌≡◌, [], ◌++◌, sym, ap, ◌∙◌, rules}
use Rattle.std.specs.FinMap.{entries}
use Rattle.std.specs.Map.{keys_of}
use Rattle.xa_records.proofs.OrderLemmas.{bytes_exact, bytes_total}
use Rattle.xa_records.proofs.TreeLemmas as map_lemmas
use Rattle.xa_records.proofs.plain.domains.Domains.names.Goals as goal

pub loop-name-init : goal.loop-name-init
loop-name-init c =
    let given : c.into_iter-name-iterator.result ≡ keys_of c.self.inside.by_name.entries = first_of (search rules, cc) in
    let none : c.in_ok-names.names.items ≡ [] = first_of (search rules, cc) in
    ap (λ xs. xs ++ c.into_iter-name-iterator.result) none
    ∙ ap (λ xs. xs) (given ∙ ap keys_of (sym (map_lemmas.entries_are bytes_total bytes_exact c.self.inside.by_name c.keys-name-items.ensures.ordered) ∙ ap (λ k. entries k.domains) c.self.view_is))
