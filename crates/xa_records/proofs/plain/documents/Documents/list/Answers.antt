use Rattle.std.proofs.Common.{◌≡◌, [], ◌++◌, map, sym, ap, ◌∙◌, rules}
use Rattle.std.specs.FinMap.{entries}
use Rattle.xa_records.specs.Readings.{listed_of}
use Rattle.xa_records.proofs.OrderLemmas.{keys_exact, keys_total}
use Rattle.xa_records.proofs.TreeLemmas as map_lemmas
use Rattle.xa_records.proofs.plain.documents.Documents.list.Goals as goal

pub loop-key-init : goal.loop-key-init
loop-key-init c =
    let given : c.into_iter-key-iterator.result ≡ c.self.inside.documents.entries = first_of (search rules, cc) in
    let none : c.in_ok-listed.listed.items ≡ [] = first_of (search rules, cc) in
    ap (λ xs. xs ++ map listed_of c.into_iter-key-iterator.result) none
    ∙ ap (λ xs. map listed_of xs) (given ∙ (sym (map_lemmas.entries_are keys_total keys_exact c.self.inside.documents c.iter-key-items.ensures.ordered) ∙ ap entries c.self.view_is))
