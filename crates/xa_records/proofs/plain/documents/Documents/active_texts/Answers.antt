use Rattle.std.proofs.Common.{◌≡◌, [], ◌++◌, sym, ap, ◌∙◌, rules}
use Rattle.std.specs.FinMap.{entries}
use Rattle.xa_records.specs.Readings.{active_among}
use Rattle.xa_records.proofs.OrderLemmas.{keys_exact, keys_total}
use Rattle.xa_records.proofs.TreeLemmas as map_lemmas
use Rattle.xa_records.proofs.plain.documents.Documents.active_texts.Goals as goal

pub loop-key-init : goal.loop-key-init
loop-key-init c =
    let given : c.into_iter-key-iterator.result ≡ c.self.inside.documents.entries = first_of (search rules, cc) in
    let none : c.new-texts.result.items ≡ [] = first_of (search rules, cc) in
    ap (λ xs. xs ++ active_among c.into_iter-key-iterator.result) none
    ∙ ap (λ xs. active_among xs) (given ∙ (sym (map_lemmas.entries_are keys_total keys_exact c.self.inside.documents c.iter-key-items.ensures.ordered) ∙ ap entries c.self.view_is))
