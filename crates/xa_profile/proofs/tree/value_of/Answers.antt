use Rattle.std.proofs.Common.{◌≡◌, [], true, false, rules}
use Rattle.json.specs.Value.{value_view}
use Rattle.xa_profile.specs.parsing.Tree.{is_readable}
use Rattle.xa_profile.proofs.TreeLemmas.{whole_read, number_refused}
use Rattle.xa_profile.proofs.tree.value_of.Goals as goal

pub returns-then-not-is_readable-clause-invalid : goal.returns-then-not-is_readable-clause-invalid
returns-then-not-is_readable-clause-invalid c other =
    let readable : is_readable (value_view c.in_ok-value.value) ≡ false = search rules in
    number_refused c.args.text.now _ _ (rw c.in_ok-reader.ensures.ok at c.in_ok-value.ensures.ok) readable

pub returns-clause-ok : goal.returns-clause-ok
returns-clause-ok c =
    let none : c.read.new.reader ≡ [] = search rules in
    let readable : is_readable (value_view c.in_ok-value.value) ≡ true = search rules in
    whole_read c.args.text.now _ (rw (c.in_ok-reader.ensures.ok, none) at c.in_ok-value.ensures.ok) readable
