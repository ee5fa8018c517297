-- The active documents by their keys are those that the texts are.
use Rattle.std.proofs.Common.{◌≡◌, ◌+◌, ◌≤◌, false, sym, subst, true, ◌∙◌}
use Rattle.std.specs.Prelude.{IfOk}
use Rattle.xa_decide.specs.Decision.{view_by}
use Rattle.xa_decide.specs.Reading.{IsNotTooLarge, reading_for}
use Rattle.xa_shelf.specs.Allowance.{IsBeyond}
use Rattle.xa_server.specs.View.{active_of}
use Rattle.xa_server.proofs.KeyedLemmas.{active_are}
use Rattle.xa_server.proofs.view.view_of_kept.Goals as goal

pub returns-clause-value : goal.returns-clause-value
returns-clause-value c = λ keyed.
    let all : c.as_slice.result.now ≡ active_of c.args.kept.texts = c.as_slice.ensures ∙ c.in_ok-active.ensures ∙ sym (active_are c.args.kept.texts keyed) in
    subst (λ active. IfOk c.new.result (λ view. view ≡ view_by active c.args.kept.root c.args.kept.source)) all c.new.ensures.value

pub returns-clause-read : goal.returns-clause-read
returns-clause-read c = λ keyed.
    let all : c.as_slice.result.now ≡ active_of c.args.kept.texts = c.as_slice.ensures ∙ c.in_ok-active.ensures ∙ sym (active_are c.args.kept.texts keyed) in
    subst (λ active. IfOk c.new.result (λ view. IsNotTooLarge view.tree → c.args.reader.now.left ≡ c.new.new.reader.left + reading_for active c.args.kept.root)) all c.new.ensures.read

pub returns-clause-refused : goal.returns-clause-refused
returns-clause-refused c = λ keyed.
    let all : c.as_slice.result.now ≡ active_of c.args.kept.texts = c.as_slice.ensures ∙ c.in_ok-active.ensures ∙ sym (active_are c.args.kept.texts keyed) in
    subst (λ active. c.args.reader.now.is_spent ≡ false → c.new.new.reader.is_spent ≡ true → IsBeyond c.args.reader.now (reading_for active c.args.kept.root)) all c.new.ensures.refused

pub returns-clause-within : goal.returns-clause-within
returns-clause-within c = λ keyed.
    let all : c.as_slice.result.now ≡ active_of c.args.kept.texts = c.as_slice.ensures ∙ c.in_ok-active.ensures ∙ sym (active_are c.args.kept.texts keyed) in
    subst (λ active. IfOk c.new.result (λ _. reading_for active c.args.kept.root ≤ c.args.reader.now.left)) all c.new.ensures.within
