-- From the root: all that it leads to is read, and then nothing more.
use Rattle.std.proofs.Common.{rules, ◌≡◌, ◌≤◌, Bool, true, false, [], Err, refl, subst, ap, ◌∙◌}
use Rattle.std.specs.Prelude.{◌||◌}
use Rattle.xa_value.specs.declared.or_memory.OrMemory.TheVariants.{Memory}
use Rattle.xa_link.specs.placing.Progress.{Progress, Reads, Refuses, led_to_within}
use Rattle.xa_link.specs.Reading.{reading}
use Rattle.xa_link.proofs.LedLemmas.{answered_so, reading_is, reading_is_more, reading_within, unanswered_so}
use Rattle.xa_link.proofs.ReadingLemmas.{reads_then, refuses_then}
use Rattle.xa_link.proofs.linking.link.Goals as goal

twice : (b : Bool) → (b || b) ≡ b
twice true = refl
twice false = refl

pub returns-in_err-read_all-clause-within : goal.returns-in_err-read_all-clause-within
returns-in_err-read_all-clause-within c =
    let fails : c.from_residual.result ≡ Err Memory = search rules in
    unanswered_so (reading c.args.active.now c.args.root.now ≤ c.args.reader.now.left) c.from_residual.result fails

pub returns-in_err-read_all-clause-refused : goal.returns-in_err-read_all-clause-refused
returns-in_err-read_all-clause-refused c =
    reading_is_more c.args.active.now c.args.root.now (led_to_within 17 c.new-resolved.result.active [] c.resolve-place.result)
    (λ place. ap (λ (s : Progress). led_to_within 17 s.active [] c.resolve-place.result place) c.new-resolved.ensures
    ∙ ap (λ o. led_to_within 17 c.args.active.now [] o place) c.resolve-place.ensures)
    c.new-resolved.result c.args.reader.now c.read_all.new.reader c.new-resolved.ensures c.in_err-read_all.ensures.read

pub returns-in_err-fitted-clause-within : goal.returns-in_err-fitted-clause-within
returns-in_err-fitted-clause-within c =
    answered_so (reading c.args.active.now c.args.root.now ≤ c.args.reader.now.left) c.from_residual-in_err-fitted.result
    (reading_within c.args.active.now c.args.root.now (led_to_within 17 c.new-resolved.result.active [] c.resolve-place.result)
    (λ place. ap (λ (s : Progress). led_to_within 17 s.active [] c.resolve-place.result place) c.new-resolved.ensures
    ∙ ap (λ o. led_to_within 17 c.args.active.now [] o place) c.resolve-place.ensures)
    c.new-resolved.result c.args.reader.now c.read_all.new.reader c.new-resolved.ensures c.read_all.new.resolved c.in_ok-read_all.ensures.kept c.in_ok-read_all.ensures.read)

pub returns-in_err-fitted-clause-refused : goal.returns-in_err-fitted-clause-refused
returns-in_err-fitted-clause-refused c =
    let wanted = led_to_within 17 c.new-resolved.result.active [] c.resolve-place.result in
    let second : Refuses wanted c.read_all.new.resolved c.read_all.new.reader c.linked_reference.new.reader =
    subst (λ active. Refuses (led_to_within 17 active [] c.resolve-place.result) c.read_all.new.resolved c.read_all.new.reader c.linked_reference.new.reader)
    c.in_ok-read_all.ensures.kept c.in_err-fitted.ensures.read in
    reading_is_more c.args.active.now c.args.root.now wanted
    (λ place. ap (λ (s : Progress). led_to_within 17 s.active [] c.resolve-place.result place) c.new-resolved.ensures
    ∙ ap (λ o. led_to_within 17 c.args.active.now [] o place) c.resolve-place.ensures)
    c.new-resolved.result c.args.reader.now c.linked_reference.new.reader c.new-resolved.ensures
    (refuses_then wanted wanted wanted c.new-resolved.result c.read_all.new.resolved c.args.reader.now c.read_all.new.reader c.linked_reference.new.reader
    c.in_ok-read_all.ensures.read second c.in_ok-read_all.ensures.kept (λ place. twice (wanted place)))

pub returns-clause-read : goal.returns-clause-read
returns-clause-read c =
    let wanted = led_to_within 17 c.new-resolved.result.active [] c.resolve-place.result in
    let second : Reads wanted c.read_all.new.resolved c.linked_reference.new.resolved c.read_all.new.reader c.linked_reference.new.reader =
    subst (λ active. Reads (led_to_within 17 active [] c.resolve-place.result) c.read_all.new.resolved c.linked_reference.new.resolved c.read_all.new.reader c.linked_reference.new.reader)
    c.in_ok-read_all.ensures.kept c.in_ok-fitted.ensures.read in
    reading_is c.args.active.now c.args.root.now wanted
    (λ place. ap (λ (s : Progress). led_to_within 17 s.active [] c.resolve-place.result place) c.new-resolved.ensures
    ∙ ap (λ o. led_to_within 17 c.args.active.now [] o place) c.resolve-place.ensures)
    c.new-resolved.result c.args.reader.now c.linked_reference.new.reader c.new-resolved.ensures c.linked_reference.new.resolved
    (c.in_ok-fitted.ensures.kept ∙ c.in_ok-read_all.ensures.kept)
    (reads_then wanted wanted wanted c.new-resolved.result c.read_all.new.resolved c.linked_reference.new.resolved c.args.reader.now c.read_all.new.reader
    c.linked_reference.new.reader c.in_ok-read_all.ensures.read second (λ place. twice (wanted place)))

pub returns-clause-within : goal.returns-clause-within
returns-clause-within c =
    reading_within c.args.active.now c.args.root.now (led_to_within 17 c.new-resolved.result.active [] c.resolve-place.result)
    (λ place. ap (λ (s : Progress). led_to_within 17 s.active [] c.resolve-place.result place) c.new-resolved.ensures
    ∙ ap (λ o. led_to_within 17 c.args.active.now [] o place) c.resolve-place.ensures)
    c.new-resolved.result c.args.reader.now c.read_all.new.reader c.new-resolved.ensures c.read_all.new.resolved c.in_ok-read_all.ensures.kept c.in_ok-read_all.ensures.read
