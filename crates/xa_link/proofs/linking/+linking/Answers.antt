use Rattle.std.proofs.Common.{rules, [], ◌==◌, ◌++◌, map, drop, take, drop-cons, add-one, suc, Err, ◌≡◌, ◌∷◌, ◌+◌, ◌-◌, ◌≤◌, Some, None, Ok, sym, ap, subst, ◌∙◌, arith}
use Rattle.std.specs.Prelude.{◌||◌}
use Rattle.xa_value.specs.declared.or_memory.OrMemory.TheVariants.{Memory}
use Rattle.xa_value.specs.Gives.{Gives}
use Rattle.xa_policy.specs.declared.linked.Linked.TheVariants.{Unresolved}
use Rattle.xa_link.specs.Linking.{unless_circular}
use Rattle.xa_link.specs.placing.Placed.{led_within, linked, placed_at}
use Rattle.xa_shelf.specs.Allowance.{Allowance}
use Rattle.xa_link.specs.placing.Progress.{Progress, Reads, Refuses, led_at, led_from, led_from_all, led_to_within}
use Rattle.xa_link.specs.placing.Room.{all_fitted, fitted, fitted_behind}
use Rattle.xa_link.proofs.placed.Placed.TheLaws.{the_size}
use Rattle.xa_link.proofs.LedLemmas.{led_document, led_further, led_here, led_one_more, led_set, led_taken}
use Rattle.xa_link.proofs.ReadingLemmas.{counted_err, counted_same, counted_then, reads_none, reads_then, refuses_then, refuses_up}
use Rattle.xa_link.proofs.LinkingLemmas.{at_greatest, further, greatest_depth, linked_where_found, none_at, policy_fits_linked, set_fits_linked}
use Rattle.xa_link.proofs.RoomLemmas.{no_room_behind, room_behind, unresolved_fits}
use Rattle.xa_link.proofs.linking.+linking.Goals.{linked_children-then-leads_nowhere+in_ok-push, linked_children-else-leads_nowhere+in_ok-fitted+in_ok-push-2}
use Rattle.xa_link.proofs.linking.+linking.Goals as goal

pub linked_active-returns-in_default-clause-value : goal.linked_active-returns-in_default-clause-value
linked_active-returns-in_default-clause-value t c =
    let there : placed_at c.args.resolved.now.active c.args.place ≡ None = sym c.in_ok-document.ensures.value ∙ c.in_default.is in
    ap (fitted c.args.room) (none_at c.args.resolved.now.active c.args.place (c.args.path.now.more - 1) (c.args.place ∷ c.args.path.now.places.now) there)
    ∙ unresolved_fits c.args.room ∙ ap Ok (sym c.leaf.ensures)

pub linked_active-linked_document-requires : goal.linked_active-linked_document-requires
linked_active-linked_document-requires t c =
    let there : placed_at c.args.resolved.now.active c.args.place ≡ Some c.get.result.now = search rules in
    let below : the_size c.get.result.now ≤ greatest_depth c.args.resolved.now.active = at_greatest c.args.resolved.now.active c.args.place c.get.result.now there in
    let same : further c.document_at.new.self.active (c.args.path.now.more - 1) ≡ further c.args.resolved.now.active (c.args.path.now.more - 1) = ap (λ r. further r (c.args.path.now.more - 1)) c.document_at.ensures.kept in
    let down = c.decreases in
    (omega (arith, below, same, down), tt)

pub linked_active-returns-clause-value : goal.linked_active-returns-clause-value
linked_active-returns-clause-value t c =
    let there : placed_at c.args.resolved.now.active c.args.place ≡ Some c.get.result.now = search rules in
    let path : c.as_slice.result.now ≡ c.args.place ∷ c.args.path.now.places.now = search rules in
    let same = linked_where_found (c.args.path.now.more - 1) c.args.resolved.now.active c.args.place (c.args.place ∷ c.args.path.now.places.now) c.as_slice.result.now c.get.result.now there path in
    subst (λ linked. Gives c.linked_document.result (fitted c.args.room linked)) same (rw c.document_at.ensures.kept at c.linked_document.ensures.value)

pub linked_document-returns-in-Policy-clause-value : goal.linked_document-returns-in-Policy-clause-value
linked_document-returns-in-Policy-clause-value t c =
    let same = policy_fits_linked (led_within c.args.path.now.more c.args.resolved.now.active c.args.path.now.places.now) c.args.room c.in-Policy.policy c.args.document.now c.in-Policy.is in
    subst (Gives c.linked_policy.result) same c.linked_policy.ensures

pub linked_document-returns-in-PolicySet-clause-value : goal.linked_document-returns-in-PolicySet-clause-value
linked_document-returns-in-PolicySet-clause-value t c =
    let same = set_fits_linked (led_within c.args.path.now.more c.args.resolved.now.active c.args.path.now.places.now) c.args.room c.in-PolicySet.set c.in-PolicySet.children c.args.document.now c.in-PolicySet.is in
    subst (Gives c.linked_set.result) same (search rules)

pub linked_children-returns-in_err-fitted-clause-value : goal.linked_children-returns-in_err-fitted-clause-value
linked_children-returns-in_err-fitted-clause-value t c =
    subst (λ a. Gives c.from_residual-in_err-fitted.result (all_fitted c.args.room (map (linked (led_within c.args.path.now.more a c.args.path.now.places.now)) c.args.children.now)))
    c.loop-child.invariant.0
    (let next : drop c.loop-child.child-index c.args.children.now ≡ c.child-item.result ∷ drop (c.loop-child.child-index + 1) c.args.children.now =
    rw add-one (drop-cons c.args.children.now c.loop-child.child-index c.child-item.result c.loop-child-test.true ∙ ap (λ y. y ∷ drop (suc c.loop-child.child-index) c.args.children.now) (sym c.child-item.is)) in
    let fails : c.from_residual-in_err-fitted.result ≡ Err c.in_err-fitted.field-0.0 = search rules in
    rw fails (no_room_behind c.loop-child.parts c.loop-child.room c.args.room c.loop-child.child-index (linked (led_within c.args.path.now.more c.loop-child.resolved.active c.args.path.now.places.now)) c.args.children.now c.child-item.result next
    c.loop-child.invariant.1 c.in_err-fitted.field-0.0 c.in_err-fitted.ensures.value))

pub linked_children-loop-child-preserved : goal.linked_children-loop-child-preserved
linked_children-loop-child-preserved t c =
    let next : drop c.loop-child.child-index c.args.children.now ≡ c.child-item.result ∷ drop (c.loop-child.child-index + 1) c.args.children.now =
    rw add-one (drop-cons c.args.children.now c.loop-child.child-index c.child-item.result c.loop-child-test.true ∙ ap (λ y. y ∷ drop (suc c.loop-child.child-index) c.args.children.now) (sym c.child-item.is)) in
    let child = linked (led_within c.args.path.now.more c.loop-child.resolved.active c.args.path.now.places.now) in
    let behind = room_behind c.loop-child.parts c.loop-child.room c.args.room c.loop-child.child-index child c.args.children.now c.child-item.result next c.loop-child.invariant.1 in
    let one_more = λ (new : Progress) (after : Allowance) (reads : Reads (led_from c.args.path.now.more c.args.resolved.now.active c.args.path.now.places.now c.child-item.result) c.loop-child.resolved new c.loop-child.reader after).
    reads_then (led_from_all c.args.path.now.more c.args.resolved.now.active c.args.path.now.places.now (take c.loop-child.child-index c.args.children.now))
    (led_from c.args.path.now.more c.args.resolved.now.active c.args.path.now.places.now c.child-item.result)
    (led_from_all c.args.path.now.more c.args.resolved.now.active c.args.path.now.places.now (take (c.loop-child.child-index + 1) c.args.children.now))
    c.args.resolved.now c.loop-child.resolved new c.args.reader.now c.loop-child.reader after c.loop-child.invariant.3 reads
    (λ place. led_one_more c.args.path.now.more c.args.resolved.now.active c.args.path.now.places.now c.args.children.now c.loop-child.child-index c.child-item.result place c.loop-child-test.true c.child-item.is) in
    elim c.if-leads_nowhere.branch [
      | linked_children-then-leads_nowhere+in_ok-push w ↦
          let leads : child c.child-item.result ≡ Unresolved = c.leads_nowhere.ensures.leaf w.if-leads_nowhere.true c.loop-child.resolved.active in
          let step = behind (record { part = Unresolved; room = c.loop-child.room }) (ap (fitted c.loop-child.room) leads ∙ unresolved_fits c.loop-child.room) in
          rw (w.resolved-is, w.reader-is, w.parts-is, w.room-is, w.in_ok-push.ensures.ok) (
            c.loop-child.invariant.0,
            step,
            subst (λ a. fitted_behind (c.loop-child.parts ++ Unresolved ∷ []) (all_fitted c.loop-child.room (map (linked (led_within c.args.path.now.more a c.args.path.now.places.now)) (drop (c.loop-child.child-index + 1) c.args.children.now)))
                ≡ all_fitted c.args.room (map (linked (led_within c.args.path.now.more a c.args.path.now.places.now)) c.args.children.now)) c.loop-child.invariant.0 step,
            one_more c.loop-child.resolved c.loop-child.reader
                (reads_none (led_from c.args.path.now.more c.args.resolved.now.active c.args.path.now.places.now c.child-item.result) c.loop-child.resolved c.loop-child.reader
                (c.leads_nowhere.ensures.unread w.if-leads_nowhere.true c.args.resolved.now.active)),
          )
      | linked_children-else-leads_nowhere+in_ok-fitted+in_ok-push-2 w ↦
          let step = behind w.in_ok-fitted.fitted w.in_ok-fitted.ensures.value in
          rw (w.resolved-is, w.reader-is, w.parts-is, w.room-is, w.in_ok-push-2.ensures.ok) (
            w.in_ok-fitted.ensures.kept ∙ c.loop-child.invariant.0,
            subst (λ a. fitted_behind (c.loop-child.parts ++ w.in_ok-fitted.fitted.part ∷ []) (all_fitted w.in_ok-fitted.fitted.room (map (linked (led_within c.args.path.now.more a c.args.path.now.places.now)) (drop (c.loop-child.child-index + 1) c.args.children.now)))
                ≡ all_fitted c.args.room (map (linked (led_within c.args.path.now.more a c.args.path.now.places.now)) c.args.children.now)) (sym w.in_ok-fitted.ensures.kept) step,
            subst (λ a. fitted_behind (c.loop-child.parts ++ w.in_ok-fitted.fitted.part ∷ []) (all_fitted w.in_ok-fitted.fitted.room (map (linked (led_within c.args.path.now.more a c.args.path.now.places.now)) (drop (c.loop-child.child-index + 1) c.args.children.now)))
                ≡ all_fitted c.args.room (map (linked (led_within c.args.path.now.more a c.args.path.now.places.now)) c.args.children.now)) c.loop-child.invariant.0 step,
            one_more w.linked_document.new.resolved w.linked_document.new.reader
                (subst (λ a. Reads (led_from c.args.path.now.more a c.args.path.now.places.now c.child-item.result) c.loop-child.resolved w.linked_document.new.resolved c.loop-child.reader w.linked_document.new.reader)
                c.loop-child.invariant.0 w.in_ok-fitted.ensures.read),
          )
    ]

-- ---- what is read

pub linked_reference-returns-in-Some-clause-read : goal.linked_reference-returns-in-Some-clause-read
linked_reference-returns-in-Some-clause-read t c =
    let at : unless_circular c.args.path.now.places.now c.args.place ≡ Some c.in-Some.place = search rules in
    let more : 1 ≤ c.args.path.now.more = omega arith in
    counted_same (led_at (c.args.path.now.more - 1) c.args.resolved.now.active c.args.path.now.places.now c.in-Some.place)
    (led_to_within c.args.path.now.more c.args.resolved.now.active c.args.path.now.places.now c.args.place)
    c.args.resolved.now c.linked_active.new.resolved c.args.reader.now c.linked_active.new.reader c.linked_active.result c.linked_active.ensures.read
    (λ place. led_further c.args.path.now.more c.args.resolved.now.active c.args.path.now.places.now c.args.place c.in-Some.place place more at)

pub linked_active-returns-in_err-document-clause-read : goal.linked_active-returns-in_err-document-clause-read
linked_active-returns-in_err-document-clause-read t c =
    let fails : c.from_residual.result ≡ Err Memory = search rules in
    counted_err (led_at (c.args.path.now.more - 1) c.args.resolved.now.active c.args.path.now.places.now c.args.place)
    c.args.resolved.now c.document_at.new.self c.args.reader.now c.document_at.new.reader c.from_residual.result Memory fails
    (refuses_up (λ other. other == c.args.place) (led_at (c.args.path.now.more - 1) c.args.resolved.now.active c.args.path.now.places.now c.args.place)
    c.args.resolved.now c.args.reader.now c.document_at.new.reader c.in_err-document.ensures.read
    (λ place. led_here (c.args.path.now.more - 1) c.args.resolved.now.active c.args.place c.args.path.now.places.now place))

pub linked_active-returns-clause-read : goal.linked_active-returns-clause-read
linked_active-returns-clause-read t c =
    let there : placed_at c.args.resolved.now.active c.args.place ≡ Some c.get.result.now = search rules in
    let path : c.as_slice.result.now ≡ c.args.place ∷ c.args.path.now.places.now = search rules in
    let first : Reads (λ other. other == c.args.place) c.args.resolved.now c.document_at.new.self c.args.reader.now c.document_at.new.reader = search rules in
    counted_then (λ other. other == c.args.place) (led_from (c.args.path.now.more - 1) c.document_at.new.self.active c.as_slice.result.now c.get.result.now)
    (led_at (c.args.path.now.more - 1) c.args.resolved.now.active c.args.path.now.places.now c.args.place)
    c.args.resolved.now c.document_at.new.self c.linked_document.new.resolved c.args.reader.now c.document_at.new.reader c.linked_document.new.reader c.linked_document.result
    first c.document_at.ensures.kept c.linked_document.ensures.read
    (λ place.
    ap (λ a. (place == c.args.place) || led_from (c.args.path.now.more - 1) a c.as_slice.result.now c.get.result.now place) c.document_at.ensures.kept
    ∙ ap (λ p. (place == c.args.place) || led_from (c.args.path.now.more - 1) c.args.resolved.now.active p c.get.result.now place) path
    ∙ led_document (c.args.path.now.more - 1) c.args.resolved.now.active c.args.place c.args.path.now.places.now c.get.result.now place there)

pub linked_document-returns-in-PolicySet-clause-read : goal.linked_document-returns-in-PolicySet-clause-read
linked_document-returns-in-PolicySet-clause-read t c =
    let children : c.as_slice.result.now ≡ c.in-PolicySet.children = search rules in
    counted_same (led_from_all c.args.path.now.more c.args.resolved.now.active c.args.path.now.places.now c.as_slice.result.now)
    (led_from c.args.path.now.more c.args.resolved.now.active c.args.path.now.places.now c.args.document.now)
    c.args.resolved.now c.linked_set.new.resolved c.args.reader.now c.linked_set.new.reader c.linked_set.result c.linked_set.ensures.read
    (λ place.
    ap (λ ds. led_from_all c.args.path.now.more c.args.resolved.now.active c.args.path.now.places.now ds place) children
    ∙ led_set c.args.path.now.more c.args.resolved.now.active c.args.path.now.places.now place c.args.document.now c.in-PolicySet.set c.in-PolicySet.children c.in-PolicySet.is)

pub linked_children-returns-in_err-fitted-clause-read : goal.linked_children-returns-in_err-fitted-clause-read
linked_children-returns-in_err-fitted-clause-read t c =
    let fails : c.from_residual-in_err-fitted.result ≡ Err c.in_err-fitted.field-0.0 = search rules in
    let all = led_from_all c.args.path.now.more c.args.resolved.now.active c.args.path.now.places.now c.args.children.now in
    let more = led_from_all c.args.path.now.more c.args.resolved.now.active c.args.path.now.places.now (take (c.loop-child.child-index + 1) c.args.children.now) in
    let child = led_from c.args.path.now.more c.args.resolved.now.active c.args.path.now.places.now c.child-item.result in
    let refuses = subst (λ a. Refuses (led_from c.args.path.now.more a c.args.path.now.places.now c.child-item.result) c.loop-child.resolved c.loop-child.reader c.linked_document.new.reader)
    c.loop-child.invariant.0 c.in_err-fitted.ensures.read in
    counted_err all c.args.resolved.now c.linked_document.new.resolved c.args.reader.now c.linked_document.new.reader c.from_residual-in_err-fitted.result c.in_err-fitted.field-0.0 fails
    (refuses_up more all c.args.resolved.now c.args.reader.now c.linked_document.new.reader
    (refuses_then (led_from_all c.args.path.now.more c.args.resolved.now.active c.args.path.now.places.now (take c.loop-child.child-index c.args.children.now)) child more
    c.args.resolved.now c.loop-child.resolved c.args.reader.now c.loop-child.reader c.linked_document.new.reader c.loop-child.invariant.3 refuses c.loop-child.invariant.0
    (λ place. led_one_more c.args.path.now.more c.args.resolved.now.active c.args.path.now.places.now c.args.children.now c.loop-child.child-index c.child-item.result place c.loop-child-test.true c.child-item.is))
    (λ place. led_taken c.args.path.now.more c.args.resolved.now.active c.args.path.now.places.now c.args.children.now (c.loop-child.child-index + 1) place))
