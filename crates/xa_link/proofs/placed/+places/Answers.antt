use Rattle.std.proofs.Common.{◌≡◌, List, [], ◌∷◌, ◌++◌, ◌+◌, suc, map, drop, drop-cons, add-one, append_assoc, sym, ap, ◌∙◌}
use Rattle.xa_notation.specs.declared.document.Document.{Document}
use Rattle.xa_link.specs.declared.placed.Placed.{Placed}
use Rattle.xa_link.specs.placing.Placed.{placed}
use Rattle.xa_link.specs.Resolution.{resolve}
use Rattle.xa_link.proofs.placed.+places.Goals as goal

-- one more behind those so far, and then those that are left
one_more : (value : Document → Placed) (all more : List Placed) (new : Placed) (child : Document) (children rest : List Document)
    → more ≡ all ++ (new ∷ []) → new ≡ value child → children ≡ child ∷ rest → more ++ map value rest ≡ all ++ map value children
one_more value all more new child children rest pushed is at =
    ap (λ ps. ps ++ map value rest) pushed ∙ append_assoc all (new ∷ []) (map value rest) ∙ ap (λ p. all ++ (p ∷ map value rest)) is ∙ ap (λ ds. all ++ map value ds) (sym at)

-- the index stays as it is from child to child
pub children_with_places-loop-child-preserved : goal.children_with_places-loop-child-preserved
children_with_places-loop-child-preserved t c =
    let value : c.in_ok-with_places.field-0 ≡ placed (resolve c.args.index.now) c.child-item.result =
    c.in_ok-with_places.ensures.value ∙ ap (λ i. placed (resolve i) c.child-item.result) c.loop-child.invariant.0 in
    let next : drop c.loop-child.child-index c.args.children.now ≡ c.child-item.result ∷ drop (c.loop-child.child-index + 1) c.args.children.now =
    rw add-one (drop-cons c.args.children.now c.loop-child.child-index c.child-item.result c.loop-child-test.true ∙ ap (λ y. y ∷ drop (suc c.loop-child.child-index) c.args.children.now) (sym c.child-item.is)) in (
      c.in_ok-with_places.ensures.kept ∙ c.loop-child.invariant.0,
      one_more (placed (resolve c.args.index.now)) c.loop-child.all.items c.push.new.self.items c.in_ok-with_places.field-0 c.child-item.result _ _
          c.in_ok-push.ensures.items value next
          ∙ c.loop-child.invariant.1,
    )
