use Rattle.std.proofs.Common.{rules, ◌≡◌, sym, ap, subst, ◌∙◌, ◌∷◌, [], ◌++◌, IfSome}
use Rattle.xa_value.specs.Order.{type_of}
use Rattle.xa_bag.specs.Bag.{bag_of}
use Rattle.xa_bag.proofs.SetLemmas.{with_new}
use Rattle.xa_bag.proofs.KeyLemmas.{HasKeys}
use Rattle.xa_bag.proofs.BagLemmas.{of_type_push}
use Rattle.xa_bag.proofs.KeyLemmas.{key_put, kept_as_it_is, put_at_end, of_type_with_new}
use Rattle.xa_bag.proofs.distinct.Distinct.with.Goals as goal

pub invariant_of-result : goal.invariant_of-result
invariant_of-result c =
    let d = c.self.inside in
    let is : type_of c.args.value.now ≡ d.bag.data_type = c.requires ∙ sym (ap (λ b. b.data_type) c.self.view_is) in
    rw c.in_ok-push_new.ensures (of_type_with_new _ _ _ c.self.invariant.0 is, tt)

pub returns-then-not-branch : goal.returns-then-not-branch
returns-then-not-branch c =
    let d = c.self.inside in
    let is : type_of c.args.value.now ≡ d.bag.data_type = c.requires ∙ sym (ap (λ b. b.data_type) c.self.view_is) in
    let has : IfSome d.keys (λ keys. HasKeys keys d.bag.values) = c.self.invariant.1 in
    let keys = subst (λ o. IfSome o (λ keys. HasKeys keys d.bag.values)) c.in-Some.is has in
    let h = c.in_ok-insert.ensures in
    ap (λ vs. bag_of d.bag.data_type vs) (kept_as_it_is _ d.bag.data_type d.bag.values c.args.value.now _ _ keys c.self.invariant.0 is c.sort_key.ensures.value h.added c.if-not-branch.true)
    ∙ ap (λ b. bag_of b.data_type (with_new b.values c.args.value.now)) c.self.view_is

pub invariant_of-result-2 : goal.invariant_of-result-2
invariant_of-result-2 c =
    let d = c.self.inside in
    let v = c.args.value.now in
    let is : type_of v ≡ d.bag.data_type = c.requires ∙ sym (ap (λ b. b.data_type) c.self.view_is) in
    let has : IfSome d.keys (λ keys. HasKeys keys d.bag.values) = c.self.invariant.1 in
    let keys = subst (λ o. IfSome o (λ keys. HasKeys keys d.bag.values)) c.in-Some.is has in
    let h = c.in_ok-insert.ensures in
    let copy : c.in_ok-clone.field-0 ≡ v = search rules in
    let put : c.put.new.self ≡ bag_of d.bag.data_type (d.bag.values ++ v ∷ []) = c.in_ok-put.ensures.ok ∙ ap (λ w. bag_of d.bag.data_type (d.bag.values ++ w ∷ [])) copy in
    rw put (of_type_push _ _ _ c.self.invariant.0 is, key_put _ c.insert.new.self d.bag.values v _ keys c.sort_key.ensures.value h.updates h.ordered)

pub returns : goal.returns
returns c =
    let d = c.self.inside in
    let v = c.args.value.now in
    let is : type_of v ≡ d.bag.data_type = c.requires ∙ sym (ap (λ b. b.data_type) c.self.view_is) in
    let has : IfSome d.keys (λ keys. HasKeys keys d.bag.values) = c.self.invariant.1 in
    let keys = subst (λ o. IfSome o (λ keys. HasKeys keys d.bag.values)) c.in-Some.is has in
    let h = c.in_ok-insert.ensures in
    let copy : c.in_ok-clone.field-0 ≡ v = search rules in
    let put : c.put.new.self ≡ bag_of d.bag.data_type (d.bag.values ++ v ∷ []) = c.in_ok-put.ensures.ok ∙ ap (λ w. bag_of d.bag.data_type (d.bag.values ++ w ∷ [])) copy in
    put ∙ ap (λ vs. bag_of d.bag.data_type vs) (put_at_end _ d.bag.data_type d.bag.values v _ _ keys c.self.invariant.0 is c.sort_key.ensures.value h.added c.if-not-branch.false)
    ∙ ap (λ b. bag_of b.data_type (with_new b.values v)) c.self.view_is
