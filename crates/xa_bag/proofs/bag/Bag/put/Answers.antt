use Rattle.std.proofs.Common.{◌≡◌, ◌∙◌, ap, sym}
use Rattle.xa_value.specs.Order.{type_of}
use Rattle.xa_bag.specs.Bag.{OfType}
use Rattle.xa_bag.proofs.BagLemmas.{of_type_push}
use Rattle.xa_bag.proofs.bag.Bag.put.Goals as goal

pub invariant_of-self : goal.invariant_of-self
invariant_of-self c =
    let held : OfType c.self.inside.data_type c.in-Some.values.items = rw c.in-Some.is at c.self.invariant in
    let fits : type_of c.args.value ≡ c.self.inside.data_type = c.requires ∙ sym (ap (λ b. b.data_type) c.self.view_is) in
    rw (c.in_ok-self-inside-in-Some.ensures, c.get.ensures) (of_type_push _ _ _ held fits)

pub invariant_of-self-in-None : goal.invariant_of-self-in-None
invariant_of-self-in-None c =
    let held : OfType c.self.inside.data_type c.self.inside.own.items = rw c.in-None.is at c.self.invariant in
    let fits : type_of c.args.value ≡ c.self.inside.data_type = c.requires ∙ sym (ap (λ b. b.data_type) c.self.view_is) in
    rw (c.in-None.is, c.in_ok-push-in-None.ensures.items) (of_type_push _ _ _ held fits)
