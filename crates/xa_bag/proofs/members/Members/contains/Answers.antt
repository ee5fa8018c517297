use Rattle.std.proofs.Common.{◌≡◌, length, map, sym, subst, ap, ◌∙◌, IfSome}
use Rattle.std.specs.List.Sorted.{IsBinarySearchResult, IsPermutation, IsSearchInRange, IsSorted}
use Rattle.xa_value.specs.Order.{compare_keys, key_of, type_of}
use Rattle.xa_bag.specs.Sets.{is_among}
use Rattle.xa_bag.proofs.KeyLemmas.{found_in_order, not_found}
use Rattle.xa_bag.proofs.members.Members.contains.Goals as goal

pub returns-then-takes : goal.returns-then-takes
returns-then-takes c =
    let m = c.self.inside in
    let is : type_of c.args.value.now ≡ m.data_type = c.takes.ensures.0 c.if-takes.true ∙ sym (ap (λ b. b.data_type) c.self.view_is) in
    let keys = subst (λ o. IfSome o (λ keys. IsPermutation (map key_of m.values.now) keys.items × IsSorted compare_keys keys.items)) c.in-Some.is c.self.invariant.1 in
    let same : c.as_slice-keys.result.now ≡ c.in-Some.keys.items = c.as_slice-keys.ensures.value in
    let position : IsBinarySearchResult (λ j. compare_keys j c.sort_key.result) c.as_slice-keys.result.now c.binary_search.result = c.binary_search.ensures.position in
    let bound : IsSearchInRange c.binary_search.result (length c.as_slice-keys.result.now) = c.binary_search.ensures.bound in
    c.is_ok.ensures.value
    ∙ found_in_order c.in-Some.keys.items m.data_type m.values.now c.args.value.now c.sort_key.result c.binary_search.result
    keys.0 keys.1 c.self.invariant.0 is c.sort_key.ensures.value (rw same at position) (rw same at bound)
    ∙ ap (λ b. is_among b.values c.args.value.now) c.self.view_is

pub returns-else-takes : goal.returns-else-takes
returns-else-takes c =
    let m = c.self.inside in
    c.if-takes.false ∙ sym (not_found m.data_type m.values.now c.args.value.now c.self.invariant.0 (λ e. absurd (let h = c.takes.ensures.1 (e ∙ ap (λ b. b.data_type) c.self.view_is) in cc))) ∙ ap (λ b. is_among b.values c.args.value.now) c.self.view_is
