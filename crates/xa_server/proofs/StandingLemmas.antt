-- What is kept of a domain by its number and an epoch stands, as domains go on.
use Rattle.std.proofs.Common.{◌≡◌, ℕ, List, [], ◌∷◌, refl, sym, ap, ◌∙◌, subst, inl, inr, arith}
use Rattle.std.specs.Prelude.{Some}
use Rattle.std.specs.FinMap.{get}
use Rattle.std.specs.List.{AllByRecursion}
use Rattle.xa_records.specs.DomainState.{DomainState}
use Rattle.xa_records.specs.Kept.{DecidesAlike, Domain, IsNumbered, Kept}
use Rattle.xa_server.specs.Standing.{StandsFor, StandsUnder}
use Rattle.xa_server.proofs.GrowthLemmas.{HasGoneOn, HasGrown}

pub all_implied : {X : Type 0} (P Q : X → Type 0) → ((x : X) → P x → Q x) → (xs : List X) → AllByRecursion P xs → AllByRecursion Q xs
all_implied P Q implies [] given = tt
all_implied P Q implies (x ∷ xs) given = (implies x given.0, all_implied P Q implies xs given.1)

one_value : (a b : Domain) → Some a ≡ Some b → a ≡ b
one_value a b e = cc

module _ (Holds : DomainState → Type 0) where
  module _ (alike : (a b : DomainState) → DecidesAlike a b → Holds a → Holds b) where
    stands_for : (epoch : ℕ) (before after : Domain) → HasGoneOn before after → StandsFor epoch Holds before → StandsFor epoch Holds after
    stands_for epoch before after on stands =
        let e = on.epoch in let r = stands.0 in (
          omega arith,
          λ now. let same : after.epoch ≡ before.epoch = omega arith in alike before.state after.state (on.alike same) (stands.1 (now ∙ same)),
        )

    -- what holds of states that decide alike stands once domains have gone on
    pub stands_on : (old new : Kept) → HasGrown old new → (number epoch : ℕ) → StandsUnder old number epoch Holds → StandsUnder new number epoch Holds
    stands_on old new grows number epoch stands =
        let low = stands.0 in let next = grows.next in (
          omega arith,
          λ name domain there same. elim (grows.each name domain there) [
            | inl fresh ↦ absurd (omega arith)
            | inr on ↦ stands_for epoch on.0 domain on.2 (stands.1 name on.0 on.1 (sym on.2.number ∙ same))
          ],
        )

  -- what stands holds of the domain of that number and epoch
  pub found_holds : (kept : Kept) (name : List ℕ) (domain : Domain) → get kept.domains name ≡ Some domain → StandsUnder kept domain.number domain.epoch Holds → Holds domain.state
  found_holds kept name domain there stands = (stands.1 name domain there refl).1 refl

  -- what holds of a domain stands by its number and epoch
  pub made_stands : (kept : Kept) (name : List ℕ) (domain : Domain) → IsNumbered kept → get kept.domains name ≡ Some domain → Holds domain.state → StandsUnder kept domain.number domain.epoch Holds
  made_stands kept name domain numbered there holds = (
    numbered.below name domain there,
    λ other d is same.
        let one : d ≡ domain = one_value d domain (sym is ∙ ap (get kept.domains) (numbered.apart other name d domain is there same) ∙ there) in
        (let e = ap (λ x. x.epoch) one in omega arith, λ now. subst (λ x. Holds x.state) (sym one) holds),
  )
