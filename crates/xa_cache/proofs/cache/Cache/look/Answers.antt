use Rattle.std.proofs.Common.{rules, refl, ap, ◌∙◌}
use Rattle.xa_cache.specs.Bodies.{looked}
use Rattle.xa_cache.proofs.BodyLemmas.{promoted_looked}
use Rattle.xa_cache.proofs.cache.Cache.look.Goals as goal

pub returns : goal.returns
returns c =
    let key = c.args.key.now in (
      (refl, λ _. tt, ap (λ held. held.entries) c.get.follows.holds-at-none ∙ promoted_looked key c.self.inside.bodies.entries ∙ ap (looked key) c.self.view_is),
      record { moves = tt; value = search rules },
    )
