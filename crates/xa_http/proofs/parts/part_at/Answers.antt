use Rattle.std.proofs.Common.{◌≡◌, [], refl, ap, ◌∙◌, rules, tests}
use Rattle.std.specs.Prelude.{◌==◌, Option, None, Some, option_map, slice_get, unwrap_or}
use Rattle.std.proofs.lemmas.Iterator.Consumers.{nth_from_yields_List}
use Rattle.std.proofs.lemmas.Iterator.Splits.{YieldsList-from_slice_split}
use Rattle.std.proofs.lemmas.Option.{unwrap_or-slice_get}
use Rattle.xa_http.specs.Parts.{parts_of}
use Rattle.xa_http.proofs.parts.part_at.Goals as goal

unwrap_or-map : {A B : Type 0} (f : A → B) (o : Option A) (d : A) → f (unwrap_or o d) ≡ unwrap_or (option_map f o) (f d)
unwrap_or-map f None d = refl
unwrap_or-map f (Some x) d = refl

pub returns : goal.returns
returns c =
    let found : option_map (λ part. part.now) c.nth.result ≡ slice_get (parts_of 47 c.args.path.now) c.args.part =
    nth_from_yields_List c.nth.result _ c.args.part c.nth.ensures.ran
    (YieldsList-from_slice_split _ (λ b. b == 47) c.args.path.now c.split.ensures.rest c.split.ensures.done c.split.ensures.closure (λ x b q k. search (rules, tests))) in
    ap (λ part. part.now) c.unwrap_or.ensures
    ∙ unwrap_or-map (λ part. part.now) c.nth.result _
    ∙ ap (λ o. unwrap_or o []) found
    ∙ unwrap_or-slice_get (parts_of 47 c.args.path.now) c.args.part []
