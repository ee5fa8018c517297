use Rattle.std.proofs.Common.{◌≡◌, true, false, is_ok, refl, sym, ap, ◌∙◌}
use Rattle.std.specs.Prelude.{Result, Ok, Err, OnOk, OnErr}
use Rattle.xa_cache.proofs.BodyLemmas.{put_kept}
use Rattle.xa_cache.proofs.cache.put.Goals as goal

from_ok : {T E P : Type 0} (r : Result T E) → OnOk r P → is_ok r ≡ true → P
from_ok (Ok x) holds is = holds
from_ok (Err e) holds is = absurd cc

from_err : {T E P : Type 0} (r : Result T E) → OnErr r P → is_ok r ≡ false → P
from_err (Ok x) holds is = absurd cc
from_err (Err e) holds is = holds

by_result : {T E P : Type 0} (r : Result T E) → (is_ok r ≡ true → P) → (is_ok r ≡ false → P) → P
by_result (Ok x) if_ok if_err = if_ok refl
by_result (Err e) if_ok if_err = if_err refl

pub returns-clause-cap : goal.returns-clause-cap
returns-clause-cap c = by_result c.put.result
    (λ done. ap (λ held. held.cap) (from_ok c.put.result c.put.ensures.entries done) ∙ c.requires)
    (λ none. ap (λ held. held.cap) (from_err c.put.result c.put.ensures.err none) ∙ c.requires)

pub returns-clause-kept : goal.returns-clause-kept
returns-clause-kept c done =
    let old = c.args.bodies.now in
    let entries = from_ok c.put.result c.put.ensures.entries (sym c.is_ok.ensures.value ∙ done) in
    ap (λ held. held.entries) entries ∙ put_kept c.args.key c.args.body old.entries old.cap c.requires c.len-length.ensures.valid.1

pub returns-clause-left : goal.returns-clause-left
returns-clause-left c none = from_err c.put.result c.put.ensures.err (sym c.is_ok.ensures.value ∙ none)

pub returns-clause-again : goal.returns-clause-again
returns-clause-again c there = c.is_ok.ensures.value ∙ c.put.ensures.succeeds there
