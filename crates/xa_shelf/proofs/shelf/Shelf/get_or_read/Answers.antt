use Rattle.std.proofs.Common.{◌≡◌, Bool, true, false, Result, Ok, Err, refl, sym, ap, subst, if◌then◌else◌, ◌∙◌}
use Rattle.std.specs.Prelude.{OnErr}
use Rattle.xa_shelf.specs.Readings.{Shelved, found, is_among, one_more, unanswered}
use Rattle.xa_shelf.proofs.DocumentLemmas.{none_among}
use Rattle.xa_shelf.proofs.shelf.Shelf.get_or_read.Goals as goal

pub returns-in_default-clause-found : goal.returns-in_default-clause-found
returns-in_default-clause-found c there =
    let held = subst (λ shelf. is_among c.args.text.now shelf.texts ≡ true) (sym c.self.view_is) there in
    absurd (none_among c.args.text.now c.self.inside.documents.entries c.in_default.ensures.cases.0 held)

on_err : {X E P : Type 0} (r : Result X E) → P → OnErr r P
on_err (Ok x) p = tt
on_err (Err e) p = p

isnt : (b : Bool) → ¬ (b ≡ true) → b ≡ false
isnt true never = absurd (never refl)
isnt false never = refl

pub returns-in_default-clause-err : goal.returns-in_default-clause-err
returns-in_default-clause-err c =
    let old : Shelved = c.args.self.now in
    let text = c.args.text.now in
    let isnt_held : is_among text old.texts ≡ false =
    isnt (is_among text old.texts) (λ there.
    none_among text c.self.inside.documents.entries c.in_default.ensures.cases.0 (subst (λ (s : Shelved). is_among text s.texts ≡ true) (sym c.self.view_is) there)) in
    on_err c.read.result (c.read.ensures.counted
    ∙ ap (λ b. if b then found text old else record { texts = old.texts; readings = one_more old.readings }) (sym isnt_held))
