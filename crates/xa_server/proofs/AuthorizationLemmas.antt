-- One more field of a message.
use Rattle.std.proofs.Common.{◌≡◌, ℕ, suc, ◌+◌, ◌<◌, List, ◌∷◌, length, get_or, drop, refl, sym, ap, ◌∙◌, add-one, drop-cons}
use Rattle.std.specs.Prelude.{Bool, true, false, map, filter, if◌then◌else◌}
use Rattle.xa_http.specs.declared.message.Field.{Field}
use Rattle.xa_http.specs.Fields.{is_named, values_of}

-- a field is among those of its name
of_first : (b : Bool) (f : Field) (others : List Field) → map (λ (g : Field). g.value) (if b then f ∷ others else others) ≡ (if b then f.value ∷ map (λ g. g.value) others else map (λ g. g.value) others)
of_first true f others = refl
of_first false f others = refl

-- the values of the fields from the one at i on
pub values_from : (name : List ℕ) (fields : List Field) (i : ℕ) (f : Field) → i < length fields → f ≡ get_or fields i f
    → values_of name (drop i fields) ≡ (if is_named name f then f.value ∷ values_of name (drop (i + 1) fields) else values_of name (drop (i + 1) fields))
values_from name fields i f lt is =
    let e : drop i fields ≡ f ∷ drop (i + 1) fields = rw (add-one, drop-cons fields i f lt) (ap (λ g. g ∷ drop (suc i) fields) (sym is)) in
    ap (values_of name) e ∙ of_first (is_named name f) f (filter (is_named name) (drop (i + 1) fields))
