-- What the values of a naming attribute say, of some and of others behind them, and that it gives the entity.
use Rattle.std.proofs.Common.{◌≡◌, ℕ, Bool, true, false, cond, List, [], ◌∷◌, ◌++◌, refl, ap, ◌∙◌}
use Rattle.std.specs.Prelude.{filter, Option, Some, None}
use Rattle.std.specs.List.{flat_map}
use Rattle.xa_value.specs.declared.value.Value.{Value}
use Rattle.xa_profile.specs.declared.category_object.CategoryObject.{CategoryObject}
use Rattle.xa_decide.specs.Context.{category_of, entity, named_entity, naming_id_of, object_values, only_text, request_values, strings_of}
use Rattle.xa_decide.specs.indexing.Naming.{Said, none, one, several, both, naming_values, said, text_said, values_with}
use Rattle.xa_decide.proofs.KeyLemmas.{of_category, same_text}

pub only_text_said : (vs : List Value) → text_said (said vs) ≡ only_text vs
only_text_said [] = refl
only_text_said (v ∷ []) = refl
only_text_said (v ∷ w ∷ vs) = refl

pub both_none : (a : Said) → both a none ≡ a
both_none none = refl
both_none (one text) = refl
both_none several = refl

pub both_behind : (a : Said) (first rest : List Value) → both (both a (said first)) (said rest) ≡ both a (said (first ++ rest))
both_behind none [] rest = refl
both_behind none (v ∷ []) [] = refl
both_behind none (v ∷ []) (w ∷ []) = refl
both_behind none (v ∷ []) (w ∷ x ∷ rest) = refl
both_behind none (v ∷ w ∷ first) rest = refl
both_behind (one text) [] rest = refl
both_behind (one text) (v ∷ []) [] = refl
both_behind (one text) (v ∷ []) (w ∷ []) = refl
both_behind (one text) (v ∷ []) (w ∷ x ∷ rest) = refl
both_behind (one text) (v ∷ w ∷ first) rest = refl
both_behind several first rest = refl

-- ---- the entity

nothing_named : (objects : List CategoryObject) → flat_map (values_with None) objects ≡ []
nothing_named [] = refl
nothing_named (o ∷ objects) = nothing_named objects

-- the objects of a category have the naming attribute of the category
values_of_category : (id : Option (List ℕ)) (category : List ℕ) (objects : List CategoryObject) → naming_id_of (category_of category) ≡ id
    → flat_map naming_values (filter (of_category category) objects) ≡ flat_map (values_with id) (filter (of_category category) objects)
values_of_category id category [] e = refl
values_of_category id category (o ∷ objects) e = by_case (of_category category o) refl (values_of_category id category objects e) where
  by_case : (b : Bool) → of_category category o ≡ b
      → flat_map naming_values (filter (of_category category) objects) ≡ flat_map (values_with id) (filter (of_category category) objects)
      → flat_map naming_values (cond b (o ∷ filter (of_category category) objects) (filter (of_category category) objects))
      ≡ flat_map (values_with id) (cond b (o ∷ filter (of_category category) objects) (filter (of_category category) objects))
  by_case false h rest = rest
  by_case true h rest =
      ap (λ vs. naming_values o ++ vs) rest
      ∙ ap (λ i. values_with i o ++ flat_map (values_with id) (filter (of_category category) objects))
      (ap (λ c. naming_id_of (category_of c)) (same_text o.category category h) ∙ e)

pub entity_said : (objects : List CategoryObject) (category : List ℕ)
    → text_said (said (flat_map naming_values (filter (of_category category) objects))) ≡ entity objects category
unfolding entity request_values
entity_said objects category =
    ap (λ vs. text_said (said vs)) (values_of_category (naming_id_of (category_of category)) category objects refl) ∙ by_id (naming_id_of (category_of category)) where
      by_id : (id : Option (List ℕ)) → text_said (said (flat_map (values_with id) (filter (of_category category) objects))) ≡ named_entity objects category id
      by_id None = ap (λ vs. text_said (said vs)) (nothing_named (filter (of_category category) objects))
      by_id (Some id) = only_text_said (flat_map (object_values (strings_of category id)) (filter (of_category category) objects))
