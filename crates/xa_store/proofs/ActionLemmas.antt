-- On which rows foreign keys act: on those of a domain that goes, and on no others.
use Rattle.std.proofs.Common.{◌≡◌, ℕ, List, [], ◌∷◌, flat_map, filter_map, length, Bool, true, false, ◌&&◌, ◌==◌, cond, Some, None, refl, ap, ◌∙◌}
use Rattle.xa_store.proofs.Common.{list_any, Row, Table, parent_key, Enforced, Work, deed_for, loses, pairs, work_by, works, schema_2}
use Rattle.sqlite_schema.specs.Names.{same_name}
use Rattle.sqlite_schema.specs.declared.schema.Reference.{Reference}
use Rattle.sqlite_value.specs.Keys.{joined}
use Rattle.sqlite_value.specs.declared.keys.Order.{Order}
use Rattle.sqlite_rules.specs.declared.action.Deed.TheVariants.{Delete}

abbrev pub rowids_order : Order
rowids_order = record { digits = 0 }

-- the actions by whether the rows are gone, or others stand in their place
abbrev works_by : ℕ → ℕ → List (Row × Row) → Bool → List Work
works_by depth t moves gone =
    flat_map (λ (child : Table). filter_map (λ (ref : Reference). work_by depth t moves child ref (deed_for Enforced gone ref) (parent_key schema_2.tables ref)) child.references) schema_2.tables

-- rows that are gone, by whether they were domains
abbrev acts : ℕ → List (Row × Row) → Bool → List Work
acts depth moves domains =
    flat_map (λ (child : Table). filter_map (λ (ref : Reference).
    cond (domains && list_any (loses rowids_order (0 ∷ [])) moves) (Some (record { depth = depth; child = child; ref = ref; places = 0 ∷ []; order = rowids_order; deed = Delete; moves = moves })) None)
    child.references) schema_2.tables

of_gone : (depth t : ℕ) (moves : List (Row × Row)) → works_by depth t moves true ≡ acts depth moves (1 == t)
unfolding same_name joined
of_gone depth t moves = refl

of_none : (depth : ℕ) (domains : Bool) → acts depth [] domains ≡ []
of_none depth true = refl
of_none depth false = refl

of_others : (depth t : ℕ) (moves : List (Row × Row)) → works_by depth t moves false ≡ []
of_others depth t moves = refl

-- rows come
pub works_of_coming : (t : ℕ) (news : List Row) → works schema_2 Enforced 0 t [] news ≡ []
works_of_coming t news = go (length news == 0)
  where
    go : (gone : Bool) → works_by 0 t [] gone ≡ []
    go true = of_gone 0 t [] ∙ of_none 0 (1 == t)
    go false = of_others 0 t []

-- a row changes
pub works_of_changing : (t : ℕ) (olds : List Row) (new : Row) → works schema_2 Enforced 0 t olds (new ∷ []) ≡ []
works_of_changing t olds new = of_others 0 t (pairs olds (new ∷ []))

-- rows go that are no domains
pub works_of_going : (t : ℕ) → (1 == t) ≡ false → (depth : ℕ) (olds : List Row) → works schema_2 Enforced depth t olds [] ≡ []
works_of_going t other depth olds = of_gone depth t (pairs olds []) ∙ ap (acts depth (pairs olds [])) other
