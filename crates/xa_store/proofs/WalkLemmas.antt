-- Reading a table row by row.
use Rattle.std.proofs.Common.{◌≡◌, ℤ, true, false, ◌&&◌, List, [], ◌∷◌, ◌++◌, Option, Some, None, sym, ap, ◌∙◌, append-nil, append_assoc}
use Rattle.xa_store.proofs.Common.{Row, CheckedTable, rowid_in}
use Rattle.xa_store.specs.keeping.Check.{checks, is_next_sound_row}

-- what the rows that were given say of all rows, when these follow
abbrev pub Leads : CheckedTable → ℤ → List Row → Option ℤ → Type 0
Leads kind next given last = (tail : List Row) → checks kind next None (given ++ tail) ≡ checks kind next last tail

module _ (kind : CheckedTable) (next : ℤ) (given : List Row) (last : Option ℤ) (leads : Leads kind next given last) where
  pub leads_on : (row : Row) → is_next_sound_row kind next last row ≡ true → Leads kind next (given ++ row ∷ []) (Some (rowid_in row))
  leads_on row is tail = ap (checks kind next None) (append_assoc given (row ∷ []) tail) ∙ leads (row ∷ tail) ∙ ap (λ b. b && checks kind next (Some (rowid_in row)) tail) is

  pub fails_on : (row : Row) → is_next_sound_row kind next last row ≡ false → (tail : List Row) → checks kind next None ((given ++ row ∷ []) ++ tail) ≡ false
  fails_on row is tail = ap (checks kind next None) (append_assoc given (row ∷ []) tail) ∙ leads (row ∷ tail) ∙ ap (λ b. b && checks kind next (Some (rowid_in row)) tail) is

  pub leads_to : checks kind next None given ≡ true
  leads_to = ap (checks kind next None) (sym (append-nil given)) ∙ leads []
