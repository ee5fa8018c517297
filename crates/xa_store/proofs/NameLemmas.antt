-- What the query for the names of domains finds.
use Rattle.std.proofs.Common.{◌≡◌, ℕ, List, [], ◌∷◌, map, filter, Bool, true, false, Ordering, is_eq, refl, sym, ap, subst, ◌∙◌}
use Rattle.xa_store.proofs.Common.{Row, State, Shown, Trees, Text, IsPlain, understood, col, reads_as, sort_by, all_of, filter_all, map-map, IsAscending, last_key, value_cmp-Text, compare_bytes, Domain, names_of, bytes_total, DomainRow, domain_row, domain_in, IsKeepersStore, schema_2, rows_of, domain_of, domain_entry, kept_in}
use Rattle.xa_store.specs.keeping.Columns.{name_told}
use Rattle.xa_store.specs.keeping.Texts.{show_domain_names}
use Rattle.xa_store.proofs.FoundLemmas.{found_sorted}
use Rattle.xa_store.proofs.OrderedLemmas.{entries_sorted}
use Rattle.xa_store.proofs.SqlLemmas.{Answered, answered}
use Rattle.xa_store.proofs.TextLemmas.{show_domain_names_is}

pub names_plain : IsPlain (understood schema_2 show_domain_names)
names_plain = show_domain_names_is.2

module _ (old new : State) (ours : IsKeepersStore old) (rows : List Row) (shown : Shown show_domain_names [] old new rows) where
  abbrev db : Trees
  db = old.now.trees

  abbrev all : List DomainRow
  all = map domain_in (db 1)

  abbrev always : DomainRow → Bool
  always d = true

  every : filter always all ≡ all
  every = filter_all always all (all_of _ (λ d. refl) all)

  abbrev by_name : DomainRow → DomainRow → Ordering
  by_name a b = compare_bytes a.name b.name

  untied : IsAscending (λ a b. is_eq (by_name a b) ≡ false) all
  untied = ours.tables.domains.apart

  answer : Answered 1 [] (col 1 2 ∷ []) (2 ∷ []) db refl [] rows
  answer =
      answered 1 [] (col 1 2 ∷ []) (2 ∷ []) db refl [] rows
      (reads_as show_domain_names [] old new schema_2 ours.rests.schema _ show_domain_names_is.0 show_domain_names_is.2 show_domain_names_is.1 rows shown).answer

  abbrev show_name : DomainRow → Row
  show_name d = Text d.name ∷ []

  ordered : rows ≡ map show_name (sort_by by_name all)
  ordered =
      found_sorted 1 [] (col 1 2 ∷ []) (2 ∷ []) db refl [] domain_row domain_in ours.tables.domains.written always (all_of _ (λ d. refl) all) by_name (λ a b. last_key (value_cmp-Text a.name b.name))
      (subst (IsAscending (λ a b. is_eq (by_name a b) ≡ false)) (sym every) untied) rows answer
      ∙ ap (λ ds. map show_name (sort_by by_name ds)) every

  pub names_read : map name_told rows ≡ names_of (kept_in db)
  names_read =
      ap (map name_told) ordered ∙ map-map name_told show_name (sort_by by_name all)
      ∙ sym (ap (map (λ (e : List ℕ × Domain). e.0)) (entries_sorted bytes_total (λ (d : DomainRow). d.name) (domain_of (rows_of db)) all untied)
      ∙ map-map (λ (e : List ℕ × Domain). e.0) (domain_entry (rows_of db)) (sort_by by_name all))
