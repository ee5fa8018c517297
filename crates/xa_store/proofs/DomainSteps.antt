-- What the statement that adds a domain makes of the rows.
use Rattle.std.proofs.Common.{◌≡◌, ℕ, ℤ, pos, List, [], ◌∷◌, map, filter, Bool, true, false, not, ◌&&◌, refl, ap, ◌∙◌, int_eq, Ok}
use Rattle.xa_store.proofs.Common.{Chosen, State, Executes, Trees, Null, Int, Text, cast_row, with_rowid, insert_by, is_apart, all_of, all_weaker, any_from_none, IsKeyedBy-insert_by, apart_insert, DomainRow, domain_row, domain_in, HaveWrittenRows, same_name, schema_2, domains}
use Rattle.xa_store.specs.declared.step.Step.TheVariants.{AddDomain}
use Rattle.xa_store.specs.keeping.Steps.{is_named}
use Rattle.xa_store.specs.keeping.Texts as text
use Rattle.xa_store.proofs.ChangeLemmas.{none_pass}
use Rattle.xa_store.proofs.HitLemmas.{turn_bytes}
use Rattle.xa_store.proofs.HoldLemmas.{Back, came, domains_now}
use Rattle.xa_store.proofs.StepLemmas.{Stepped, cast_int, cast_null}
use Rattle.xa_store.proofs.TableLemmas.{inserts}
use Rattle.xa_store.proofs.TextLemmas.{add_domain_is}
use Rattle.xa_store.proofs.WriteLemmas.{row_added}

never_both : (b : Bool) → (b && false) ≡ false
never_both true = refl
never_both false = refl

module _ (old new : State) (has : old.now.schema ≡ schema_2) (count : ℕ) (was : HaveWrittenRows old.now.trees) where
  abbrev db : Trees
  db = old.now.trees

  abbrev ds : List DomainRow
  ds = map domain_in (db 1)

  abbrev number_of : DomainRow → ℤ
  number_of d = d.number

  pub domain_added_stepped : (n : ℤ) (name : List ℕ) → filter (is_named name) ds ≡ [] → Executes text.add_domain (Int n ∷ Text name ∷ []) old new (Ok count) → Stepped old new (AddDomain n name)
  domain_added_stepped n name none h =
      let params = Int n ∷ Text name ∷ [] in
      let domain : DomainRow = record { number = n; name = name; epoch = pos 0 } in
      let row = Int n ∷ Null ∷ Text name ∷ Int (pos 0) ∷ [] in
      let adds = inserts text.add_domain params old new has 1 domains refl count _ 4 refl refl add_domain_is h in
      let bare : cast_row domains row ≡ row = λ i. cast_int n i ∷ cast_null i ∷ Text name ∷ cast_int (pos 0) i ∷ [] in
      let put : with_rowid Chosen (db 1) (cast_row domains row) ≡ domain_row domain = ap (with_rowid Chosen (db 1)) bare in
      let wrote = row_added domain_row number_of (λ _. refl) domains db new.now.trees ds was.domains.written was.domains.rise domain row put adds.edited in
      let apart = all_weaker (λ d. is_named name d ≡ false) (λ d. (not (int_eq d.number n) && same_name d domain) ≡ false)
      (λ d differs. ap (λ b. not (int_eq d.number n) && b) (turn_bytes d.name name ∙ differs) ∙ never_both (not (int_eq d.number n))) ds (none_pass (is_named name) ds none) in
      let alone : is_apart number_of same_name ds domain ≡ true = ap not (any_from_none (λ d. not (int_eq d.number n) && same_name d domain) ds apart) in
      record {
        schema = adds.schema;
        database = adds.database;
        tables =
            domains_now db new.now.trees was (insert_by number_of ds domain) wrote
            (came wrote.rows (all_of (Back domain_row domain_in) (λ _. refl) (insert_by number_of ds domain)) (IsKeyedBy-insert_by number_of ds domain was.domains.rise)
            (apart_insert same_name number_of (λ a b. turn_bytes a.name b.name) ds domain was.domains.rise alone was.domains.apart));
      }
