-- What the look for a domain by its name finds.
use Rattle.std.proofs.Common.{◌≡◌, ℕ, ℤ, pos, negsuc, ◌≤ℤ◌, List, [], ◌∷◌, map, filter, Option, Some, None, Result, Ok, Err, IfOk, refl, sym, ap, ◌∙◌, arith}
use Rattle.xa_store.proofs.Common.{AllByRecursion, ints, Row, column, State, Shown, Trees, Value, Int, Text, IsPlain, understood, col, reads_as, all_of, Failure, DomainRow, nat_of, domain_row, domain_in, IsKeepersStore, schema_2, rows_of}
use Rattle.xa_store.specs.declared.query.domain.FoundDomain.{FoundDomain}
use Rattle.xa_store.specs.keeping.Lookup.{FindsDomain, TellDomain}
use Rattle.xa_store.specs.keeping.Steps.{is_named}
use Rattle.xa_store.specs.keeping.Texts.{show_domain}
use Rattle.xa_store.proofs.FoundLemmas.{found_one, found_none}
use Rattle.xa_store.proofs.HitLemmas.{name_hit}
use Rattle.xa_store.proofs.SqlLemmas.{Answered, answered, hits}
use Rattle.xa_store.proofs.TextLemmas.{is, show_domain_is}

pub domain_plain : IsPlain (understood schema_2 show_domain)
domain_plain = show_domain_is.2

pub same_int_value : (a b : ℤ) → ◌≡◌ {A = Value} (Int a) (Int b) → a ≡ b
same_int_value a b e = cc

pub never_negative : (n : ℤ) → pos 0 ≤ℤ n → n ≡ pos (nat_of n)
never_negative (pos n) h = refl
never_negative (negsuc n) h = absurd (omega (arith, ints))

module _ (old new : State) (name : List ℕ) (ours : IsKeepersStore old) (rows : List Row) (shown : Shown show_domain (Text name ∷ []) old new rows) where
  abbrev db : Trees
  db = old.now.trees

  answer : Answered 1 (is 2 0 ∷ []) (col 1 0 ∷ col 1 3 ∷ []) [] db refl (Text name ∷ []) rows
  answer =
      answered 1 (is 2 0 ∷ []) (col 1 0 ∷ col 1 3 ∷ []) [] db refl (Text name ∷ []) rows
      (reads_as show_domain (Text name ∷ []) old new schema_2 ours.rests.schema _ show_domain_is.0 show_domain_is.2 show_domain_is.1 rows shown).answer

  all_hit : AllByRecursion (λ x. hits 1 (is 2 0 ∷ []) (col 1 0 ∷ col 1 3 ∷ []) [] db refl (Text name ∷ []) (domain_row x) ≡ is_named name x) (map domain_in (db 1))
  all_hit = all_of _ (name_hit name db) (map domain_in (db 1))

  pub domain_there : (row : Row) → rows ≡ row ∷ [] → (d : DomainRow) × (filter (is_named name) (rows_of db).domains ≡ d ∷ []) × (row ≡ Int d.number ∷ Int d.epoch ∷ [])
  domain_there row one =
      found_one 1 (is 2 0 ∷ []) (col 1 0 ∷ col 1 3 ∷ []) [] db refl (Text name ∷ []) domain_row domain_in ours.tables.domains.written (is_named name) all_hit rows row one answer

  pub domain_absent : rows ≡ [] → filter (is_named name) (rows_of db).domains ≡ []
  domain_absent none =
      found_none 1 (is 2 0 ∷ []) (col 1 0 ∷ col 1 3 ∷ []) [] db refl (Text name ∷ []) domain_row domain_in ours.tables.domains.written (is_named name) all_hit rows none answer

domain_finds : (old new : State) (name : List ℕ) → IsKeepersStore old → (rows : List Row) → Shown show_domain (Text name ∷ []) old new rows → (found : Option FoundDomain) → TellDomain rows found
    → FindsDomain name (rows_of old.now.trees) found
domain_finds old new name ours [] shown None tell = domain_absent old new name ours [] shown refl
domain_finds old new name ours [] shown (Some found) tell = absurd tell
domain_finds old new name ours (row ∷ []) shown None tell = absurd tell
domain_finds old new name ours (row ∷ []) shown (Some found) tell =
    let there = domain_there old new name ours (row ∷ []) shown row refl in
    let d = there.0 in
    let number : found.number ≡ d.number = same_int_value found.number d.number (sym tell.0 ∙ ap (λ r. column r 0) there.2) in
    let epoch : found.epoch ≡ d.epoch = same_int_value found.epoch d.epoch (sym tell.1 ∙ ap (λ r. column r 1) there.2) in
    record {
      row = d;
      only = there.1;
      number = number;
      epoch = epoch;
      has_number = rw number at (never_negative found.number tell.2);
      has_epoch = rw epoch at (never_negative found.epoch tell.3);
    }
domain_finds old new name ours (row ∷ other ∷ more) shown None tell = absurd tell
domain_finds old new name ours (row ∷ other ∷ more) shown (Some found) tell = absurd tell

pub domain_finds_in : (old new : State) (name : List ℕ) → IsKeepersStore old → (rows : List Row) → Shown show_domain (Text name ∷ []) old new rows → (r : Result (Option FoundDomain) Failure) → IfOk r (TellDomain rows)
    → IfOk r (FindsDomain name (rows_of old.now.trees))
domain_finds_in old new name ours rows shown (Ok found) tell = domain_finds old new name ours rows shown found tell
domain_finds_in old new name ours rows shown (Err e) tell = tt
