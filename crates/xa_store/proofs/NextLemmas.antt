-- What the look for the next number finds.
use Rattle.std.proofs.Common.{◌≡◌, ℤ, pos, List, [], ◌∷◌, filter, false, true, cond, Result, Ok, Err, IfOk, refl, sym, ap, subst, ◌∙◌}
use Rattle.xa_store.proofs.Common.{Row, State, Shown, Trees, Int, IsPlain, understood, col, reads_as, Eq, at_ints, last_term, Failure, meta_row, next_in, IsKeepersStore, schema_2, rows_of}
use Rattle.xa_store.specs.keeping.Lookup.{IsNext, TellNext}
use Rattle.xa_store.specs.keeping.Texts.{show_next_number}
use Rattle.xa_store.proofs.DomainLemmas.{never_negative, same_int_value}
use Rattle.xa_store.proofs.SqlLemmas.{Answered, answered, hits, one_hit}
use Rattle.xa_store.proofs.TextLemmas.{is_one, show_next_number_is}

pub next_plain : IsPlain (understood schema_2 show_next_number)
next_plain = show_next_number_is.2

module _ (old new : State) (ours : IsKeepersStore old) (rows : List Row) (shown : Shown show_next_number [] old new rows) where
  abbrev db : Trees
  db = old.now.trees

  abbrev next : ℤ
  next = next_in (db 0)

  answer : Answered 0 (is_one 0 ∷ []) (col 1 3 ∷ []) [] db refl [] rows
  answer =
      answered 0 (is_one 0 ∷ []) (col 1 3 ∷ []) [] db refl [] rows
      (reads_as show_next_number [] old new schema_2 ours.rests.schema _ show_next_number_is.0 show_next_number_is.2 show_next_number_is.1 rows shown).answer

  hit : hits 0 (is_one 0 ∷ []) (col 1 3 ∷ []) [] db refl [] (meta_row next) ≡ true
  hit = last_term (at_ints false Eq (pos 1) (pos 1))

  meta_hit : filter (hits 0 (is_one 0 ∷ []) (col 1 3 ∷ []) [] db refl []) (db 0) ≡ meta_row next ∷ []
  meta_hit = ap (filter (hits 0 (is_one 0 ∷ []) (col 1 3 ∷ []) [] db refl [])) ours.tables.meta ∙ ap (λ b. cond b (meta_row next ∷ []) []) hit

  next_there : rows ≡ (Int next ∷ []) ∷ []
  next_there = one_hit 0 (is_one 0 ∷ []) (col 1 3 ∷ []) [] db refl [] rows (meta_row next) meta_hit answer

  next_finds : (number : ℤ) → TellNext rows number → IsNext (rows_of db) number
  next_finds number tell =
      let told = subst (λ l. TellNext l number) next_there tell in
      record { same = sym (same_int_value next number told.0); has_number = never_negative number told.1 }

  pub next_finds_in : (r : Result ℤ Failure) → IfOk r (TellNext rows) → IfOk r (IsNext (rows_of db))
  next_finds_in (Ok number) tell = next_finds number tell
  next_finds_in (Err e) tell = tt
