-- A table that is read row by row, from one row to the next.
use Rattle.std.proofs.Common.{◌≡◌, ◌⊎◌, inl, inr, ℕ, ℤ, w64, true, false, List, [], ◌∷◌, ◌++◌, Option, Some, None, Result, Ok, Err, IsTrue, OnOk, refl, sym, ap, subst, ◌∙◌, arith}
use Rattle.xa_store.proofs.Common.{FitsSigned, Database, GivesOn, HasBegun, IsPlain, Held, state, understood, Row, State, HasCleanDisk, IsUnchanged, IsRolledBack, Survives, FailsToQuery, Fails, Ghosts, Error, given_begin, begins_as, begun_plain, unchanged_then, survives_then, OpenError, NotThisSchema, Damaged, Store, Memory, CheckedTable, SchemaVersion, rowid_in, schema_of, RestsIn, SameNow}
use Rattle.sqlite.specs.Given.{HasGiven}
use Rattle.xa_store.specs.keeping.Check.{has_table, rows_query, AreHeld, GoesOn, HoldsBack, IsRead, IsUnguarded, Moves, error_of_check, TellsNext, Walked, Walks, is_next_sound_row}
use Rattle.xa_store.proofs.AskLemmas.{goes_then, goes_unchanged, held_rolled, held_unchanged, holds_then, rolled_same, shown_goes, shown_held, unchanged_same}
use Rattle.xa_store.proofs.AskedLemmas.{failed_fits, never_damaged, never_refused, same_then}
use Rattle.xa_store.proofs.CheckedTexts.{checked_is}
use Rattle.xa_store.proofs.QuietLemmas.{rests_after}
use Rattle.xa_store.proofs.ReadLemmas.{bare, is_read, shown_read}
use Rattle.xa_store.proofs.SqlLemmas.{answered}
use Rattle.xa_store.proofs.WalkLemmas.{Leads, leads_on, leads_to, fails_on}

pub checked_plain : (kind : CheckedTable) (version : SchemaVersion) → has_table kind version ≡ true → IsPlain (understood (schema_of version) (rows_query kind))
checked_plain kind version has = (checked_is kind version has).2

module _ {S : Type 0} (g : Ghosts S) (kind : CheckedTable) (next : ℤ) (last : Option ℤ) (old new : Held S) (sql : List ℕ) (given : List Row) where
  pub moved_ok : (o : Option Row) (r : Result (Option ℤ) OpenError) → TellsNext kind next last o r → GivesOn g sql [] old new given o → Moves g kind next last old new sql given r
  moved_ok (Some row) (Ok (Some number)) tells on = (row, on, tells.1, ap Some tells.0)
  moved_ok (Some row) (Ok None) tells on = absurd tells
  moved_ok (Some row) (Err Damaged) tells on = (row, on, tells)
  moved_ok (Some row) (Err NotThisSchema) tells on = absurd tells
  moved_ok (Some row) (Err Store) tells on = tt
  moved_ok (Some row) (Err Memory) tells on = tt
  moved_ok None (Ok (Some number)) tells on = absurd tells
  moved_ok None (Ok None) tells on = on
  moved_ok None (Err Damaged) (inl e) on = absurd cc
  moved_ok None (Err Damaged) (inr e) on = absurd cc
  moved_ok None (Err NotThisSchema) (inl e) on = absurd cc
  moved_ok None (Err NotThisSchema) (inr e) on = absurd cc
  moved_ok None (Err Store) tells on = tt
  moved_ok None (Err Memory) tells on = tt

  pub moved_err : (e : Error) (o : OpenError) → o ≡ error_of_check e → FailsToQuery sql [] (state g old) (state g new) e → Moves g kind next last old new sql given (Err o)
  moved_err e Damaged is failed = absurd (never_damaged e is)
  moved_err e NotThisSchema is failed = λ version plain rests. never_refused e (failed_fits sql [] (state g old) (state g new) e rests plain failed) is
  moved_err e Store is failed = tt
  moved_err e Memory is failed = tt

pub same_weaker : {X P : Type 0} (r : Result X OpenError) → P → OnOk r P
same_weaker (Ok x) p = p
same_weaker (Err e) p = tt

pub kept_failed : (old new : State) (e : Error) → Fails old new ⊥ e ⊎ IsUnchanged old new → IsUnchanged old new ⊎ IsRolledBack old new
kept_failed old new e (inl h) = inr h.3
kept_failed old new e (inr h) = inl h

held_on : (given : List Row) (row : Row) → AreHeld given → FitsSigned w64 (rowid_in row) → AreHeld (given ++ row ∷ [])
held_on [] row all fits = (fits, tt)
held_on (r ∷ given) row all fits = (all.0, held_on given row all.1 fits)

-- the walk goes on from there, and in a transaction it commits nothing
abbrev pub Keeps : SchemaVersion → State → State → Type 0
Keeps version first s = HasCleanDisk s → GoesOn version first s × (IsTrue first.in_transaction → HoldsBack first s)

-- where a walk stands: the rows that were given, of which the last is known
abbrev pub Stands : {S : Type 0} → Ghosts S → SchemaVersion → CheckedTable → ℤ → State → Held S → Option ℤ → Type 0
Stands g version kind next first h last = HasCleanDisk (state g h) → RestsIn (schema_of version) first → (given : List Row) × HasGiven g (rows_query kind) [] h given × IsUnchanged first (state g h) × Leads kind next given last × AreHeld given

module _ {S : Type 0} (g : Ghosts S) (version : SchemaVersion) (kind : CheckedTable) (has : has_table kind version ≡ true) (next : ℤ) (first : Held S) where
  abbrev start : State
  start = state g first

  pub stands_begun : (new : Held S) → (HasCleanDisk (state g new) → HasBegun g (rows_query kind) [] first new) → Stands g version kind next start new None
  stands_begun new begun clean rests =
      let plain = subst (λ s. IsPlain (understood s (rows_query kind))) (sym rests.schema) (checked_plain kind version has) in
      let it = begun_plain g (rows_query kind) [] first new plain (begun clean) in
      ([], it.0, it.1, λ tail. refl, tt)

  pub keeps_begun : (new : Held S) → (HasCleanDisk (state g new) → HasBegun g (rows_query kind) [] first new) → Keeps version start (state g new)
  keeps_begun new begun clean = elim (begun clean) [
    | inl h ↦ (goes_unchanged start (state g new) h.1, λ inside. held_unchanged start (state g new) inside h.1)
    | inr h ↦ (shown_goes (rows_query kind) [] start (state g new) _ (checked_plain kind version has) h.1, λ inside. shown_held (rows_query kind) [] start (state g new) _ inside h.1)
  ]

  module _ (mid new : Held S) (last : Option ℤ) (survived : Survives start (state g mid) (λ db. IsUnguarded version start)) (keeps : Keeps version start (state g mid)) (stands : Stands g version kind next start mid last)
      (kept : HasCleanDisk (state g new) → IsUnchanged (state g mid) (state g new) ⊎ IsRolledBack (state g mid) (state g new)) (on : Survives (state g mid) (state g new) (λ _. ⊥)) where
    before : HasCleanDisk (state g new) → HasCleanDisk (state g mid)
    before clean = omega (arith, on.clean)

    pub survived_on : Survives start (state g new) (λ db. IsUnguarded version start)
    survived_on = survives_then start (state g mid) (state g new) (λ db. IsUnguarded version start) (λ _. ⊥) (λ db. IsUnguarded version start) (λ _ db h. h) (λ _ db h. absurd h) survived on

    was_open : HasCleanDisk (state g new) → IsTrue (state g new).is_open → IsTrue start.is_open
    was_open clean up = (keeps (before clean)).0.was_open

    held_on_to : HasCleanDisk (state g new) → IsTrue start.in_transaction → IsTrue (state g new).is_open → HoldsBack start (state g new)
    held_on_to clean inside up =
        let here = keeps (before clean) in
        let still = here.0.mode ∙ inside in
        holds_then start (state g mid) (state g new) (here.1 inside) (elim (kept clean) [ inl h ↦ held_unchanged (state g mid) (state g new) still h | inr h ↦ held_rolled (state g mid) (state g new) h up ])

    pub keeps_on : (HasCleanDisk (state g new) → IsUnchanged (state g mid) (state g new)) → Keeps version start (state g new)
    keeps_on same clean =
        let here = keeps (before clean) in
        let it = same clean in (
          goes_then start (state g mid) (state g new) here.0 (goes_unchanged (state g mid) (state g new) it),
          λ inside. held_on_to clean inside it.0.is_open,
        )

    same_mid : HasCleanDisk (state g new) → RestsIn (schema_of version) start → SameNow start (state g mid)
    same_mid clean rests = unchanged_same start (state g mid) rests (stands (before clean) rests).2

    same_on : HasCleanDisk (state g new) → RestsIn (schema_of version) start → IsTrue (state g new).is_open → SameNow start (state g new)
    same_on clean rests up =
        let here = same_mid clean rests in
        let there = rests_after start (state g mid) rests here in
        same_then start (state g mid) (state g new) here (elim (kept clean) [ inl h ↦ unchanged_same (state g mid) (state g new) there h | inr h ↦ rolled_same (state g mid) (state g new) there h up ])

    -- of a row that doesn't fit
    unfit : HasCleanDisk (state g new) → RestsIn (schema_of version) start → (given : List Row) → Leads kind next given last → (row : Row) → HasGiven g (rows_query kind) [] new (given ++ row ∷ []) → is_next_sound_row kind next last row ≡ false
        → Walks kind next start.now.trees (Err Damaged)
    unfolding HasGiven
    unfit clean rests given leads row shows fails =
        let same = same_on clean rests shows.0.is_open in
        let there = rests_after start (state g new) rests same in
        let begins = given_begin g (rows_query kind) [] new (given ++ row ∷ []) shows in
        let it = checked_is kind version has in
        let read = begins_as (rows_query kind) [] (state g new) (state g new) (schema_of version) there.schema _ it.0 it.2 it.1 (given ++ row ∷ []) begins in
        let all = (given ++ row ∷ []) ++ read.1.0 in
        let is = is_read kind (state g new).now.trees all (answered _ [] _ (0 ∷ []) (state g new).now.trees (bare kind (state g new).now.trees) [] all read.1.1) in
        (all, subst (λ (d : Database). IsRead kind d.trees all) same.now is, fails_on kind next given last leads row fails read.1.0)

    abbrev Moved : Result (Option ℤ) OpenError → Type 0
    Moved r = HasCleanDisk (state g new) → (sql : List ℕ) (given : List Row) → HasGiven g sql [] mid given → Moves g kind next last mid new sql given r

    found : (e : OpenError) → Moved (Err e) → HasCleanDisk (state g new) → RestsIn (schema_of version) start → Walks kind next start.now.trees (Err e)
    found Damaged moved clean rests =
        let it = stands (before clean) rests in
        let row = moved clean (rows_query kind) it.0 it.1 in
        unfit clean rests it.0 it.3 row.0 row.1 row.2
    found NotThisSchema moved clean rests =
        let it = stands (before clean) rests in
        moved clean (rows_query kind) it.0 it.1 version (checked_plain kind version has) (rests_after start (state g mid) rests (same_mid clean rests))
    found Store moved clean rests = tt
    found Memory moved clean rests = tt

    pub walk_stopped : (e : OpenError) → Moved (Err e) → Walked version kind next start (state g new) (Err e)
    walk_stopped e moved = record { asks = record { survives = survived_on; was_open = was_open; same = same_on; held = held_on_to; goes_on = λ clean. tt }; finds = found e moved }

    pub walk_ended : Moved (Ok None) → (HasCleanDisk (state g new) → IsUnchanged (state g mid) (state g new)) → Walked version kind next start (state g new) (Ok tt)
    walk_ended moved same = record {
      asks = record { survives = survived_on; was_open = was_open; same = same_on; held = held_on_to; goes_on = λ clean. (keeps_on same clean).0 };
      finds = λ clean rests.
          let it = stands (before clean) rests in
          let here = same_mid clean rests in
          let shown = moved clean (rows_query kind) it.0 it.1 in
          let is = shown_read kind version has (state g mid) (state g new) (rests_after start (state g mid) rests here) it.0 shown in
          (it.0, subst (λ (d : Database). IsRead kind d.trees it.0) here.now is, leads_to kind next it.0 last it.3, it.4);
    }

    pub walk_goes_on : (number : ℤ) → FitsSigned w64 number → Moved (Ok (Some number)) → (HasCleanDisk (state g new) → IsUnchanged (state g mid) (state g new)) → Stands g version kind next start new (Some number)
    walk_goes_on number fits moved same clean rests =
        let it = stands (before clean) rests in
        let row = moved clean (rows_query kind) it.0 it.1 in
        let is : number ≡ rowid_in row.0 = (let e = row.3 in cc) in (
          it.0 ++ row.0 ∷ [],
          row.1,
          unchanged_then start (state g mid) (state g new) it.2 (same clean),
          subst (Leads kind next (it.0 ++ row.0 ∷ [])) (sym row.3) (leads_on kind next it.0 last it.3 row.0 row.2),
          held_on it.0 row.0 it.4 (subst (FitsSigned w64) is fits),
        )
