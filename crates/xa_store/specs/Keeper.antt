-- The keeper as contracts see it.
use Rattle.std.specs.Prelude.{ℕ, Bool, true, false, IsTrue, refl}
use Rattle.std.specs.Coded.{Coded, code_by, coded×, coded_ℕ, coded_bool}
use Rattle.sqlite.specs.Held.{Held, held_code, state}
use Rattle.sqlite.specs.Store.{Ghosts}
use Rattle.xa_store.specs.declared.keeper.tables.Tables.{Tables}
use Rattle.xa_store.specs.declared.keeper.tables.Tables.TheVariants.{OnlyOurs, WithOthers}
use Rattle.xa_store.specs.Sound.{IsKeepersStore, IsSoundStore}

-- the store has our tables as they are made, and no others
abbrev pub are_only_ours : Tables → Bool
are_only_ours OnlyOurs = true
are_only_ours WithOthers = false

-- The keeper: its connection; whether that was found to have our tables and no others when it was opened; whether it
-- can go on: no look at its store has failed; and how many calls failed with `Store`.
pub record Keeper (S : Type 0) : Type 0 where
  pub conn : Held S
  pub had_only_our_tables : Bool
  pub is_open : Bool
  pub faults : ℕ

abbrev pub keeper_code : {S : Type 0} → Coded S → Coded (Keeper S)
keeper_code {S} store =
    code_by (Held S × (Bool × (Bool × ℕ))) (coded× (held_code store) (coded× coded_bool (coded× coded_bool coded_ℕ)))
    (λ k. (k.conn, (k.had_only_our_tables, (k.is_open, k.faults))))
    (λ p. record { conn = p.0; had_only_our_tables = p.1.0; is_open = p.1.1.0; faults = p.1.1.1 }) (λ _. refl)

-- while its store is open, a keeper that had only our tables has them as it writes them
abbrev pub IsKeeper : {S : Type 0} → Ghosts S → Keeper S → Type 0
IsKeeper g k = IsTrue k.had_only_our_tables → IsTrue (state g k.conn).is_open → IsKeepersStore (state g k.conn)

-- the keeper has our tables and no others, its store is sound, and it can go on
abbrev pub IsSound : {S : Type 0} → Ghosts S → Keeper S → Type 0
IsSound g k = IsTrue k.had_only_our_tables × IsSoundStore (state g k.conn) × IsTrue k.is_open
