-- A transaction that is begun and undone, over tables of any schema, and what is checked in it.
use Rattle.std.proofs.Common.{◌≡◌, ◌≢◌, ◌⊎◌, inl, inr, ℕ, List, [], codes, true, false, cond, None, Bool, Ok, Err, Result, IsTrue, IfErr, refl, sym, ap, subst, subst₂, ◌∙◌, true≢false, arith}
use Rattle.sqlite.specs.Clock.{timed}
use Rattle.xa_store.proofs.Common.{Command, Begin, Rollback, IsPlain, Row, Schema, State, HasCleanDisk, Executes, IsRolledBack, MayCommit, Survives, Trees, command_of, runs_as, survives_then, survives_weaker, OpenError, SchemaVersion, schema_of, RestsIn, SameNow}
use Rattle.sqlite.specs.Listing.{understood}
use Rattle.sqlite.specs.State.{CommitsBy, text_of}
use Rattle.sqlite_tied.specs.Compute.{everything}
use Rattle.xa_store.specs.keeping.Check.{Begins, Checked, IsIdle, IsUndone, Tested, Undoes, found_as}
use Rattle.xa_store.specs.Opening.{IsFailure, IsRefusal}
use Rattle.xa_store.specs.declared.keeper.tables.Tables.{Tables}
use Rattle.xa_store.specs.declared.keeper.tables.Tables.TheVariants.{OnlyOurs, WithOthers}

-- ---- the two statements

abbrev pub begin_text : List ℕ
begin_text = codes "BEGIN"

abbrev pub end_text : List ℕ
end_text = codes "ROLLBACK"

pub begin_is : (schema : Schema) → command_of (understood schema begin_text) ≡ Begin
unfolding understood everything
begin_is schema = refl

pub begin_plain : (schema : Schema) → IsPlain (understood schema begin_text)
unfolding understood everything
begin_plain schema = (refl, refl)

pub end_is : (schema : Schema) → command_of (understood schema end_text) ≡ Rollback
unfolding understood everything
end_is schema = refl

pub end_plain : (schema : Schema) → IsPlain (understood schema end_text)
unfolding understood everything
end_plain schema = (refl, refl)

module _ (sql : List ℕ) (params : Row) (s : State) (command : Command) (is : command_of (understood s.now.schema sql) ≡ command) (plain : IsPlain (understood s.now.schema sql)) where
  pub commits_as : (db : Trees) → CommitsBy sql params s db → (text : List ℕ) × (given : Row) × MayCommit s None command text given db
  unfolding CommitsBy
  commits_as db h =
      let full = timed params h.0.formats h.1.now in
      (text_of sql h.0, full, subst₂ (λ r k. MayCommit s r k (text_of sql h.0) full db) (subst IsPlain h.1.is plain).0 (sym (ap command_of h.1.is) ∙ is) h.2)

begins_alone : (s : State) (text : List ℕ) (params : Row) (db : Trees) → ¬ MayCommit s None Begin text params db
begins_alone s text params db (inl (inl e, is)) = absurd cc
begins_alone s text params db (inl (inr h, is)) = absurd (let e = h.2 in cc)
begins_alone s text params db (inr h) = absurd (let e = h.3 in cc)

ends_alone : (s : State) (text : List ℕ) (params : Row) (db : Trees) → IsTrue s.in_transaction → ¬ MayCommit s None Rollback text params db
ends_alone s text params db inside (inl (inl e, is)) = absurd cc
ends_alone s text params db inside (inl (inr h, is)) = absurd (let e = h.2 in cc)
ends_alone s text params db inside (inr h) = true≢false (sym inside ∙ h.0)

module _ (old new : State) where
  begin_survives : Survives old new (CommitsBy begin_text [] old) → Survives old new (λ _. ⊥)
  begin_survives survived =
      survives_weaker old new _ _ (λ _ db h. let it = commits_as begin_text [] old Begin (begin_is old.now.schema) (begin_plain old.now.schema) db h in begins_alone old it.0 it.1 db it.2) survived

  pub begun : (count : ℕ) → Survives old new (CommitsBy begin_text [] old) → (HasCleanDisk new → Executes begin_text [] old new (Ok count)) → Begins old new (Ok tt)
  begun count survived ran = record {
    survives = begin_survives survived;
    begins = λ clean. (runs_as begin_text [] old new old.now.schema refl Begin (begin_is old.now.schema) (begin_plain old.now.schema) count (ran clean)).1;
    fails = tt;
  }

  pub not_begun : (e : OpenError) → IsFailure e → Survives old new (CommitsBy begin_text [] old) → Begins old new (Err e)
  not_begun e is survived = record { survives = begin_survives survived; begins = λ clean. tt; fails = is }

  module _ (inside : IsTrue old.in_transaction) (survived : Survives old new (CommitsBy end_text [] old)) where
    end_survives : Survives old new (λ _. ⊥)
    end_survives = survives_weaker old new _ _ (λ _ db h. let it = commits_as end_text [] old Rollback (end_is old.now.schema) (end_plain old.now.schema) db h in ends_alone old it.0 it.1 db inside it.2) survived

    undone : IsRolledBack old new → IsUndone old new
    undone h = record {
      was_open = h.was_open;
      committed = λ up. (h.undone up).1;
      now = λ up. (h.undone up).0 ∙ ap (λ b. cond b old.committed old.now) (sym inside);
      idle = h.autocommit;
    }

    pub ended : (count : ℕ) → (HasCleanDisk new → Executes end_text [] old new (Ok count)) → Undoes old new (Ok tt)
    ended count ran = record {
      survives = end_survives;
      undone = λ clean. undone (runs_as end_text [] old new old.now.schema refl Rollback (end_is old.now.schema) (end_plain old.now.schema) count (ran clean)).1;
      fails = tt;
    }

    pub not_ended : (e : OpenError) → IsFailure e → Undoes old new (Err e)
    not_ended e is = record { survives = end_survives; undone = λ clean. tt; fails = is }

-- a call that leaves a connection alone
pub survives_still : (s : State) → Survives s s (λ _. ⊥)
survives_still s = record {
  clean = omega arith;
  shield = λ h. h;
  counts = omega arith;
  limit = refl;
  closes = λ clean up. inl up;
  crash = λ clean db may. inl may;
}

pub ended_before : (s : State) → s.in_transaction ≡ false → Undoes s s (Ok tt)
ended_before s idle = record {
  survives = survives_still s;
  undone = λ clean. record { was_open = λ up. up; committed = λ up. refl; now = λ up. ap (λ b. cond b s.committed s.now) (sym idle); idle = idle };
  fails = tt;
}

-- ---- what is checked in the transaction

pub fails_no_refusal : (e : OpenError) → IsFailure e → ¬ IsRefusal e
fails_no_refusal e (inl is) (inl other) = absurd cc
fails_no_refusal e (inl is) (inr other) = absurd cc
fails_no_refusal e (inr is) (inl other) = absurd cc
fails_no_refusal e (inr is) (inr other) = absurd cc

module _ (version : SchemaVersion) (a : State) (quiet : IsIdle a) (other : a.now.schema ≢ schema_of version) where
  no_rest : ¬ RestsIn (schema_of version) a
  no_rest rests = other rests.schema

  -- of an answer that isn't one of the tables of the schema alone
  tested : (d : State) (r : Result Tables OpenError) → Survives a d (λ _. ⊥) → (HasCleanDisk d → IsTrue d.is_open → IfErr r (λ e. IsRefusal e → SameNow a d)) → (r ≡ Ok WithOthers) ⊎ ((e : OpenError) × (r ≡ Err e)) → Tested version a d r
  tested d (Ok OnlyOurs) survived refused (inl is) = absurd (let e = is in cc)
  tested d (Ok OnlyOurs) survived refused (inr is) = absurd (let e = is.1 in cc)
  tested d (Ok WithOthers) survived refused is = record {
    survives = survived;
    refused = refused;
    same = λ clean rests. absurd (no_rest rests);
    opened = λ clean rests. absurd (no_rest rests);
    known = λ rests. absurd (no_rest rests);
    stays = λ clean rests. absurd (no_rest rests);
    sound = λ clean own. absurd (true≢false (sym own));
    own = λ own. absurd (true≢false (sym own));
  }
  tested d (Err e) survived refused is = record {
    survives = survived;
    refused = refused;
    same = λ clean rests. absurd (no_rest rests);
    opened = λ clean rests. absurd (no_rest rests);
    known = λ rests. tt;
    stays = λ clean rests. tt;
    sound = λ clean. tt;
    own = tt;
  }

  pub not_apart : (b : State) (e : OpenError) → Begins a b (Err e) → Tested version a b (Err e)
  not_apart b e begun = tested b (Err e) begun.survives (λ clean up refusal. absurd (fails_no_refusal e begun.fails refusal)) (inr (e, refl))

  module _ (b c d : State) (x : Unit {0}) (first : Begins a b (Ok x)) (r : Result (Unit {0}) OpenError) (check : Checked version b c r) where
    inside : HasCleanDisk b → IsTrue b.in_transaction
    inside clean = (first.begins clean).mode

    survived : (r2 : Result (Unit {0}) OpenError) → Undoes c d r2 → Survives a d (λ _. ⊥)
    survived r2 last =
        let two = survives_then b c d _ (λ _. ⊥) (λ db. b.in_transaction ≡ false) (λ _ db h. h.1) (λ _ db h. absurd h) check.asks.survives last.survives in
        survives_then a b d (λ _. ⊥) (λ db. b.in_transaction ≡ false) (λ _. ⊥) (λ _ db h. h) (λ clean db h. true≢false (sym (inside (omega (arith, two.clean, clean))) ∙ h)) first.survives two

    same : (y : Unit {0}) → Undoes c d (Ok y) → HasCleanDisk d → IsTrue d.is_open → SameNow a d
    same y last clean up =
        let at_c : HasCleanDisk c = omega (arith, last.survives.clean) in
        let at_b : HasCleanDisk b = omega (arith, check.asks.survives.clean) in
        let back = last.undone clean in
        let open_c = back.was_open up in
        let began = first.begins at_b in
        let held = check.asks.held at_c (inside at_b) open_c in
        let settled = quiet.settled began.was_open in
        let whole : (t : Bool) → c.in_transaction ≡ t → cond t c.committed c.now ≡ b.committed = λ t. elim t as (λ t. c.in_transaction ≡ t → cond t c.committed c.now ≡ b.committed) [ true ↦ λ is. held.committed | false ↦ λ is. held.undone is ] in
        record {
          now = back.now up ∙ whole c.in_transaction refl ∙ began.committed_is ∙ sym settled;
          committed = back.committed up ∙ held.committed ∙ began.committed_is;
          idle = back.idle;
        }

    pub apart_unended : (e : OpenError) → Undoes c d (Err e) → Tested version a d (Err e)
    apart_unended e last = tested d (Err e) (survived (Err e) last) (λ clean up refusal. absurd (fails_no_refusal e last.fails refusal)) (inr (e, refl))

    pub apart_sound : (y : Unit {0}) → Undoes c d (Ok y) → Tested version a d (Ok WithOthers)
    apart_sound y last = tested d (Ok WithOthers) (survived (Ok y) last) (λ clean up. tt) (inl refl)

    pub apart_refused : (e : OpenError) (y : Unit {0}) → Undoes c d (Ok y) → Tested version a d (Err e)
    apart_refused e y last = tested d (Err e) (survived (Ok y) last) (λ clean up refusal. same y last clean up) (inr (e, refl))

  -- of the answer of the check
  pub apart_told : (b c d : State) (x : Unit {0}) → Begins a b (Ok x) → (r : Result (Unit {0}) OpenError) → Checked version b c r → (y : Unit {0}) → Undoes c d (Ok y) → Tested version a d (found_as WithOthers r)
  apart_told b c d x first (Ok z) check y last = apart_sound b c d x first (Ok z) check y last
  apart_told b c d x first (Err e) check y last = apart_refused b c d x first (Err e) check e y last
