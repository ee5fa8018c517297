use Rattle.std.proofs.Common.{◌≡◌, true, ◌∙◌, ℕ, ℤ, inl, inr, List, [], Option, Result, Ok, Err, refl, sym, subst, subst₂, rules, w64}
use Rattle.xa_store.proofs.Common.{to_z-of_z, FitsSigned, HasGiven, Held, state, Row, State, HasCleanDisk, FailsToQuery, Survives, CommitsShowing, Ghosts, Trees, Error, OpenError, CheckedTable, SchemaVersion}
use Rattle.xa_store.specs.keeping.Check.{has_table, error_of_check, rows_query, Moves, Walked, Walks}
use Rattle.xa_store.specs.Opening.{IsFailure}
use Rattle.xa_store.proofs.AskedLemmas.{a_failure, failed_fits, not_asked, survives_asked}
use Rattle.xa_store.proofs.StreamLemmas.{checked_plain, keeps_begun, keeps_on, stands_begun, survived_on, walk_ended, walk_goes_on, walk_stopped}
use Rattle.xa_store.proofs.check.cursor.walk.Goals as goal

walks_failed : (kind : CheckedTable) (next : ℤ) (db : Trees) (e : OpenError) → IsFailure e → Walks kind next db (Err e)
walks_failed kind next db e (inl is) = subst (λ o. Walks kind next db (Err o)) (sym is) tt
walks_failed kind next db e (inr is) = subst (λ o. Walks kind next db (Err o)) (sym is) tt

not_walked : (version : SchemaVersion) (kind : CheckedTable) → has_table kind version ≡ true → (next : ℤ) (old new : State) (e : Error) → Survives old new (CommitsShowing (rows_query kind) [] old)
    → (HasCleanDisk new → FailsToQuery (rows_query kind) [] old new e) → Walked version kind next old new (Err (error_of_check e))
not_walked version kind has next old new e survives failed = record {
  asks = not_asked (rows_query kind) [] old new version (checked_plain kind version has) survives e (error_of_check e) failed;
  finds = λ clean rests. walks_failed kind next old.now.trees (error_of_check e) (a_failure e (failed_fits (rows_query kind) [] old new e rests (checked_plain kind version has) (failed clean)));
}

-- what is known of a row that is asked for
abbrev Moved : {S : Type 0} → Ghosts S → CheckedTable → ℤ → Option ℤ → Held S → Held S → Result (Option ℤ) OpenError → Type 0
Moved g kind next last old new r = HasCleanDisk (state g new) → (sql : List ℕ) → (given : List Row) → HasGiven g sql [] old given → Moves g kind next last old new sql given r

pub returns-in-Err : goal.returns-in-Err
returns-in-Err g c =
    let e = c.in-Err.error in
    let old = state g.S.Store c.args.conn.now in
    let new = state g.S.Store c.query.follows.lender-at-none in
    let refused = rw (c.rows_query.ensures, c.in-Err.is) at c.query.follows.holds-at-none in
    subst (λ o. Walked c.args.checking.version c.args.table c.args.checking.next_domain old new (Err o)) (sym c.error_of_check.ensures)
    (not_walked c.args.checking.version c.args.table c.requires c.args.checking.next_domain old new e refused.survives refused.err)

pub rows-init : goal.rows-init
rows-init g c =
    let made = c.in-Ok.ensures in (
      refl,
      survives_asked (rows_query c.args.table) [] (state g.S.Store c.args.conn.now) _ c.args.checking.version (checked_plain c.args.table c.args.checking.version c.requires) (rw c.rows_query.ensures at made.survives),
      keeps_begun g.S.Store c.args.checking.version c.args.table c.requires c.args.checking.next_domain c.args.conn.now c.in-Ok.rows.conn.now (rw c.rows_query.ensures at made.begun),
      stands_begun g.S.Store c.args.checking.version c.args.table c.requires _ c.args.conn.now c.in-Ok.rows.conn.now (rw c.rows_query.ensures at made.begun),
    )

pub returns-in_err-rowid : goal.returns-in_err-rowid
returns-in_err-rowid g c =
    let held = to_z-of_z w64 c.args.checking.next_domain (search rules) in
    let told = c.in_err-rowid.ensures in
    let last = c.rowid_of_next.new.rows.conn.now in
    let same : last ≡ c.conn-in_err-rowid-1.given.0 = search rules in
    let is : c.from_residual.result ≡ Err c.in_err-rowid.field-0.0 = search rules in
    rw is (subst (λ h. Walked c.args.checking.version c.args.table c.args.checking.next_domain (state g.S.Store c.args.conn.now) (state g.S.Store h) (Err c.in_err-rowid.field-0.0)) same
    (walk_stopped g.S.Store c.args.checking.version c.args.table c.requires c.args.checking.next_domain c.args.conn.now c.rows.rows.conn.now last c.rows.last c.rows.invariant.1 c.rows.invariant.2 c.rows.invariant.3 told.kept told.survives c.in_err-rowid.field-0.0
    (subst (λ n. Moved g.S.Store c.args.table n c.rows.last c.rows.rows.conn.now last (Err c.in_err-rowid.field-0.0)) held told.moves)))

pub returns-in-None : goal.returns-in-None
returns-in-None g c =
    let held = to_z-of_z w64 c.args.checking.next_domain (search rules) in
    let told = c.in_ok-rowid.ensures in
    let last = c.rowid_of_next.new.rows.conn.now in
    let same : last ≡ c.conn-in-None-1.given.0 = search rules in
    subst (λ h. Walked c.args.checking.version c.args.table c.args.checking.next_domain (state g.S.Store c.args.conn.now) (state g.S.Store h) (Ok tt)) same
    (walk_ended g.S.Store c.args.checking.version c.args.table c.requires c.args.checking.next_domain c.args.conn.now c.rows.rows.conn.now last c.rows.last c.rows.invariant.1 c.rows.invariant.2 c.rows.invariant.3 told.kept told.survives
    (subst₂ (λ n o. Moved g.S.Store c.args.table n c.rows.last c.rows.rows.conn.now last (Ok o)) held c.in-None.is told.moves) told.same)

pub rows-preserved : goal.rows-preserved
rows-preserved g c =
    let held = to_z-of_z w64 c.args.checking.next_domain (search rules) in
    let told = c.in_ok-rowid.ensures in
    let last = c.rowid_of_next.new.rows.conn.now in
    let fits : FitsSigned w64 c.in-Some.rowid = search rules in
    let moved = subst₂ (λ n o. Moved g.S.Store c.args.table n c.rows.last c.rows.rows.conn.now last (Ok o)) held c.in-Some.is told.moves in
    let on = walk_goes_on g.S.Store c.args.checking.version c.args.table c.requires c.args.checking.next_domain c.args.conn.now c.rows.rows.conn.now last c.rows.last c.rows.invariant.1 c.rows.invariant.2 c.rows.invariant.3 told.kept told.survives c.in-Some.rowid fits moved told.same in
    rw (to_z-of_z w64 c.in-Some.rowid fits) (
      told.same_reference ∙ c.rows.invariant.0,
      survived_on g.S.Store c.args.checking.version c.args.table c.requires c.args.checking.next_domain c.args.conn.now c.rows.rows.conn.now last c.rows.last c.rows.invariant.1 c.rows.invariant.2 c.rows.invariant.3 told.kept told.survives,
      keeps_on g.S.Store c.args.checking.version c.args.table c.requires c.args.checking.next_domain c.args.conn.now c.rows.rows.conn.now last c.rows.last c.rows.invariant.1 c.rows.invariant.2 c.rows.invariant.3 told.kept told.survives told.same,
      on,
    )
