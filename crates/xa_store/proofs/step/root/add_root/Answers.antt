use Rattle.std.proofs.Common.{w64, refl, option_map, [], ◌∷◌}
use Rattle.xa_store.proofs.Common.{to_z-of_z, state, pattern_text, version_text, RootRow}
use Rattle.xa_store.specs.declared.step.Step.TheVariants.{AddRoot}
use Rattle.xa_store.specs.Rows.{root_of}
use Rattle.xa_store.proofs.StepLemmas.{root_added_stepped}
use Rattle.xa_store.proofs.ColumnNumbers.{of_kind}
use Rattle.xa_store.proofs.TakeLemmas.{took_ok}
use Rattle.xa_store.proofs.step.root.add_root.Goals as goal

pub returns-clause-taken : goal.returns-clause-taken
unfolding root_of
returns-clause-taken g c =
    let old = state g.S.Store c.args.tx.now.conn.now in
    let new = state g.S.Store c.execute_in.new.tx.conn.now in
    let n = to_z-of_z w64 c.args.number c.ranges.number in
    let root = c.args.root.now in
    let pattern = option_map pattern_text root.version in
    let earliest = option_map version_text root.earliest in
    let latest = option_map version_text root.latest in
    let row : RootRow = record { number = c.args.number; kind = root.kind; id = root.id; texts = pattern ∷ earliest ∷ latest ∷ [] } in
    record {
      stays = c.execute_in.ensures.stays;
      takes = λ clean inside allows.
          took_ok old new (AddRoot c.args.number root) c.execute_in.result (c.execute_in.ensures.stays.inside clean inside.inside) (c.execute_in.ensures.runs clean inside.inside)
          (λ ran. root_added_stepped old new inside.schema ran.0 inside.tables c.args.number root row pattern earliest latest refl refl (rw (n, (of_kind root.kind).held) at (rw (c.text_or_null.ensures, c.text_or_null-2.ensures, c.text_or_null-3.ensures, c.kind_number.ensures, c.as_bytes.ensures, c.in_ok-pattern.ensures, c.in_ok-earliest.ensures, c.in_ok-latest.ensures) at ran.1)) refl);
    }
