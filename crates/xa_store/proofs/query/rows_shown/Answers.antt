use Rattle.std.proofs.Common.{⊎_elim, sym, subst, arith}
use Rattle.xa_store.proofs.Common.{IsPlain, understood, state, never_commits, clean_if_open}
use Rattle.sqlite.specs.Values.{bound}
use Rattle.xa_store.proofs.AskLemmas.{asked_open, asked_same, asked_stays}
use Rattle.xa_store.proofs.query.rows_shown.Goals as goal

pub returns-clause-only_reads : goal.returns-clause-only_reads
returns-clause-only_reads g c =
    let sql = c.args.sql.now in
    let given = bound c.args.given.now in
    let new = c.query_all.new.self in
    record {
      quiet = record {
        was_open = λ up.
            let clean = clean_if_open (g.S.Store.view new.store) (g.met.S.Store.shut_if_dirty new.store) up in
            asked_open (λ rows. rows.items) sql given _ (state g.S.Store new) c.query_all.result (c.query_all.ensures.ok clean) (c.query_all.ensures.err clean) up;
        clean = λ clean. omega (arith, c.query_all.ensures.survives.clean);
        same = λ clean rests up.
            asked_same (λ rows. rows.items) sql given _ _ c.query_all.result rests c.requires (c.query_all.ensures.ok clean) (c.query_all.ensures.err clean) up;
        crash = λ clean rests db may.
            let plain = subst (λ s. IsPlain (understood s sql)) (sym rests.schema) c.requires in
            ⊎_elim (λ was. was) (λ commits. absurd (never_commits sql given _ db plain commits)) (c.query_all.ensures.survives.crash clean db may);
      };
      opens = λ clean. asked_stays (λ rows. rows.items) sql given _ _ c.query_all.result (c.query_all.ensures.ok clean);
    }
