use Rattle.std.proofs.Common.{IsTrue, w64}
use Rattle.xa_store.proofs.Common.{to_z-of_z, state, rows_of}
use Rattle.xa_store.specs.keeping.Lookup.{FindsRole}
use Rattle.xa_store.proofs.AbsentLemmas.{found_absent, found_answers, found_there}
use Rattle.xa_store.proofs.change.found.role_to_change.Goals as goal

pub returns : goal.returns
returns g c =
    let n = to_z-of_z w64 c.args.number c.ranges.number in
    let found = c.in_ok-found.found in
    let finds = FindsRole c.args.number c.args.digest.now (rows_of (state g.S.Store c.args.conn.now).now.trees) in
    record {
      only_reads = record {
        quiet = c.in_ok-found.ensures.only_reads.quiet;
        opens = λ clean. rw c.ok_or.ensures.value (found_answers (IsTrue (state g.S.Store c.role_of.new.conn).is_open) found (c.in_ok-found.ensures.only_reads.opens clean));
      };
      finds = λ clean ours. rw c.ok_or.ensures.value (found_there finds found (rw n at (c.in_ok-found.ensures.finds clean ours)));
      absent = λ clean ours. rw c.ok_or.ensures.value (found_absent finds found (rw n at (c.in_ok-found.ensures.finds clean ours)));
    }
