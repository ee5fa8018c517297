use Rattle.std.proofs.Common.{IsTrue}
use Rattle.xa_store.proofs.Common.{state, rows_of}
use Rattle.xa_store.specs.keeping.Lookup.{FindsDomain}
use Rattle.xa_store.proofs.AbsentLemmas.{found_absent, found_answers, found_there}
use Rattle.xa_store.proofs.change.found.domain_to_change.Goals as goal

pub returns : goal.returns
returns g c =
    let found = c.in_ok-found.found in
    let finds = FindsDomain c.args.name.now (rows_of (state g.S.Store c.args.conn.now).now.trees) in
    record {
      only_reads = record {
        quiet = c.in_ok-found.ensures.only_reads.quiet;
        opens = λ clean. rw c.ok_or.ensures.value (found_answers (IsTrue (state g.S.Store c.domain_named.new.conn).is_open) found (c.in_ok-found.ensures.only_reads.opens clean));
      };
      finds = λ clean ours. rw c.ok_or.ensures.value (found_there finds found (c.in_ok-found.ensures.finds clean ours));
      absent = λ clean ours. rw c.ok_or.ensures.value (found_absent finds found (c.in_ok-found.ensures.finds clean ours));
    }
