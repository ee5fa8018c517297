use Rattle.std.proofs.Common.{◌≡◌, None, Some, rules, SFits, w64, ap, subst, ◌∙◌}
use Rattle.xa_store.proofs.Common.{to_z-of_z, state, listing_of_state, rows_of, state_at}
use Rattle.xa_store.specs.keeping.Lookup.{FindsDomain}
use Rattle.xa_store.proofs.QuietLemmas.{ours_between, rows_between}
use Rattle.xa_store.proofs.ReadingLemmas.{listing_absent, listing_there}
use Rattle.xa_store.proofs.query.reading.listing_by_name.Goals as goal

pub returns-in_default-clause-reads : goal.returns-in_default-clause-reads
returns-in_default-clause-reads g c clean ours =
    let none : c.in_ok-found.found ≡ None = search rules in
    let rows = rows_of (state g.S.Store c.args.conn.now).now.trees in
    listing_absent rows c.args.name.now (subst (FindsDomain c.args.name.now rows) none (c.in_ok-found.ensures.finds clean ours))

pub returns-clause-reads : goal.returns-clause-reads
returns-clause-reads g c clean ours =
    let old = state g.S.Store c.args.conn.now in
    let middle = state g.S.Store c.domain_named.new.conn in
    let new = state g.S.Store c.documents_of.new.conn in
    let name = c.args.name.now in
    let domain = c.in-Some.domain in
    let n = (let fits : SFits w64 domain.number = search rules in to_z-of_z w64 domain.number fits) in
    let first = c.in_ok-found.ensures.only_reads.quiet in
    let opens = c.in_ok-found.ensures.only_reads.opens in
    let second = c.in_ok-listed.ensures.only_reads.quiet in
    let there : c.in_ok-found.found ≡ Some domain = search rules in
    let is = subst (FindsDomain name (rows_of old.now.trees)) there (c.in_ok-found.ensures.finds (second.clean clean) ours) in
    let between = ours_between old middle new first opens second clean ours in
    let same = rows_between old middle new first opens second clean ours in
    listing_there (rows_of old.now.trees) name domain is c.in_ok-listed.listed ((rw n at (c.in_ok-listed.ensures.reads clean between)) ∙ ap (λ w. listing_of_state (state_at w domain.number)) same)
