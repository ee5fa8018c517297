use Rattle.std.proofs.Common.{◌≡◌, Err, Result, Some, Option, rules, subst, sym}
use Rattle.pdpd.specs.declared.replay.heading.Heading.{Heading}
use Rattle.pdpd.specs.declared.replay.transcript.EntryFault.{EntryFault}
use Rattle.pdpd.specs.running.Reading.{TakesHeading, remaining_of}
use Rattle.pdpd.specs.Transcript.{IsNoEntry, Rejects, TakesEntry, TakesOrRejects}
use Rattle.pdpd.proofs.ReadingLemmas.{entry_done, entry_wrong}
use Rattle.pdpd.proofs.replay.transcript.Transcript.next_entry.Goals as goal

pub returns-in_err-body : goal.returns-in_err-body
returns-in_err-body g c =
    let left = remaining_of g.R.Read.remaining c.args.self.now in
    let mid = remaining_of g.R.Read.remaining c.next_heading.new.self in
    let rest = remaining_of g.R.Read.remaining c.body.new.self in
    let bytes = c.body.new.bytes.items in
    let heading : TakesHeading left mid (Some c.in-Some.heading) = rw c.in-Some.is at c.in_ok-heading.ensures in
    let same : c.from_residual-in_err-body.result ≡ Err c.in_err-body.field-0.0 = search rules in
    subst (λ (r : Result (Option Heading) EntryFault). TakesOrRejects (TakesEntry left rest bytes) (Rejects IsNoEntry left rest) r) (sym same)
    (entry_wrong left mid rest c.in-Some.heading bytes bytes c.in_err-body.field-0.0 heading c.in_err-body.ensures)

pub returns : goal.returns
returns g c =
    let left = remaining_of g.R.Read.remaining c.args.self.now in
    let mid = remaining_of g.R.Read.remaining c.next_heading.new.self in
    let rest = remaining_of g.R.Read.remaining c.body.new.self in
    let heading : TakesHeading left mid (Some c.in-Some.heading) = rw c.in-Some.is at c.in_ok-heading.ensures in
    entry_done left mid rest c.in-Some.heading c.body.new.bytes.items heading c.in_ok-body.ensures
