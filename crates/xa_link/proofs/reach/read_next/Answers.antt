use Rattle.std.proofs.Common.{rules, ◌≡◌, ◌∙◌, [], Err, subst}
use Rattle.xa_link.specs.placing.Progress.{Reads, Refuses}
use Rattle.xa_link.specs.placing.Reach.{named_by, some_named_by}
use Rattle.xa_link.proofs.GatherLemmas.{gathers_then, kept_reads, reads_one_more, refuses_one_more}
use Rattle.xa_link.proofs.ReadingLemmas.{counted_err}
use Rattle.xa_link.proofs.reach.read_next.Goals as goal

pub loop-document-preserved : goal.loop-document-preserved
loop-document-preserved c =
    let same : c.get.result.now ≡ c.document-item.result = search rules in
    let reads : Reads (named_by c.document-item.result) c.loop-document.resolved c.read_named.new.resolved c.loop-document.reader c.read_named.new.reader =
    subst (λ d. Reads (named_by d) c.loop-document.resolved c.read_named.new.resolved c.loop-document.reader c.read_named.new.reader) same c.in_ok-read_named.ensures.read in (
      c.in_ok-read_named.ensures.kept ∙ c.loop-document.invariant.0,
      reads_one_more c.args.documents.now c.loop-document.document-index c.document-item.result c.loop-document-test.true c.document-item.is
          c.args.resolved.now c.loop-document.resolved c.args.reader.now c.loop-document.reader c.loop-document.invariant.1
          c.read_named.new.resolved c.read_named.new.reader reads,
      gathers_then c.args.resolved.now c.loop-document.resolved c.read_named.new.resolved [] c.loop-document.found.items c.read_named.new.found.items
          (kept_reads (named_by c.document-item.result) c.loop-document.resolved c.read_named.new.resolved c.loop-document.reader c.read_named.new.reader reads)
          c.in_ok-read_named.ensures.kept c.loop-document.invariant.2 c.in_ok-read_named.ensures.found,
    )

pub returns-in_err-read_named-clause-read : goal.returns-in_err-read_named-clause-read
returns-in_err-read_named-clause-read c =
    let fails : c.from_residual.result ≡ Err c.in_err-read_named.field-0.0 = search rules in
    let same : c.get.result.now ≡ c.document-item.result = search rules in
    let refuses : Refuses (named_by c.document-item.result) c.loop-document.resolved c.loop-document.reader c.read_named.new.reader =
    subst (λ d. Refuses (named_by d) c.loop-document.resolved c.loop-document.reader c.read_named.new.reader) same c.in_err-read_named.ensures.read in
    counted_err (some_named_by c.args.documents.now) c.args.resolved.now c.read_named.new.resolved c.args.reader.now c.read_named.new.reader
    c.from_residual.result c.in_err-read_named.field-0.0 fails
    (refuses_one_more c.args.documents.now c.loop-document.document-index c.document-item.result c.loop-document-test.true c.document-item.is
    c.args.resolved.now c.loop-document.resolved c.args.reader.now c.loop-document.reader c.loop-document.invariant.1
    c.read_named.new.reader c.loop-document.invariant.0 refuses)
