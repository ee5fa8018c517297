use Rattle.std.proofs.Common.{rules, ◌≡◌, ◌∙◌, Err, ap}
use Rattle.xa_link.specs.placing.Reach.{named_by, some_named_by}
use Rattle.xa_link.proofs.GatherLemmas.{gathers_then, kept_reads, named_set, reads_one_more, refuses_one_more}
use Rattle.xa_link.proofs.ReadingLemmas.{counted_err, counted_same}
use Rattle.xa_link.proofs.reach.+naming.Goals as goal

pub read_named_by_all-loop-part-preserved : goal.read_named_by_all-loop-part-preserved
read_named_by_all-loop-part-preserved t c = (
  c.in_ok-read_named.ensures.kept ∙ c.loop-part.invariant.0,
  reads_one_more c.args.parts.now c.loop-part.part-index c.part-item.result c.loop-part-test.true c.part-item.is
      c.args.resolved.now c.loop-part.resolved c.args.reader.now c.loop-part.reader c.loop-part.invariant.1
      c.read_named.new.resolved c.read_named.new.reader c.in_ok-read_named.ensures.read,
  gathers_then c.args.resolved.now c.loop-part.resolved c.read_named.new.resolved c.args.found.now.items c.loop-part.found.items c.read_named.new.found.items
      (kept_reads (named_by c.part-item.result) c.loop-part.resolved c.read_named.new.resolved c.loop-part.reader c.read_named.new.reader c.in_ok-read_named.ensures.read)
      c.in_ok-read_named.ensures.kept c.loop-part.invariant.2 c.in_ok-read_named.ensures.found,
)

pub read_named_by_all-returns-in_err-read_named-clause-read : goal.read_named_by_all-returns-in_err-read_named-clause-read
read_named_by_all-returns-in_err-read_named-clause-read t c =
    let fails : c.from_residual.result ≡ Err c.in_err-read_named.field-0.0 = search rules in
    counted_err (some_named_by c.args.parts.now) c.args.resolved.now c.read_named.new.resolved c.args.reader.now c.read_named.new.reader
    c.from_residual.result c.in_err-read_named.field-0.0 fails
    (refuses_one_more c.args.parts.now c.loop-part.part-index c.part-item.result c.loop-part-test.true c.part-item.is
    c.args.resolved.now c.loop-part.resolved c.args.reader.now c.loop-part.reader c.loop-part.invariant.1
    c.read_named.new.reader c.loop-part.invariant.0 c.in_err-read_named.ensures.read)

pub read_named-returns-in-PolicySet-clause-read : goal.read_named-returns-in-PolicySet-clause-read
read_named-returns-in-PolicySet-clause-read t c =
    let children : c.as_slice.result.now ≡ c.in-PolicySet.children = search rules in
    counted_same (some_named_by c.as_slice.result.now) (named_by c.args.document.now) c.args.resolved.now c.read_named_by_all.new.resolved
    c.args.reader.now c.read_named_by_all.new.reader c.read_named_by_all.result c.read_named_by_all.ensures.read
    (λ place. ap (λ ds. some_named_by ds place) children ∙ named_set c.args.document.now c.in-PolicySet.field-0 c.in-PolicySet.children c.in-PolicySet.is place)
