-- Round by round.
use Rattle.std.proofs.Common.{rules, ◌≡◌, ◌∙◌, ℕ, suc, ◌+◌, ◌≤◌, [], Err, subst, arith}
use Rattle.std.specs.Prelude.{◌||◌}
use Rattle.xa_link.specs.placing.Progress.{Reads, Refuses, is_read}
use Rattle.xa_link.specs.placing.Reach.{Gathers, some_named_by}
use Rattle.xa_link.proofs.GatherLemmas.{first_reads, first_refuses, first_round, next_round, reads_round, refuses_round, were_led}
use Rattle.xa_link.proofs.ReachLemmas.{led}
use Rattle.xa_link.proofs.ReadingLemmas.{counted_err}
use Rattle.xa_link.proofs.reach.read_from.Goals as goal

pub returns-in_err-read_new-clause-read : goal.returns-in_err-read_new-clause-read
returns-in_err-read_new-clause-read c =
    let fails : c.from_residual.result ≡ Err c.in_err-read_new.field-0.0 = search rules in
    counted_err (led c.args.resolved.now.active c.args.place 17) c.args.resolved.now c.read_new.new.resolved c.args.reader.now c.read_new.new.reader
    c.from_residual.result c.in_err-read_new.field-0.0 fails
    (first_refuses c.args.resolved.now.active c.args.place c.args.resolved.now c.read_new.new.resolved c.args.reader.now c.read_new.new.reader c.requires c.in_err-read_new.ensures.read)

pub loop-depth-init : goal.loop-depth-init
loop-depth-init c =
    let gathers : Gathers c.args.resolved.now c.read_new.new.resolved [] c.read_new.new.found.items = search rules in
    let one : 1 ≤ 17 = omega arith in (
      c.in_ok-read_new.ensures.kept,
      one,
      first_reads c.args.resolved.now.active c.args.place c.args.resolved.now c.read_new.new.resolved c.args.reader.now c.read_new.new.reader c.requires c.in_ok-read_new.ensures.read,
      first_round c.args.resolved.now.active c.args.place c.args.resolved.now c.read_new.new.resolved c.args.reader.now c.read_new.new.reader c.requires
          c.read_new.new.found.items c.in_ok-read_new.ensures.kept c.in_ok-read_new.ensures.read gathers,
    )

pub loop-depth-preserved : goal.loop-depth-preserved
loop-depth-preserved c =
    let active = c.args.resolved.now.active in
    let n = c.loop-depth.depth in
    let last : c.as_slice.result.now ≡ c.loop-depth.last.items = search rules in
    let reads : Reads (some_named_by c.loop-depth.last.items) c.loop-depth.resolved c.read_next.new.resolved c.loop-depth.reader c.read_next.new.reader =
    subst (λ ds. Reads (some_named_by ds) c.loop-depth.resolved c.read_next.new.resolved c.loop-depth.reader c.read_next.new.reader) last c.in_ok-last.ensures.read in
    let more : suc n ≡ n + 1 = omega arith in
    let within : n + 1 ≤ 17 = omega (arith, c.loop-depth-test.true) in (
      c.in_ok-last.ensures.kept ∙ c.loop-depth.invariant.0,
      within,
      subst (λ m. Reads (led active c.args.place m) c.args.resolved.now c.read_next.new.resolved c.args.reader.now c.read_next.new.reader) more
          (reads_round active c.args.place n c.args.resolved.now c.loop-depth.resolved c.read_next.new.resolved c.args.reader.now c.loop-depth.reader c.read_next.new.reader
          c.loop-depth.last.items c.requires c.loop-depth.invariant.2 c.loop-depth.invariant.3 reads),
      subst (λ m. (place : ℕ) → (is_read c.read_next.new.resolved.read place || some_named_by c.in_ok-last.last.items place) ≡ led active c.args.place (suc m) place) more
          (next_round active c.args.place n c.loop-depth.resolved c.read_next.new.resolved c.loop-depth.last.items c.in_ok-last.last.items
          (c.in_ok-last.ensures.kept ∙ c.loop-depth.invariant.0)
          (were_led active c.args.place n c.args.resolved.now c.loop-depth.resolved c.read_next.new.resolved c.args.reader.now c.loop-depth.reader c.read_next.new.reader
          c.loop-depth.last.items c.requires c.loop-depth.invariant.2 c.loop-depth.invariant.3)
          c.loop-depth.invariant.3 reads.places c.in_ok-last.ensures.found),
    )

pub returns-in_err-last-clause-read : goal.returns-in_err-last-clause-read
returns-in_err-last-clause-read c =
    let active = c.args.resolved.now.active in
    let n = c.loop-depth.depth in
    let fails : c.from_residual-in_err-last.result ≡ Err c.in_err-last.field-0.0 = search rules in
    let last : c.as_slice.result.now ≡ c.loop-depth.last.items = search rules in
    let refuses : Refuses (some_named_by c.loop-depth.last.items) c.loop-depth.resolved c.loop-depth.reader c.read_next.new.reader =
    subst (λ ds. Refuses (some_named_by ds) c.loop-depth.resolved c.loop-depth.reader c.read_next.new.reader) last c.in_err-last.ensures.read in
    let within : suc n ≤ 17 = omega (arith, c.loop-depth-test.true) in
    counted_err (led active c.args.place 17) c.args.resolved.now c.read_next.new.resolved c.args.reader.now c.read_next.new.reader
    c.from_residual-in_err-last.result c.in_err-last.field-0.0 fails
    (refuses_round active c.args.place n c.args.resolved.now c.loop-depth.resolved c.read_next.new.resolved c.args.reader.now c.loop-depth.reader c.read_next.new.reader
    c.loop-depth.last.items c.requires c.loop-depth.invariant.2 c.loop-depth.invariant.3 c.loop-depth.invariant.0 within refuses)
