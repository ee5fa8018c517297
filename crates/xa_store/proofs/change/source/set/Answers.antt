use Rattle.xa_store.proofs.Common.{source_set, within}
use Rattle.xa_store.proofs.TurnLemmas.{carried}
use Rattle.xa_store.proofs.change.source.set.Goals as goal

pub returns : goal.returns
returns g c =
    let plan = c.plan_source-planned in
    record {
      turns = carried g.S.Store (within (source_set c.args.rows)) c.args.name.now c.args.conn.now plan.new.conn c.carry_out.new.conn plan.ensures.only_reads.quiet plan.result plan.ensures.only_reads.opens plan.ensures.plans
          c.carry_out.result c.carry_out.ensures.runs c.carry_out.ensures.keeps;
    }
