use Rattle.xa_store.proofs.Common.{removed}
use Rattle.xa_store.proofs.TurnLemmas.{carried}
use Rattle.xa_store.proofs.change.domain.remove.Goals as goal

pub returns : goal.returns
returns g c =
    let plan = c.plan_remove-planned in
    record {
      turns = carried g.S.Store removed c.args.name.now c.args.conn.now plan.new.conn c.carry_out.new.conn plan.ensures.only_reads.quiet plan.result plan.ensures.only_reads.opens plan.ensures.plans
          c.carry_out.result c.carry_out.ensures.runs c.carry_out.ensures.keeps;
    }
