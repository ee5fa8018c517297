use Rattle.xa_store.proofs.Common.{token_put, within}
use Rattle.xa_store.proofs.TurnLemmas.{carried}
use Rattle.xa_store.proofs.change.token.put_token.Goals as goal

pub returns : goal.returns
returns g c =
    let plan = c.plan_put_token-planned in
    record {
      turns = carried g.S.Store (within (token_put c.args.digest c.args.role)) c.args.name.now c.args.conn.now plan.new.conn c.carry_out.new.conn plan.ensures.only_reads.quiet plan.result plan.ensures.only_reads.opens plan.ensures.plans
          c.carry_out.result c.carry_out.ensures.runs c.carry_out.ensures.keeps;
    }
