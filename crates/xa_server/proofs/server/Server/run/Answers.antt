use Rattle.std.proofs.Common.{rules, ◌≡◌, ◌+◌, [], ◌∷◌, ◌++◌, take, ap, refl, sym, ◌∙◌}
use Rattle.std.proofs.lemmas.List.{take_more}
use Rattle.std.proofs.lemmas.Grind.{common_steps}
use Rattle.xa_server.specs.Interruption.{ServesMessage}
use Rattle.xa_server.proofs.ServingLemmas.{are_served, none_served, served_on}
use Rattle.xa_server.proofs.server.Server.run.Goals as goal

pub loop-moment-init : goal.loop-moment-init
loop-moment-init g c =
    let none : c.in_ok-replies.replies.items ≡ [] = search rules in
    record { each = rw none (none_served g.R.Records.custody _); told = search rules; room = search rules }

pub loop-moment-preserved : goal.loop-moment-preserved
loop-moment-preserved g c =
    let first = take c.loop-moment.moment-index c.args.events.now in
    let more : take (c.loop-moment.moment-index + 1) c.args.events.now ≡ first ++ c.loop-moment-item.result ∷ [] =
    take_more c.args.events.now c.loop-moment.moment-index c.loop-moment-item.result c.loop-moment-test.true
    ∙ ap (λ e. first ++ e ∷ []) (sym c.loop-moment-item.is) in
    let pushed : c.push.new.self.items ≡ c.loop-moment.replies.items ++ c.serve-reply.result ∷ [] = search rules in
    let it = c.serve-reply.ensures in
    let serves : ServesMessage g.R.Records.custody c.loop-moment.self c.serve-reply.new.self c.loop-moment-item.result
    c.serve-reply.result = record {
      serves = record {
        served = it.served;
        clean = it.clean;
        stays = it.stays;
        stays_open = it.stays_open;
        crash = it.crash;
      };
      sound = it.sound;
      was_open = it.was_open;
      counts = it.counts;
      work = it.work;
    } in
    record {
      each = rw (more, pushed)
          (served_on g.R.Records.custody _ _ _ _ _ _ _ c.loop-moment.invariant.each
          (c.serve-reply.new.self ∷ [], (serves, refl)));
      told = search rules;
      room = search rules;
    }

pub returns : goal.returns
returns g c =
    let all : take c.loop-moment.moment-index c.args.events.now ≡ c.args.events.now = search (rules, common_steps) in
    let each = rw all at c.loop-moment.invariant.each in
    let served =
    are_served g.R.Records.custody g.met.R.Records.open_if_sound c.args.self.now c.loop-moment.self c.args.events.now
    c.loop-moment.replies.items each.0 each.1 in
    record {
      headline = λ sound. (served.run sound).headline;
      beside_refusals = λ sound. (served.run sound).beside_refusals;
      run = λ sound. (served.run sound).is_run;
      work = λ sound. (served.run sound).work;
      sound = served.keeper.sound;
      served = served;
      err = search rules;
    }
