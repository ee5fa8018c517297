use Rattle.std.proofs.Common.{rules, ◌≡◌, ◌+◌, [], ◌∷◌, ◌++◌, take, ap, sym, ◌∙◌}
use Rattle.std.proofs.lemmas.List.{take_more}
use Rattle.xa_server.proofs.PlayLemmas.{none_played, played_on}
use Rattle.xa_server.proofs.front.Front.play.Goals as goal

pub loop-event-init : goal.loop-event-init
loop-event-init g c =
    let none : c.in_ok-outcomes.outcomes.items ≡ [] = search rules in
    record {
      played = rw none (none_played g.R.Records.custody g.met.R.Records.open_if_sound c.args.self.now);
      told = search rules;
      room = search rules;
    }

pub loop-event-preserved : goal.loop-event-preserved
loop-event-preserved g c =
    let first = take c.loop-event.event-index c.args.events.now in
    let more : take (c.loop-event.event-index + 1) c.args.events.now ≡ first ++ c.event-item.result ∷ [] =
    take_more c.args.events.now c.loop-event.event-index c.event-item.result c.loop-event-test.true
    ∙ ap (λ e. first ++ e ∷ []) (sym c.event-item.is) in
    let pushed : c.push.new.self.items ≡ c.loop-event.outcomes.items ++ c.step-outcome.result ∷ [] = search rules in
    record {
      played = rw (more, pushed)
          (played_on g.R.Records.custody g.met.R.Records.open_if_sound c.args.self.now c.loop-event.self
          c.step-outcome.new.self first (c.event-item.result ∷ []) c.loop-event.outcomes.items
          (c.step-outcome.result ∷ []) c.loop-event.invariant.played c.step-outcome.ensures);
      told = search rules;
      room = search rules;
    }
