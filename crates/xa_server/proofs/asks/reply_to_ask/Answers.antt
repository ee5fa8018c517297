-- With the key of the body: it is the one that the domain's revision and the body give.
use Rattle.std.proofs.Common.{rules, ◌≡◌, refl, sym, ap, subst, ◌∙◌}
use Rattle.std.specs.Prelude.{Some, option_map}
use Rattle.xa_cache.specs.Bodies.{found}
use Rattle.xa_server.specs.handling.Asking.{key_within}
use Rattle.xa_server.specs.Replies.{decision_reply}
use Rattle.xa_server.specs.Resources.{AllStand}
use Rattle.xa_server.specs.Work.{cached_body, key_of_revision}
use Rattle.xa_server.proofs.AskLemmas.{held_within, hit_reply}
use Rattle.xa_server.proofs.ResourcesLemmas.{looked_stands}
use Rattle.xa_server.proofs.asks.reply_to_ask.Goals as goal

pub returns-in-Some-2-clause-answers : goal.returns-in-Some-2-clause-answers
returns-in-Some-2-clause-answers g c = λ opens stand sound.
    let kept = (g.R.Records.custody c.args.records.now).kept in
    let old = subst (AllStand kept) (sym c.resources.view_is) stand in
    let whole = key_of_revision c.args.ask.now.revision c.args.body.now in
    let given : Some c.in-Some.key ≡ key_within whole = first_of (search rules, cc) in
    let is : c.in_ok-reply.field-0 ≡ Some c.in-Some-2.reply = search rules in
    let held : Some c.in-Some-2.reply ≡ option_map decision_reply (cached_body whole c.args.body.now c.resources.inside.decisions) =
    sym is ∙ c.in_ok-reply.ensures.found ∙ ap (option_map decision_reply) (sym (held_within whole c.in-Some.key c.resources.inside.decisions given)) in
    hit_reply kept c.args.ask.now.name.now c.args.body.now c.args.ask.now.moment c.args.ask.now.revision c.resources.inside.decisions c.in-Some-2.reply opens old.decisions held

pub returns-in_err-reply-clause-stands : goal.returns-in_err-reply-clause-stands
returns-in_err-reply-clause-stands g c = λ opens stand sound.
    let kept = (g.R.Records.custody c.args.records.now).kept in
    looked_stands kept (found c.in-Some.key c.resources.inside.decisions.cached) c.in-Some.key
    (record { decisions = c.resources.inside.decisions; views = c.resources.inside.views; gates = c.resources.inside.gates }) (record { decisions = c.cached_reply.new.self; views = c.resources.inside.views; gates = c.resources.inside.gates })
    c.cached_reply.ensures.moves refl refl (subst (AllStand kept) (sym c.resources.view_is) stand)

pub returns-in-Some-2-clause-stands : goal.returns-in-Some-2-clause-stands
returns-in-Some-2-clause-stands g c = λ opens stand sound.
    let kept = (g.R.Records.custody c.args.records.now).kept in
    looked_stands kept (found c.in-Some.key c.resources.inside.decisions.cached) c.in-Some.key
    (record { decisions = c.resources.inside.decisions; views = c.resources.inside.views; gates = c.resources.inside.gates }) (record { decisions = c.cached_reply.new.self; views = c.resources.inside.views; gates = c.resources.inside.gates })
    c.cached_reply.ensures.moves refl refl (subst (AllStand kept) (sym c.resources.view_is) stand)
