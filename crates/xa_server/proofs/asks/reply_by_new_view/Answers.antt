use Rattle.std.proofs.Common.{refl, sym, subst}
use Rattle.xa_records.specs.Kept.{state_of}
use Rattle.xa_server.specs.Resources.{AllStand}
use Rattle.xa_server.specs.Work.{key_of_revision}
use Rattle.xa_server.proofs.AskLemmas.{works_by}
use Rattle.xa_server.proofs.ResourcesLemmas.{kept_stands}
use Rattle.xa_server.proofs.asks.reply_by_new_view.Goals as goal

pub returns-clause-stands : goal.returns-clause-stands
returns-clause-stands g c = λ opens stand sound.
    let kept = (g.R.Records.custody c.args.records.now).kept in
    let state = state_of c.args.read.ask.now.name.now kept in
    let old = subst (AllStand kept) (sym c.resources.view_is) stand in
    let made = c.in_ok-ready.ensures.tells sound in
    let work = works_by state c.in_ok-ready.ready.view c.args.read.body c.args.read.ask.now.moment (key_of_revision c.args.read.ask.now.revision c.args.read.body) c.reply_by_view.result _ _ made.0 c.reply_by_view.ensures.works in
    kept_stands kept c.args.read.ask.now.name.now c.args.read.body c.args.read.ask.now.moment c.args.read.ask.now.revision (g.met.R.Records.numbered c.args.records.now (c.in_ok-ready.ensures.keeper.sound sound)) opens
    c.reply_by_view.result c.in_ok-ready.ready c.keep.result
    (record { decisions = c.resources.inside.decisions; views = c.resources.inside.views; gates = c.resources.inside.gates }) (record { decisions = c.reply_by_view.new.decisions; views = c.keep.new.self; gates = c.resources.inside.gates })
    work
    made.0 made.1 c.keep.ensures.kept c.keep.ensures.left refl old
