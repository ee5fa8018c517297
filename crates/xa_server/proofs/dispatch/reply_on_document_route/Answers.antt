-- All that is shared still stands, but for the gate that was forgotten.
use Rattle.std.proofs.Common.{rules}
use Rattle.xa_server.proofs.GateLemmas.{changed_stands}
use Rattle.xa_server.proofs.dispatch.reply_on_document_route.Goals as goal

pub returns-clause-shared : goal.returns-clause-shared
returns-clause-shared g c = record {
  stands = λ stand sound. search (rules, changed_stands);
  decisions = search rules;
  views = search rules;
}

pub returns-clause-handled : goal.returns-clause-handled
returns-clause-handled g c =
    let admits = c.in_ok-admit.ensures.keeper in
    let does = c.by_document_command.ensures.keeper in
    record {
      answers = λ sound. search rules;
      keeper = record {
        sound = λ sound. admits.sound (does.sound sound);
        clean = λ clean. admits.clean (does.clean clean);
        stays = λ clean sound on. does.stays clean (admits.stays (does.clean clean) sound (does.was_open on)) on;
        leaves = λ clean sound.
            let on = admits.stays_open (λ failed. absurd cc) (g.met.R.Records.open_if_sound c.args.records.now sound) in
            let left = does.leaves clean (admits.stays (does.clean clean) sound on) in
            let less = admits.leaves (does.clean clean) sound in
            search (rules, left, less);
        counts = search rules;
        was_open = λ on. admits.was_open (does.was_open on);
        stays_open = λ other on. does.stays_open other (admits.stays_open (λ failed. absurd cc) on);
      };
    }
