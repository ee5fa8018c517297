-- All that is shared still stands, but for the gate that was forgotten.
use Rattle.std.proofs.Common.{rules}
use Rattle.xa_server.proofs.GateLemmas.{changed_stands}
use Rattle.xa_server.proofs.dispatch.reply_on_operator_route.Goals as goal

pub returns-clause-shared : goal.returns-clause-shared
returns-clause-shared g c = record {
  stands = λ stand sound. search (rules, changed_stands);
  decisions = search rules;
  views = search rules;
}
