-- What is responded is what is evaluated; a body that is no JSON has no response.
use Rattle.std.proofs.Common.{rules, ◌≡◌, Ok, Err, refl, sym, ap, ◌∙◌, subst}
use Rattle.std.specs.Option.{ok_or}
use Rattle.std.specs.Prelude.{Some, option_map}
use Rattle.xa_decide.specs.declared.decision.Responded.{Responded}
use Rattle.xa_notation.specs.declared.notation_error.NotationError.TheVariants.{NotJson}
use Rattle.xa_server.specs.declared.error_code.ErrorCode.TheVariants as error
use Rattle.xa_server.specs.declared.handling_error.HandlingError.TheVariants.{Error}
use Rattle.xa_server.specs.Replies.{decision_reply}
use Rattle.xa_server.specs.Work.{IsEvaluated, key_of_revision, response_of}
use Rattle.xa_server.proofs.AskLemmas.{no_response, noted, response_so}
use Rattle.xa_server.proofs.asks.reply_by_view.Goals as goal

pub returns-in_err-responded-clause-tells : goal.returns-in_err-responded-clause-tells
returns-in_err-responded-clause-tells c =
    let code = c.in_err-responded.field-0.0 in
    let told : ok_or c.in_ok-respond.field-0 (error.Body NotJson) ≡ Err code = search rules in
    let stopped : c.from_residual-in_err-responded.result ≡ Err (Error code) = search rules in
    rw stopped (no_response c.args.view.now c.args.read.body c.args.read.ask.now.moment c.in_ok-respond.field-0 code told c.in_ok-respond.ensures.body c.in_ok-respond.ensures.timeless)

pub returns-in_err-responded-clause-works : goal.returns-in_err-responded-clause-works
returns-in_err-responded-clause-works c =
    let code = c.in_err-responded.field-0.0 in
    let told : ok_or c.in_ok-respond.field-0 (error.Body NotJson) ≡ Err code = search rules in
    let stopped : c.from_residual-in_err-responded.result ≡ Err (Error code) = search rules in
    let none = no_response c.args.view.now c.args.read.body c.args.read.ask.now.moment c.in_ok-respond.field-0 code told c.in_ok-respond.ensures.body c.in_ok-respond.ensures.timeless in
    rw stopped (none.0, refl)

pub returns-clause-tells : goal.returns-clause-tells
returns-clause-tells c =
    let responded = c.in_ok-responded.responded in
    let told : ok_or c.in_ok-respond.field-0 (error.Body NotJson) ≡ Ok responded = search rules in
    let is : response_of c.args.view.now c.args.read.body c.args.read.ask.now.moment ≡ Some responded =
    response_so c.args.view.now c.args.read.body c.args.read.ask.now.moment c.in_ok-respond.field-0 responded told c.in_ok-respond.ensures.body c.in_ok-respond.ensures.timeless in
    let sent : c.in_ok-reply.reply ≡ decision_reply responded.body = first_of (search rules, cc) in
    ap (option_map (λ (response : Responded). decision_reply response.body)) is ∙ ap Some (sym sent)

pub returns-clause-works : goal.returns-clause-works
returns-clause-works c =
    let key = key_of_revision c.args.read.ask.now.revision c.args.read.body in
    let responded = c.in_ok-responded.responded in
    let told : ok_or c.in_ok-respond.field-0 (error.Body NotJson) ≡ Ok responded = search rules in
    let is : response_of c.args.view.now c.args.read.body c.args.read.ask.now.moment ≡ Some responded =
    response_so c.args.view.now c.args.read.body c.args.read.ask.now.moment c.in_ok-respond.field-0 responded told c.in_ok-respond.ensures.body c.in_ok-respond.ensures.timeless in
    subst (λ worked. IsEvaluated key worked c.args.decisions.now c.note.new.self) (sym is)
    (noted key c.args.read.key responded c.args.decisions.now c.note.new.self c.requires c.note.ensures)
