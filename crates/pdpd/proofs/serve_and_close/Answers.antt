use Rattle.std.proofs.Common.{rules, ◌≡◌, ◌∙◌, ap, Err, Ok}
use Rattle.sqlite.specs.WalFiles.{image_at}
use Rattle.pdpd.proofs.BeginningLemmas.{serves_files, unclosed_as}
use Rattle.pdpd.proofs.EndingLemmas.{serves_as}
use Rattle.pdpd.specs.Beginning.{known_text}
use Rattle.pdpd.specs.Connections.{at_clock}
use Rattle.pdpd.specs.declared.fault.Fault.TheVariants.{Address}
use Rattle.pdpd.proofs.serve_and_close.Goals as goal

pub returns-in-Err-clause-served : goal.returns-in-Err-clause-served
returns-in-Err-clause-served g c = (c.in-Err.ensures.before, ap g.C.Clock.told c.in-Err.ensures.unasked)

pub returns-in-Err-result-clause-served : goal.returns-in-Err-result-clause-served
returns-in-Err-result-clause-served g c =
    serves_as (image_at g.S.Start) (known_text g.F.Read.remaining c.args.token) (g.C.Clock.told c.args.clock.now) c.args.serving.now.connections c.in-Ok.left.result (Err c.in-Err-result.fault)
    (at_clock c.in-Ok.left.front (g.C.Clock.told c.serve.new.clock)) c.in-Err-result.is c.in-Ok.ensures.served

pub returns-in-Err-result-clause-address : goal.returns-in-Err-result-clause-address
returns-in-Err-result-clause-address g c none =
    let served : c.serve.result ≡ Ok c.in-Ok.left = search rules in
    let refused : c.serve.result ≡ Err Address = c.serve.ensures.address.1 none in
    absurd cc

pub returns-in-Ok-close_records-clause-served : goal.returns-in-Ok-close_records-clause-served
returns-in-Ok-close_records-clause-served g c =
    serves_files (image_at g.S.Start) (known_text g.F.Read.remaining c.args.token) (g.C.Clock.told c.args.clock.now) (g.C.Clock.told c.serve.new.clock) c.args.serving.now.connections
    c.in-Ok.left.front c.into_records.result (Ok c.in-Ok-close_records.closed) (c.into_records.ensures ∙ ap (λ s. s.records) c.into_server.ensures)
    (serves_as (image_at g.S.Start) (known_text g.F.Read.remaining c.args.token) (g.C.Clock.told c.args.clock.now) c.args.serving.now.connections c.in-Ok.left.result (Ok tt)
    (at_clock c.in-Ok.left.front (g.C.Clock.told c.serve.new.clock)) c.in_default.is c.in-Ok.ensures.served)
    c.in-Ok-close_records.ensures.closed

pub returns-in-Ok-close_records-clause-address : goal.returns-in-Ok-close_records-clause-address
returns-in-Ok-close_records-clause-address g c none =
    let served : c.serve.result ≡ Ok c.in-Ok.left = search rules in
    let refused : c.serve.result ≡ Err Address = c.serve.ensures.address.1 none in
    absurd cc

pub returns-in-Err-close_records-clause-served : goal.returns-in-Err-close_records-clause-served
returns-in-Err-close_records-clause-served g c = (
  c.in-Ok.left.front,
  serves_as (image_at g.S.Start) (known_text g.F.Read.remaining c.args.token) (g.C.Clock.told c.args.clock.now) c.args.serving.now.connections c.in-Ok.left.result (Ok tt)
      (at_clock c.in-Ok.left.front (g.C.Clock.told c.serve.new.clock)) c.in_default.is c.in-Ok.ensures.served,
  unclosed_as c.into_records.result c.in-Ok.left.front.server.records c.in-Err-close_records.store (c.into_records.ensures ∙ ap (λ s. s.records) c.into_server.ensures)
      c.in-Err-close_records.ensures.left,
)

pub returns-in-Err-close_records-clause-address : goal.returns-in-Err-close_records-clause-address
returns-in-Err-close_records-clause-address g c none =
    let served : c.serve.result ≡ Ok c.in-Ok.left = search rules in
    let refused : c.serve.result ≡ Err Address = c.serve.ensures.address.1 none in
    absurd cc
