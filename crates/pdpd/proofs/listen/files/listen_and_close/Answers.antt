use Rattle.std.proofs.Common.{rules, ◌≡◌, ◌∙◌, ap, Err, Ok}
use Rattle.std.specs.Prelude.{is_some}
use Rattle.sqlite.specs.WalFiles.{image_at}
use Rattle.pdpd.proofs.BeginningLemmas.{unclosed_as}
use Rattle.pdpd.proofs.ListeningLemmas.{serves_at_once_as, serves_files_at_once}
use Rattle.pdpd.specs.Beginning.{known_text}
use Rattle.pdpd.specs.declared.fault.Fault.TheVariants.{Place}
use Rattle.pdpd.proofs.listen.files.listen_and_close.Goals as goal

pub returns-in-Err-clause-served : goal.returns-in-Err-clause-served
returns-in-Err-clause-served g c = (c.in-Err.ensures.before, ap g.C.Clock.told c.in-Err.ensures.unasked)

pub returns-in-Err-result-clause-served : goal.returns-in-Err-result-clause-served
returns-in-Err-result-clause-served g c =
    serves_at_once_as (image_at g.S.Start) (known_text g.F.Read.remaining c.args.token) (is_some c.args.listening.now.changes) c.in-Ok.left.result (Err c.in-Err-result.fault) c.in-Ok.left.front c.in-Err-result.is
    c.in-Ok.ensures.served

pub returns-in-Err-result-clause-place : goal.returns-in-Err-result-clause-place
returns-in-Err-result-clause-place g c none =
    let served : c.listen.result ≡ Ok c.in-Ok.left = search rules in
    let refused : c.listen.result ≡ Err Place = c.listen.ensures.place.1 none in
    absurd cc

pub returns-in-Ok-close_records-clause-served : goal.returns-in-Ok-close_records-clause-served
returns-in-Ok-close_records-clause-served g c =
    serves_files_at_once (image_at g.S.Start) (known_text g.F.Read.remaining c.args.token) (is_some c.args.listening.now.changes) c.in-Ok.left.front c.into_records.result (Ok c.in-Ok-close_records.closed)
    (c.into_records.ensures ∙ ap (λ s. s.records) c.into_server.ensures)
    (serves_at_once_as (image_at g.S.Start) (known_text g.F.Read.remaining c.args.token) (is_some c.args.listening.now.changes) c.in-Ok.left.result (Ok tt) c.in-Ok.left.front c.in_default.is c.in-Ok.ensures.served)
    c.in-Ok-close_records.ensures.closed

pub returns-in-Ok-close_records-clause-place : goal.returns-in-Ok-close_records-clause-place
returns-in-Ok-close_records-clause-place g c none =
    let served : c.listen.result ≡ Ok c.in-Ok.left = search rules in
    let refused : c.listen.result ≡ Err Place = c.listen.ensures.place.1 none in
    absurd cc

pub returns-in-Err-close_records-clause-served : goal.returns-in-Err-close_records-clause-served
returns-in-Err-close_records-clause-served g c = (
  c.in-Ok.left.front,
  serves_at_once_as (image_at g.S.Start) (known_text g.F.Read.remaining c.args.token) (is_some c.args.listening.now.changes) c.in-Ok.left.result (Ok tt) c.in-Ok.left.front c.in_default.is c.in-Ok.ensures.served,
  unclosed_as c.into_records.result c.in-Ok.left.front.server.records c.in-Err-close_records.store (c.into_records.ensures ∙ ap (λ s. s.records) c.into_server.ensures)
      c.in-Err-close_records.ensures.left,
)

pub returns-in-Err-close_records-clause-place : goal.returns-in-Err-close_records-clause-place
returns-in-Err-close_records-clause-place g c none =
    let served : c.listen.result ≡ Ok c.in-Ok.left = search rules in
    let refused : c.listen.result ≡ Err Place = c.listen.ensures.place.1 none in
    absurd cc
