use Rattle.std.proofs.Common.{◌≡◌, ◌∙◌, rules}
use Rattle.std.specs.Prelude.{is_some}
use Rattle.sqlite.specs.WalFiles.{image_at}
use Rattle.pdpd.proofs.ListeningLemmas.{place_found, serves_at_once_from, some_read}
use Rattle.pdpd.specs.Beginning.{known_text}
use Rattle.pdpd.proofs.listen.listen.Goals as goal

pub returns-clause-served : goal.returns-clause-served
returns-clause-served g c =
    let split : is_some c.in_ok-changes.changes ≡ is_some c.args.listening.now.changes =
    c.in_ok-changes.ensures.place ∙ some_read _ _ _ c.changes.ensures in
    serves_at_once_from (image_at g.S.Start) (known_text g.F.Read.remaining c.args.token) (is_some c.args.listening.now.changes) c.listen_at-result.result c.in_ok-front.front c.listen_at-result.new.front
    c.in_ok-front.ensures.begins (rw split at c.listen_at-result.ensures)

pub returns-clause-place : goal.returns-clause-place
returns-clause-place g c = place_found c.args.listening.now.address c.in_ok-place.place _ (search rules) tt
