use Rattle.std.proofs.Common.{rules}
use Rattle.sqlite.specs.WalFiles.{image_at}
use Rattle.pdpd.proofs.BeginningLemmas.{serves_from}
use Rattle.pdpd.proofs.ServingLemmas.{address_found}
use Rattle.pdpd.specs.Beginning.{known_text}
use Rattle.pdpd.specs.Connections.{at_clock}
use Rattle.pdpd.proofs.serve.serve.Goals as goal

pub returns-clause-served : goal.returns-clause-served
returns-clause-served g c =
    serves_from (image_at g.S.Start) (known_text g.F.Read.remaining c.args.token) (g.C.Clock.told c.args.clock.now) c.args.serving.now.connections c.serve_at-result.result c.in_ok-front.front
    (at_clock c.serve_at-result.new.front (g.C.Clock.told c.serve_at-result.new.clock)) c.in_ok-front.ensures.begins c.serve_at-result.ensures.served

pub returns-clause-address : goal.returns-clause-address
returns-clause-address g c = address_found c.args.serving.now.address c.in_ok-address.address _ (search rules) tt
