use Rattle.sqlite.specs.WalFiles.{image_at}
use Rattle.pdpd.proofs.BeginningLemmas.{begins_from}
use Rattle.pdpd.specs.Beginning.{known_text}
use Rattle.pdpd.proofs.serve.front_of_files.Goals as goal

pub returns-clause-begins : goal.returns-clause-begins
returns-clause-begins g c =
    begins_from (image_at g.S.Start) c.args.settings.sums (known_text g.F.Read.remaining c.args.token) c.in_ok-operator.operator c.in_ok-records.records c.in_ok-operator.ensures.operator
    c.in_ok-records.ensures.keeper c.front_of_tables.result c.front_of_tables.ensures.operator c.front_of_tables.ensures.records c.front_of_tables.ensures.decisions c.front_of_tables.ensures.closed
