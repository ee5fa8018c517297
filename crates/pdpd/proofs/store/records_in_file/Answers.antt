use Rattle.sqlite.specs.WalFiles.{image_at}
use Rattle.pdpd.proofs.BeginningLemmas.{keeper_from}
use Rattle.pdpd.proofs.store.records_in_file.Goals as goal

pub returns-in-Ok-clause-keeper : goal.returns-in-Ok-clause-keeper
returns-in-Ok-clause-keeper g c =
    keeper_from (image_at g.S.Start) c.args.new_has_sums c.in-Ok.conn c.in-Ok.ensures.opened c.in-Ok.ensures.found c.in-Ok.ensures.sums c.records_over.result c.records_over.ensures.keeper
    c.records_over.ensures.clean
