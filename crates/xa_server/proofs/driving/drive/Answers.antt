use Rattle.std.proofs.Common.{refl, sym}
use Rattle.xa_server.proofs.CourseLemmas.{open_driven}
use Rattle.xa_server.proofs.driving.drive.Goals as goal

pub returns : goal.returns
returns g c =
    open_driven g.R.Records.custody c.args.conn _ _ _ _ c.drive_open.result c.in-Some.connection.now
    c.drive_open.new.connection (sym c.in-Some.ensures.value) refl c.drive_open.ensures
