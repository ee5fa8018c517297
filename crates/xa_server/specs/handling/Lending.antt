-- What a front's connections are once one of them, which was lent, is given back.
use Rattle.std.specs.Prelude.{Option, Some}
use Rattle.std.specs.Borrow.{Fml, LendsIf, MutBor}
use Rattle.xa_http.specs.Stream.{Stream}
use Rattle.xa_server.specs.contracts.connection.Connection.{the_row as connection_row}
use Rattle.xa_server.specs.contracts.lines.Lines.{the_row}
use Rattle.xa_server.specs.declared.lines.Conn.{Conn}
use Rattle.xa_server.specs.Lines.{Lines, with_line}

-- the connections are as before, but that one has what was written last for it; if none was lent, they are as before
abbrev pub LendsLine : MutBor Lines → Conn → Option (MutBor Stream) → Fml
LendsLine lines conn connection =
    LendsIf the_row connection_row lines connection (λ stream. with_line conn (Some stream) lines.now) lines.now
