-- How a row begins.
use Rattle.std.proofs.Common.{◌≡◌, sym, subst}
use Rattle.xa_server.specs.Lines.{Lines, none_open}
use Rattle.xa_reactor.specs.Turn.{AreAlike, Lanes, no_lanes}

-- nobody is there, on either side
pub begins_alike : (lanes : Lanes) (lines : Lines) → lanes ≡ no_lanes → lines ≡ none_open → AreAlike lanes lines
begins_alike lanes lines nobody closed =
    subst (λ (ls : Lanes). AreAlike ls lines) (sym nobody) (subst (λ (ls : Lines). AreAlike no_lanes ls) (sym closed) tt)
