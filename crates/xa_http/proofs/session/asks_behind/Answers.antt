use Rattle.std.proofs.Common.{false, refl, rules}
use Rattle.xa_http.specs.Messages.{BeginsWithSome, IsUnfinished}
use Rattle.xa_http.proofs.ChangingLemmas.{unfinished_asks, whole_asks}
use Rattle.xa_http.proofs.session.asks_behind.Goals as goal

pub returns-then-not-is_whole : goal.returns-then-not-is_whole
returns-then-not-is_whole c =
    let unfinished : IsUnfinished c.args.held.now = search rules in
    unfinished_asks (record { held = c.args.held.now; ended = false }) unfinished

pub returns : goal.returns
returns c =
    let whole : BeginsWithSome c.args.held.now = search rules in
    rw c.asks_for_change.ensures (whole_asks (record { held = c.args.held.now; ended = false }) c.args.head.now refl c.requires whole)
