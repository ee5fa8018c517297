use Rattle.std.proofs.Common.{rules, ◌≡◌, sym, ◌∙◌}
use Rattle.xa_link.specs.placing.Placed.{held}
use Rattle.xa_link.specs.placing.Progress.{is_looked}
use Rattle.xa_link.proofs.ReadingLemmas.{marks_is}
use Rattle.xa_link.proofs.resolved.Resolved.is_read.Goals as goal

pub returns : goal.returns
returns c =
    let at : c.is_looked_at.result ≡ is_looked (held c.self.inside.documents.items c.args.place) = search rules in
    rw (← c.self.view_is) (at ∙ sym (marks_is c.self.inside.documents.items c.args.place))
