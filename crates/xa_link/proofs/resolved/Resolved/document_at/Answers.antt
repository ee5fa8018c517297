-- What was found before is neither read nor counted again.
use Rattle.std.proofs.Common.{rules, ◌≡◌, ◌==◌, false, true, Err, ap, ◌∙◌}
use Rattle.xa_link.specs.declared.resolved.Finding.TheVariants.{NotLooked, Looked}
use Rattle.xa_link.specs.placing.Placed.{held}
use Rattle.xa_link.specs.placing.Progress.{is_looked, is_read, marks}
use Rattle.xa_link.proofs.PlacedLemmas.{right_same}
use Rattle.xa_link.proofs.ReadingLemmas.{counted_err, marks_is, marks_put, one_read, one_refused, read_before}
use Rattle.xa_link.proofs.resolved.Resolved.document_at.Goals as goal

pub returns-in-Looked-clause-read : goal.returns-in-Looked-clause-read
returns-in-Looked-clause-read c =
    let at : held c.self.inside.documents.items c.args.place ≡ Looked c.in-Looked.found = search rules in
    let is : is_read (marks c.self.inside.documents.items) c.args.place ≡ true = marks_is c.self.inside.documents.items c.args.place ∙ ap is_looked at in
    rw (← c.self.view_is) (read_before (record { active = c.self.inside.index; read = marks c.self.inside.documents.items }) c.args.reader.now c.args.place is)

pub returns-in_err-found-2-clause-read : goal.returns-in_err-found-2-clause-read
returns-in_err-found-2-clause-read c =
    let at : held c.self.inside.documents.items c.args.place ≡ NotLooked = search rules in
    let unread : is_read (marks c.self.inside.documents.items) c.args.place ≡ false = marks_is c.self.inside.documents.items c.args.place ∙ ap is_looked at in
    let fails : c.from_residual-in_err-found-2.result ≡ Err c.in_err-found-2.field-0.0 = search rules in
    rw (← c.self.view_is) (
    counted_err (λ other. other == c.args.place) (record { active = c.self.inside.index; read = marks c.self.inside.documents.items }) _ c.args.reader.now c.placed_at.new.reader
    c.from_residual-in_err-found-2.result c.in_err-found-2.field-0.0 fails
    (one_refused (record { active = c.self.inside.index; read = marks c.self.inside.documents.items }) c.args.reader.now c.placed_at.new.reader c.args.place unread c.in_err-found-2.ensures.spends))

pub invariant_of-self-in_err-keep : goal.invariant_of-self-in_err-keep
invariant_of-self-in_err-keep c = rw c.in_ok-found-2.ensures.kept (right_same c.self.inside.index _ _ c.self.invariant c.in_err-keep.ensures.err)

pub returns-clause-read : goal.returns-clause-read
returns-clause-read c =
    let at : held c.self.inside.documents.items c.args.place ≡ NotLooked = search rules in
    let unread : is_read (marks c.self.inside.documents.items) c.args.place ≡ false = marks_is c.self.inside.documents.items c.args.place ∙ ap is_looked at in
    rw (← c.self.view_is) (
    one_read (record { active = c.self.inside.index; read = marks c.self.inside.documents.items }) c.args.reader.now c.placed_at.new.reader c.args.place unread c.in_ok-found-2.ensures.spends
    (record { active = c.placed_at.new.index; read = marks c.keep.new.documents.items }) c.in_ok-found-2.ensures.kept
    (marks_put c.self.inside.documents.items c.keep.new.documents.items c.args.place _ c.in_ok-keep.ensures.ok) c.in_ok-found-2.ensures.within)
