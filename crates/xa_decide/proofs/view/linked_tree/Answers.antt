use Rattle.std.proofs.Common.{◌≤◌}
use Rattle.xa_link.specs.Linking.{link}
use Rattle.xa_link.specs.Reading.{reading}
use Rattle.xa_decide.proofs.ApartLemmas.{answered_apart, given_apart, read_apart}
use Rattle.xa_decide.proofs.view.linked_tree.Goals as goal

pub returns-clause-value : goal.returns-clause-value
returns-clause-value c =
    given_apart c.link.result (link c.args.active.now c.args.root.now) c.memory_apart.result c.memory_apart.ensures.value c.link.ensures.value

pub returns-clause-read : goal.returns-clause-read
returns-clause-read c =
    read_apart c.link.result c.memory_apart.result c.args.reader.now.left c.link.new.reader.left (reading c.args.active.now c.args.root.now)
    c.memory_apart.ensures.value c.link.ensures.read

pub returns-clause-within : goal.returns-clause-within
returns-clause-within c =
    answered_apart c.link.result c.memory_apart.result (reading c.args.active.now c.args.root.now ≤ c.args.reader.now.left) c.memory_apart.ensures.value c.link.ensures.within
