use Rattle.std.proofs.Common.{refl}
use Rattle.sqlite.specs.Held.{state}
use Rattle.sqlite.specs.Steps.{over_memory}
use Rattle.sqlite.proofs.Callers.{memory_is_clean}
use Rattle.pdpd.proofs.StoreLemmas.{blank}
use Rattle.pdpd.proofs.store.records_in_memory.Goals as goal

pub returns-in-Ok-clause-nothing : goal.returns-in-Ok-clause-nothing
returns-in-Ok-clause-nothing c =
    (c.in-Ok.ensures.makes (blank (state over_memory c.in_ok-conn.conn) c.in_ok-conn.ensures.empty) (memory_is_clean c.in-Ok.records.conn)).2

pub returns-in-Ok-clause-sound : goal.returns-in-Ok-clause-sound
returns-in-Ok-clause-sound c =
    let made = c.in-Ok.ensures.makes (blank (state over_memory c.in_ok-conn.conn) c.in_ok-conn.ensures.empty) (memory_is_clean c.in-Ok.records.conn) in
    c.in-Ok.ensures.sound made.1.had_only_our_tables refl
