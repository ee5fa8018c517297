use Rattle.std.proofs.Common.{◌≡◌, ◌≤◌, length, take, vec_capacity, vec_len}
use Rattle.xa_server.specs.Front.{IsPlayed}
use Rattle.xa_server.proofs.front.Front.play.Given as goal

-- what was played so far, and room for the outcomes that are left
abbrev pub invariant-loop-event : goal.invariant-loop-event
invariant-loop-event g l = record {
  played : IsPlayed g.R.Records.custody l.fn.self l.self (take l.event-index l.events) l.outcomes.items;
  told : vec_len l.outcomes ≡ l.event-index;
  room : length l.events ≤ vec_capacity l.outcomes;
}
