use Rattle.std.proofs.Common.{◌≡◌, ◌≤◌, length, take, vec_capacity, vec_len}
use Rattle.xa_server.specs.Serving.{HaveServed}
use Rattle.xa_server.proofs.server.Server.run.Given as goal

-- what was served so far, and room for the replies that are left
abbrev pub invariant-loop-moment : goal.invariant-loop-moment
invariant-loop-moment g l = record {
  each : HaveServed g.R.Records.custody l.fn.self (take l.moment-index l.events) l.replies.items l.self;
  told : vec_len l.replies ≡ l.moment-index;
  room : length l.events ≤ vec_capacity l.replies;
}
