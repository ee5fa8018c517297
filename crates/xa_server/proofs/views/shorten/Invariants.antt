use Rattle.std.proofs.Common.{◌≡◌, length, take}
use Rattle.xa_server.proofs.views.shorten.Given as goal

-- of those that find room none has gone
abbrev pub invariant-loop-views : goal.invariant-loop-views
invariant-loop-views l = record {
  cap : l.views.cap ≡ l.fn.views.cap;
  first : take l.count l.views.entries ≡ take l.count l.fn.views.entries;
}

abbrev pub decreases-loop-views : goal.decreases-loop-views
decreases-loop-views l = length l.views.entries
