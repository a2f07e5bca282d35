use Rattle.std.proofs.Common.{◌≡◌, take}
use Rattle.std.specs.Vec.{vec_len, vec_capacity}
use Rattle.live_watch.specs.SentPoints.{all_sent}
use Rattle.live_watch.proofs.joined.sent_of_all.Given as goal

-- what is sent of the first datapoints is there, and the plan is the same
abbrev pub invariant-loop-one : goal.invariant-loop-one
invariant-loop-one l = record {
  count : vec_len l.sent ≡ l.one-index;
  sent : l.sent.items ≡ all_sent l.initial.plan (take l.one-index l.found);
  same : l.plan ≡ l.initial.plan;
  room : vec_capacity l.sent ≡ vec_capacity l.initial.sent;
}
