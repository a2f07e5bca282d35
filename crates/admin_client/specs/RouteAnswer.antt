-- What a relay answers to `route`.
use Rattle.std.specs.Prelude.{ℕ, List, codes, Option, None, Some, if◌then◌else◌}
use Rattle.std.specs.Str.{bytes_eq}
use Rattle.admin_client.specs.ReloadAnswer.{behind}

pub data RouteEnd : Type 0 where
  -- the metric is sent on: its new name and its destinations, as `relayd route` prints them, and a newline
  Sent : List ℕ → RouteEnd
  -- rewriting leaves no name, and its datapoints are dropped
  Dropped : RouteEnd

-- a metric that is sent on, if there are the words of one
abbrev pub sent_on : Option (List ℕ) → Option RouteEnd
sent_on None = None
sent_on (Some line) = Some (Sent line)

-- what an answer says, if it is one
abbrev pub route_end : List ℕ → Option RouteEnd
route_end answer =
    if bytes_eq answer (codes "dropped\n") then Some Dropped else sent_on (behind (codes "route ") answer)
