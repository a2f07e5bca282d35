-- What a running relay answers to `route` and a name.
use Rattle.std.specs.Prelude.{ℕ, List, [], ◌++◌, codes, Option, Some, None}
use Rattle.line_text.specs.Datapoint.{Datapoint}
use Rattle.conf_text.specs.Destination.{Destination}
use Rattle.router.specs.Plan.{Plan, Sent, sent_by}
use Rattle.relay_files.specs.Configuration.{Configuration}
use Rattle.relay_commands.specs.Route.{sent_line, point_named}

-- the word before the line of a metric that is sent on
abbrev pub words_before : Option Datapoint → List ℕ
words_before None = []
words_before (Some point) = codes "route "

abbrev pub live_line : List Destination → Sent → List ℕ
live_line dests sent = words_before sent.point ++ sent_line dests sent

-- the answer of a relay with this plan
abbrev pub live_answer : Plan → List Destination → List ℕ → List ℕ
live_answer plan dests name = live_line dests (sent_by plan (point_named name))

-- the answer of a relay with this configuration
abbrev pub configured_answer : Configuration → List ℕ → List ℕ
configured_answer c name = live_answer c.plan c.settings.routing.destinations name
