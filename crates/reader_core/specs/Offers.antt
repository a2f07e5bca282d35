-- What a reader offers: what a plan sends of the datapoints that it reads.
use Rattle.std.specs.Prelude.{ℕ, List, flat_map, count_by}
use Rattle.std.specs.Option.{is_none}
use Rattle.line_text.specs.Datapoint.{Datapoint}
use Rattle.router.specs.Plan.{Plan, sent_by}
use Rattle.reader_core.specs.Input.{Stream}
use Rattle.reader_core.specs.Reading.{accepted_of}
use Rattle.reader_core.specs.Kinds.{relay_reading}
use Rattle.reader_core.specs.Configuration.{Dispatch}
use Rattle.reader_core.specs.PlanConfiguration.{to_all}
use Rattle.reader_core.specs.declared.kind.ReaderKind.{ReaderKind}

-- a datapoint goes once to each destination of its route, in the order of the route
abbrev pub offers_of_point : Plan → Datapoint → List Dispatch
offers_of_point plan point = to_all (sent_by plan point).point (sent_by plan point).dests

abbrev pub offers_by : Plan → List Datapoint → List Dispatch
offers_by plan points = flat_map (offers_of_point plan) points

-- how many of these datapoints rewriting leaves without a metric name
abbrev pub dropped_by : Plan → List Datapoint → ℕ
dropped_by plan points = count_by (λ point. is_none (sent_by plan point).point) points

-- ---- a whole input

-- all that its accepted datapoints become, in order
abbrev pub offers_of : Plan → ReaderKind → List Stream → List Dispatch
offers_of plan kind input = offers_by plan (accepted_of relay_reading kind input)

-- how many of them rewriting drops
abbrev pub bad_names_of : Plan → ReaderKind → List Stream → ℕ
bad_names_of plan kind input = dropped_by plan (accepted_of relay_reading kind input)
