use Rattle.std.proofs.Common.{◌≡◌, ◌++◌, take, flat_map, string_bytes}
use Rattle.status_page.specs.Json.{next_one, producer_json}
use Rattle.status_page.proofs.json_producers.push_more_producers.Given as goal

-- the producers before this one are there
abbrev pub invariant-loop-producer : goal.invariant-loop-producer
invariant-loop-producer l = string_bytes l.text ≡ string_bytes l.initial.text ++ flat_map (next_one producer_json) (take l.producer-index l.producers)
