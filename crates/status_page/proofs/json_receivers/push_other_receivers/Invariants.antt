use Rattle.std.proofs.Common.{◌≡◌, ◌++◌, take, flat_map, string_bytes}
use Rattle.status_page.specs.Json.{next_one, receiver_json}
use Rattle.status_page.proofs.json_receivers.push_other_receivers.Given as goal

-- the receivers before this one are there
abbrev pub invariant-loop-receiver : goal.invariant-loop-receiver
invariant-loop-receiver l = string_bytes l.text ≡ string_bytes l.initial.text ++ flat_map (next_one receiver_json) (take l.receiver-index l.receivers)
