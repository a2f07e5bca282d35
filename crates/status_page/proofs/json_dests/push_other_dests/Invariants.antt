use Rattle.std.proofs.Common.{◌≡◌, ◌++◌, take, flat_map, string_bytes}
use Rattle.status_page.specs.Json.{next_one, dest_json}
use Rattle.status_page.proofs.json_dests.push_other_dests.Given as goal

-- the dests before this one are there
abbrev pub invariant-loop-dest : goal.invariant-loop-dest
invariant-loop-dest l = string_bytes l.text ≡ string_bytes l.initial.text ++ flat_map (next_one dest_json) (take l.dest-index l.dests)
