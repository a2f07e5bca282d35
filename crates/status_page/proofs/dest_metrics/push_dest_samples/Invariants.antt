use Rattle.std.proofs.Common.{◌≡◌, ◌++◌, take, flat_map, string_bytes}
use Rattle.status_page.specs.Metrics.{dest_sample}
use Rattle.status_page.proofs.dest_metrics.push_dest_samples.Given as goal

-- the dests before this one are there
abbrev pub invariant-loop-dest : goal.invariant-loop-dest
invariant-loop-dest l = string_bytes l.text ≡ string_bytes l.initial.text ++ flat_map (dest_sample l.name l.metric) (take l.dest-index l.dests)
