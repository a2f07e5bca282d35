use Rattle.std.proofs.Common.{◌≡◌, ◌++◌, take, map, flat_map, string_bytes}
use Rattle.status_page.specs.MetricTable.{row_of}
use Rattle.status_page.specs.Metrics.{metric_text}
use Rattle.status_page.proofs.metrics.push_each.Given as goal

-- the metrics before this one are there
abbrev pub invariant-loop-metric : goal.invariant-loop-metric
invariant-loop-metric l = string_bytes l.text ≡ string_bytes l.initial.text ++ flat_map (metric_text l.now) (map row_of (take l.metric-index l.metrics))
